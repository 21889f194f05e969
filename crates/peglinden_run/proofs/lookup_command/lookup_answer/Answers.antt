use Rattle.peglinden_run.proofs.TypedLemmas.{texts-length}
use Rattle.peglinden_run.proofs.lookup_command.lookup_answer.Goals as goal

pub returns-in-Ok-clause-means : goal.returns-in-Ok-clause-means
returns-in-Ok-clause-means g c = record {
  coordinate = c.in_ok-coordinate.coordinate;
  says = c.in_ok-coordinate.ensures.says;
  schema = c.in_ok-schema.schema;
  faults = c.in_ok-schema.field-0-1.items;
  means = record {
    documents = c.in_ok-documents.documents.items;
    read = c.in_ok-documents.ensures.documents;
    means = rw (c.none.ensures, c.as_slice.ensures.value) at c.in_ok-schema.ensures.means;
    sources = rw c.as_slice.ensures.value at c.in_ok-schema.ensures.sources;
    are = rw (c.none.ensures, c.as_slice.ensures.value) at c.in_ok-schema.ensures.faults;
  };
  finds = (
    c.in-Ok.found,
    (
      c.in-Ok.ensures.found,
      rw (c.form_of-form.ensures, ← texts-length c.args.paths.now)
          at c.in_ok-found_printed-in-Ok.ensures,
    ),
  );
}

pub returns-clause-means : goal.returns-clause-means
returns-clause-means g c = record {
  coordinate = c.in_ok-coordinate.coordinate;
  says = c.in_ok-coordinate.ensures.says;
  schema = c.in_ok-schema.schema;
  faults = c.in_ok-schema.field-0-1.items;
  means = record {
    documents = c.in_ok-documents.documents.items;
    read = c.in_ok-documents.ensures.documents;
    means = rw (c.none.ensures, c.as_slice.ensures.value) at c.in_ok-schema.ensures.means;
    sources = rw c.as_slice.ensures.value at c.in_ok-schema.ensures.sources;
    are = rw (c.none.ensures, c.as_slice.ensures.value) at c.in_ok-schema.ensures.faults;
  };
  finds = (
    c.in-Err.error,
    (
      c.in-Err.ensures.missing,
      rw (
        c.form_of-form.ensures,
        ← texts-length c.args.paths.now,
      ) at c.in_ok-missing_printed-in-Err.ensures,
    ),
  );
}
