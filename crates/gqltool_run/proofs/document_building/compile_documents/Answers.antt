use Rattle.std.proofs.lemmas.Result.{err_from_is_err_and}
use Rattle.gqltool_run.proofs.CauseLemmas.{compiling-document_cause}
use Rattle.gqltool_run.proofs.document_building.compile_documents.Goals as goal

pub returns-clause-compiled : goal.returns-clause-compiled
returns-clause-compiled c =
    let documents = c.in_ok-documents.documents in
    let is = rw (
      c.none.ensures,
      c.as_slice-2.ensures.value,
      c.as_slice.ensures.value,
    ) at c.in_ok-compiled.ensures.compiled in
    (documents.schema.items, (documents.executable.items, (c.in_ok-documents.ensures.said, is)))

pub returns-in_err-compiled-clause-causes : goal.returns-in_err-compiled-clause-causes
returns-in_err-compiled-clause-causes c =
    let exit = err_from_is_err_and c.from_residual-in_err-compiled.result
    c.from_residual-in_err-compiled.ensures.1 in
    let documents = c.in_ok-documents.documents in
    rw (exit.1, exit.2) (compiling-document_cause c.args.input.now documents.schema.items
    documents.executable.items c.in_err-compiled.field-0.0 c.in_ok-documents.ensures.said
    (λ spent. rw (c.none.ensures, c.as_slice.ensures.value) at (c.in_err-compiled.ensures.spent cc)))
