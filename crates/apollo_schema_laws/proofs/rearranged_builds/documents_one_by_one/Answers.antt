use Rattle.std.proofs.Common.{◌++◌, sym}
use Rattle.apollo_meaning.specs.Items.ListItems.{added_items}
use Rattle.apollo_schema_laws.specs.Documents.{added_each, added_joined}
use Rattle.apollo_schema_laws.proofs.rearranged_builds.documents_one_by_one.Goals as goal

pub returns : goal.returns
returns c = record {
  schemas = λ adopts ignores xs documents.
      let list = xs ++ added_each ignores documents in
      c.rearranged.ensures.schemas adopts list (xs ++ added_joined ignores documents)
      (rw (sym (c.documents_one_by_one.ensures ignores documents))
      (c.rearranging_is_an_equivalence.ensures.itself (added_items list)));
  same = λ start adopts ignores xs documents s t means other. c.a_list_means_one_schema.ensures
      start adopts (xs ++ added_joined ignores documents) s t
      (rw (c.documents_one_by_one.ensures ignores documents) at means) other;
  faults = λ adopts ignores xs documents. rw (c.documents_one_by_one.ensures ignores documents);
  stands = λ b start ignores xs documents stands.
      rw (c.documents_one_by_one.ensures ignores documents) at stands;
}
