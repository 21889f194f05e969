use Rattle.apollo_meaning.proofs.Prelude.{added_items}
use Rattle.apollo_schema.proofs.Ends.OrphanNameLemmas.{orphan_names-each}
use Rattle.apollo_schema.proofs.laws.orphan_names_are_extended_and_not_defined.Goals as goal

pub returns : goal.returns
returns c = λ xs. orphan_names-each (added_items xs)
