use Rattle.apollo_schema_laws.proofs.Rearranged.Found.{completed-rearranged}
use Rattle.apollo_schema_laws.proofs.rearrangement.completed_lists_are_rearranged.Goals as goal

pub returns : goal.returns
returns c = completed-rearranged
