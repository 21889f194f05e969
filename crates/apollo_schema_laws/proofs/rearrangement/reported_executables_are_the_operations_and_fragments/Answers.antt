use Rattle.apollo_schema_laws.proofs.Rearranged.Dropped.{reported-executables}
use Rattle.apollo_schema_laws.proofs.rearrangement.reported_executables_are_the_operations_and_fragments.Goals as goal

pub returns : goal.returns
returns c = reported-executables
