use Rattle.apollo_schema_laws.proofs.Rearranged.Found.{faults-rearranged}
use Rattle.apollo_schema_laws.proofs.rearrangement.rearranged_faults_are_the_same.Goals as goal

pub returns : goal.returns
returns c = faults-rearranged
