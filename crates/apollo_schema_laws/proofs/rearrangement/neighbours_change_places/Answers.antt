use Rattle.apollo_schema_laws.proofs.Rearranged.Found.{neighbours-rearranged}
use Rattle.apollo_schema_laws.proofs.rearrangement.neighbours_change_places.Goals as goal

pub returns : goal.returns
returns c = neighbours-rearranged
