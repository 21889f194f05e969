use Rattle.apollo_meaning.proofs.Faults.DroppedLemmas.{same_name_laws, collisions-dropped, collisions-joined}
use Rattle.apollo_meaning.proofs.laws.later_components_are_at_fault.Goals as goal

pub returns : goal.returns
returns c = record { same = same_name_laws; faults = collisions-dropped; joined = collisions-joined }
