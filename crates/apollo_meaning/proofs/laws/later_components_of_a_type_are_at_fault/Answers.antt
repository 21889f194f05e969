use Rattle.apollo_meaning.proofs.Faults.DroppedLemmas.{same_component_laws, joined-dropped}
use Rattle.apollo_meaning.proofs.Types.WholeTypeLemmas.{found-joined}
use Rattle.apollo_meaning.proofs.laws.later_components_of_a_type_are_at_fault.Goals as goal

pub returns : goal.returns
returns c = record { same = same_component_laws; faults = joined-dropped; all = found-joined }
