use Rattle.apollo_meaning.proofs.Faults.DroppedLemmas.{each-kept-or-fault}
use Rattle.apollo_meaning.proofs.laws.each_component_is_kept_or_at_fault.Goals as goal

pub returns : goal.returns
returns c = each-kept-or-fault
