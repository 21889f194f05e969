use Rattle.apollo_meaning.proofs.Faults.DroppedLemmas.{same_root_laws, roots-dropped, roots-joined}
use Rattle.apollo_meaning.proofs.Faults.DroppedLemmas.{found-roots}
use Rattle.apollo_meaning.proofs.laws.later_roots_are_at_fault.Goals as goal

pub returns : goal.returns
returns c = record { same = same_root_laws; faults = roots-dropped; joined = roots-joined; all = found-roots }
