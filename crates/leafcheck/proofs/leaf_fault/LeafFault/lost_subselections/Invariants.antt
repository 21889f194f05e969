use Rattle.std.proofs.Common.{◌≡◌, ◌<◌, ℕ, slice_index_or}
use Rattle.apollo_document.specs.Typable.{Fault}
use Rattle.leafcheck.specs.LostSubselections.{IsOfBelow}
use Rattle.leafcheck.proofs.leaf_fault.LeafFault.lost_subselections.Given as goal

abbrev pub invariant-loop-fault : goal.invariant-loop-fault
invariant-loop-fault l = (k : ℕ) (x : Fault) → k < l.fault-index → slice_index_or l.faults k x
    ≡ x → IsOfBelow l.self.path x.1 → ⊥
