use Rattle.std.proofs.Common.{◌≡◌, ◌++◌, map}
use Rattle.std.specs.List.{flat_map}
use Rattle.apollo_executable.specs.Operations.{all_operations}
use Rattle.leafcheck.specs.LeafFaults.{fragment_faults, operation_faults}
use Rattle.leafcheck.proofs.checking.leaf_faults.Given as goal

abbrev pub invariant-loop-operation : goal.invariant-loop-operation
invariant-loop-operation l = l.faults ≡ flat_map (operation_faults l.schema) (map (λ n. n.now) l.yielded)

abbrev pub invariant-loop-fragment : goal.invariant-loop-fragment
invariant-loop-fragment l = l.faults ≡ flat_map (operation_faults l.schema) (all_operations
    l.document.operations) ++ flat_map (fragment_faults l.schema) (map (λ n. n.now) l.yielded)
