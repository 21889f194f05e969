use Rattle.std.proofs.Common.{◌≡◌, ◌≤◌, ◌+◌, filter_map, length, drop}
use Rattle.apollo_types.specs.SchemaRoots.{named_root}
use Rattle.apollo_types.proofs.root_operations.RootOperationsExactSizeIterator.len.Given as goal

abbrev pub invariant-loop-operation_type : goal.invariant-loop-operation_type
invariant-loop-operation_type l =
    (l.count + length (filter_map (named_root l.self-inside.definition.now) (drop l.operation_type-index
    l.operation_type-items)) ≡ length l.self) × (l.count ≤ l.operation_type-index)
