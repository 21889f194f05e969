use Rattle.std.proofs.Common.{◌≡◌, filter_map, length}
use Rattle.std.specs.Slice.Iter.{iter_rest}
use Rattle.apollo_types.specs.SchemaRoots.{named_root}
use Rattle.apollo_types.proofs.root_operations.RootOperationsIterator.next.Given as goal

abbrev pub invariant-loop-operation_type : goal.invariant-loop-operation_type
invariant-loop-operation_type l = l.fn.self ≡ filter_map (named_root l.self-inside.definition.now)
    (iter_rest l.self-inside.operation_types)

abbrev pub decreases-loop-operation_type : goal.decreases-loop-operation_type
decreases-loop-operation_type l = length (iter_rest l.self-inside.operation_types)
