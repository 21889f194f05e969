use Rattle.std.proofs.Common.{◌≡◌, filter_map, length}
use Rattle.std.specs.Slice.Iter.{iter_rest}
use Rattle.apollo_executable.specs.SelectionParts.{as_field}
use Rattle.apollo_executable.proofs.fields.FieldsIterator.next.Given as goal

abbrev pub invariant-loop-selection : goal.invariant-loop-selection
invariant-loop-selection l = l.fn.self ≡ filter_map as_field (iter_rest l.self-inside.selections)

abbrev pub decreases-loop-selection : goal.decreases-loop-selection
decreases-loop-selection l = length (iter_rest l.self-inside.selections)
