use Rattle.std.proofs.Common.{◌≡◌, filter, length}
use Rattle.std.specs.Slice.Iter.{iter_rest}
use Rattle.graphql_ast.specs.AppliedDirectives.{is_called}
use Rattle.graphql_ast.proofs.get_all.GetAllIterator.next.Given as goal

abbrev pub invariant-loop-directive : goal.invariant-loop-directive
invariant-loop-directive l = l.fn.self ≡ filter (is_called l.self-inside.name.now)
    (iter_rest l.self-inside.directives)

abbrev pub decreases-loop-directive : goal.decreases-loop-directive
decreases-loop-directive l = length (iter_rest l.self-inside.directives)
