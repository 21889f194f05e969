use Rattle.std.proofs.Common.{◌≡◌, ◌+◌, ◌≤◌}
use Rattle.graphql_nodes.specs.LineColumns.{column_of, line_of}
use Rattle.graphql_nodes.proofs.line_column.counted.Given as goal

abbrev pub invariant-loop-at : goal.invariant-loop-at
invariant-loop-at l = (l.line ≡ line_of l.text l.at) × (l.column ≡ column_of l.text l.at)
    × (l.line ≤ l.at + 1) × (l.column ≤ l.at + 1)
