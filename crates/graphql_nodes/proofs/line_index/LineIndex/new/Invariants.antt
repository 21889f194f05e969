-- The lines and columns so far are kept, and the last of them is that of the offset that was come to.
use Rattle.std.proofs.Common.{◌≡◌, ◌+◌, ◌*◌, length}
use Rattle.graphql_nodes.specs.LineColumns.{column_of, line_of}
use Rattle.graphql_nodes.specs.LineIndexes.{AreMilestones}
use Rattle.graphql_nodes.proofs.line_index.LineIndex.new.Given as goal

abbrev pub invariant-loop-number : goal.invariant-loop-number
invariant-loop-number l = AreMilestones l.bytes l.milestones.items × (length l.milestones.items
    ≡ l.number + 1) × (l.place.line ≡ line_of l.bytes (l.number * 256))
    × (l.place.column ≡ column_of l.bytes (l.number * 256))
