-- No line terminator ends between here and the offset.
use Rattle.std.proofs.Common.{◌≡◌, ◌≤◌}
use Rattle.apollo_reporting.specs.Excerpts.{line_start}
use Rattle.apollo_reporting.proofs.excerpt.line_start.Given as goal

abbrev pub invariant-loop-at : goal.invariant-loop-at
invariant-loop-at l = (line_start l.text l.at ≡ line_start l.text l.offset) × (l.at ≤ l.offset)

abbrev pub decreases-loop-at : goal.decreases-loop-at
decreases-loop-at l = l.at
