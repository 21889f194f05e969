-- So many characters as are left before here begin where all of them do before the offset.
use Rattle.std.proofs.Common.{◌≡◌, ◌≤◌}
use Rattle.apollo_reporting.specs.Windows.{back_by}
use Rattle.apollo_reporting.proofs.window.back_by.Given as goal

abbrev pub invariant-loop-at : goal.invariant-loop-at
invariant-loop-at l = (back_by l.text l.left l.at ≡ back_by l.text l.count l.offset) × (l.at ≤ l.offset)

abbrev pub decreases-loop-at : goal.decreases-loop-at
decreases-loop-at l = l.at
