-- The bytes so far, and those that the characters that are left take behind them.
use Rattle.std.proofs.Common.{◌≡◌, ◌+◌, drop}
use Rattle.apollo_reporting.specs.Windows.{ahead_by}
use Rattle.apollo_reporting.proofs.window.ahead_by.Given as goal

abbrev pub invariant-loop-at : goal.invariant-loop-at
invariant-loop-at l = ahead_by l.count l.text ≡ l.at + ahead_by l.left (drop l.at l.text)
