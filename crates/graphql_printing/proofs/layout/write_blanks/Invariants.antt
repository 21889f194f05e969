-- What was written, and what is still to be, are the blanks.
use Rattle.std.proofs.Common.{◌≡◌, ◌+◌, ℕ, replicate}
use Rattle.std.specs.Fmt.{HasWritten, IsPlainFormatter}
use Rattle.graphql_printing.proofs.layout.write_blanks.Given as goal

abbrev pub invariant-loop-left : goal.invariant-loop-left
invariant-loop-left g l = (done : ℕ) × (done + l.left ≡ l.fn.count) × (IsPlainFormatter l.initial.f
    → HasWritten g.W.Write.write_str_gives l.initial.f (replicate done 32) l.f)

abbrev pub decreases-loop-left : goal.decreases-loop-left
decreases-loop-left g l = l.left
