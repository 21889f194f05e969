-- What was written, and what stands between it and here, is the front of the whole.
use Rattle.std.proofs.Common.{◌≡◌, ◌-◌, ◌≤◌, List, ℕ, ◌++◌, length, take, drop}
use Rattle.std.specs.Fmt.{HasWritten, IsPlainFormatter}
use Rattle.std.specs.Str.{IsCharBoundary}
use Rattle.graphql_printing.specs.Strings.{quoted_bytes}
use Rattle.graphql_printing.proofs.strings.write_characters.Given as goal

abbrev pub decreases-bytes : goal.decreases-bytes
decreases-bytes g l = length l.fn.text - l.at

abbrev pub invariant-bytes : goal.invariant-bytes
invariant-bytes g l = (l.start ≤ l.at) × (l.at ≤ length l.fn.text) × IsCharBoundary l.fn.text l.start
    × (done : List ℕ) × (done ++ (take (l.at - l.start) (drop l.start l.fn.text)
    ++ quoted_bytes (drop l.at l.fn.text)) ≡ quoted_bytes l.fn.text) × (IsPlainFormatter l.initial.f
    → HasWritten g.W.Write.write_str_gives l.initial.f done l.f)
