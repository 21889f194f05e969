-- What is left is for the rest, as far as it goes.
use Rattle.std.proofs.Common.{◌≡◌, ◌+◌, ◌-◌, ◌≤◌, drop, min}
use Rattle.graphql_printing.specs.Widths.{width}
use Rattle.graphql_printing.proofs.widths.capped_width.Given as goal

abbrev pub invariant-loop-byte : goal.invariant-loop-byte
invariant-loop-byte l = (l.left ≤ l.most) × (min l.most (width l.text) ≡ l.most - l.left
    + min l.left (width (drop l.byte-index l.text)))
