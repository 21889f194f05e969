-- What is left is for the rest.
use Rattle.std.proofs.Common.{◌≡◌, drop, nat_lt}
use Rattle.graphql_printing.specs.Widths.{width}
use Rattle.graphql_printing.proofs.widths.is_wider.Given as goal

abbrev pub invariant-loop-byte : goal.invariant-loop-byte
invariant-loop-byte l = nat_lt l.left (width (drop l.byte-index l.text)) ≡ nat_lt l.most (width l.text)
