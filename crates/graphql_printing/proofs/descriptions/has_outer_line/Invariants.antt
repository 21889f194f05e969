-- No line before has no indent.
use Rattle.std.proofs.Common.{◌≡◌, drop}
use Rattle.std.specs.List.{list_any}
use Rattle.graphql_tokens.specs.BlockStringValues.{lines}
use Rattle.graphql_printing.specs.BlockTest.{is_outer}
use Rattle.graphql_printing.proofs.BlockWalks.{outer_left}
use Rattle.graphql_printing.proofs.descriptions.has_outer_line.Given as goal

abbrev pub invariant-loop-byte : goal.invariant-loop-byte
invariant-loop-byte l = outer_left l.begins (lines (drop l.byte-index l.text))
    ≡ list_any is_outer (lines l.text)
