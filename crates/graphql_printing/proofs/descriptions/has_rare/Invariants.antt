-- What was found, or the rest has, the whole has.
use Rattle.std.proofs.Common.{◌≡◌, ◌||◌, drop}
use Rattle.std.specs.List.{list_any}
use Rattle.graphql_printing.specs.BlockTest.{is_rare}
use Rattle.graphql_printing.proofs.descriptions.has_rare.Given as goal

abbrev pub invariant-loop-byte : goal.invariant-loop-byte
invariant-loop-byte l = (l.found || list_any is_rare (drop l.byte-index l.text)) ≡ list_any is_rare l.text
