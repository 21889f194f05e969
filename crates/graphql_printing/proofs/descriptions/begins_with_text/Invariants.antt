-- The bytes before are white.
use Rattle.std.proofs.Common.{◌≡◌, drop}
use Rattle.graphql_tokens.specs.BlockStringValues.{lines}
use Rattle.graphql_printing.specs.BlockTest.{first_is_blank}
use Rattle.graphql_printing.proofs.descriptions.begins_with_text.Given as goal

abbrev pub invariant-loop-byte : goal.invariant-loop-byte
invariant-loop-byte l = first_is_blank (lines (drop l.byte-index l.text)) ≡ first_is_blank (lines l.text)
