-- What the last line of the rest says, that of the whole says.
use Rattle.std.proofs.Common.{◌≡◌, length}
use Rattle.graphql_tokens.specs.BlockStringValues.{lines}
use Rattle.graphql_printing.specs.BlockTest.{last_is_blank}
use Rattle.graphql_printing.proofs.descriptions.ends_with_text.Given as goal

abbrev pub invariant-bytes : goal.invariant-bytes
invariant-bytes l = last_is_blank (lines l.rest) ≡ last_is_blank (lines l.text)

abbrev pub decreases-bytes : goal.decreases-bytes
decreases-bytes l = length l.rest
