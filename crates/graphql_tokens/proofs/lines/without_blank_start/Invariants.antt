use Rattle.std.proofs.Common.{◌≡◌, length}
use Rattle.graphql_tokens.specs.BlockStringValues.{without_blank_start}
use Rattle.graphql_tokens.specs.Texts.{texts_of}
use Rattle.graphql_tokens.proofs.lines.without_blank_start.Given as goal

abbrev pub invariant-lines : goal.invariant-lines
invariant-lines l = without_blank_start (texts_of l.rest) ≡ without_blank_start (texts_of l.list)

abbrev pub decreases-lines : goal.decreases-lines
decreases-lines l = length l.rest
