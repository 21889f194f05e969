use Rattle.std.proofs.Common.{◌≡◌}
use Rattle.std.specs.Prelude.{None}
use Rattle.graphql_tokens.specs.BlockStringValues.{common_indent, lines_left}
use Rattle.graphql_tokens.specs.Texts.{bytes_left}
use Rattle.graphql_tokens.proofs.lines.common_indent.Given as goal

abbrev pub invariant-lines : goal.invariant-lines
invariant-lines l = common_indent l.found (lines_left l.left) ≡ common_indent None (lines_left l.fn.text)

abbrev pub decreases-lines : goal.decreases-lines
decreases-lines l = bytes_left l.left
