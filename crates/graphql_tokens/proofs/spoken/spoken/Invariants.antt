use Rattle.std.proofs.Common.{◌≡◌, ◌++◌}
use Rattle.std.specs.Prelude.{string_bytes}
use Rattle.graphql_tokens.specs.Texts.{bytes_left, left_says}
use Rattle.graphql_tokens.proofs.spoken.spoken.Given as goal

abbrev pub invariant-characters : goal.invariant-characters
invariant-characters g l = string_bytes l.value ++ left_says g.S.Says.say l.left ≡ g.S.Says.say l.text

abbrev pub decreases-characters : goal.decreases-characters
decreases-characters g l = bytes_left l.left
