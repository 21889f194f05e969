use Rattle.std.proofs.Common.{◌≡◌, ◌≤◌, ◌-◌, drop, length}
use Rattle.graphql_tokens.specs.Comments.{comment_from}
use Rattle.graphql_tokens.proofs.comments.has_comment.Given as goal

abbrev pub invariant-pieces : goal.invariant-pieces
invariant-pieces l = record {
  within : l.at ≤ length l.bytes;
  same : comment_from 0 (drop l.at l.bytes) ≡ comment_from 0 l.bytes;
}

abbrev pub decreases-pieces : goal.decreases-pieces
decreases-pieces l = length l.bytes - l.at
