use Rattle.std.proofs.Common.{length, drop, ◌-◌, ◌≡◌, ◌≤◌}
use Rattle.graphql_tokens.specs.Ignored.{one_ignored}
use Rattle.graphql_tokens.specs.Tokens.{tokens_from, tokens_of}
use Rattle.graphql_tokens.proofs.TokenLemmas.{put_before}
use Rattle.graphql_tokens.proofs.lexing.tokens.Given as goal

abbrev pub invariant-tokens : goal.invariant-tokens
invariant-tokens l = record {
  within : l.at ≤ length l.bytes;
  none : one_ignored (drop l.at l.bytes) ≡ 0;
  whole : tokens_of l.bytes ≡ put_before l.list (tokens_from 0 l.at (drop l.at l.bytes));
}

abbrev pub decreases-tokens : goal.decreases-tokens
decreases-tokens l = length l.bytes - l.at
