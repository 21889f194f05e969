use Rattle.std.proofs.Common.{length, drop, ◌-◌, ◌+◌, ◌≡◌, ◌≤◌}
use Rattle.graphql_tokens.specs.Pieces.{pieces}
use Rattle.graphql_tokens.proofs.pieces.pieces.Given as goal

abbrev pub invariant-pieces : goal.invariant-pieces
invariant-pieces g l = record {
  within : l.at ≤ length l.text;
  whole : l.at + pieces g.P.Piece.size 0 (drop l.at l.text) ≡ pieces g.P.Piece.size 0 l.text;
}

abbrev pub decreases-pieces : goal.decreases-pieces
decreases-pieces g l = length l.text - l.at
