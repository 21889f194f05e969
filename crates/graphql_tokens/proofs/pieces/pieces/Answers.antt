use Rattle.std.proofs.Common.{arith}
use Rattle.graphql_tokens.proofs.PieceLemmas.{behind_pieces, end_of_pieces, ends_with_text, length-rest_at}
use Rattle.graphql_tokens.proofs.pieces.pieces.Goals as goal

pub pieces-init : goal.pieces-init
pieces-init g c = record { within = omega arith; whole = omega arith }

pub pieces-preserved : goal.pieces-preserved
pieces-preserved g c =
    let old = c.pieces.invariant in
    let long = length-rest_at c.pieces.at c.args.text.now in
    record {
      within = omega (arith, old.within, c.some_pieces-size.ensures.within);
      whole = behind_pieces g.P.Piece.size c.args.text.now c.pieces.at old.whole c.some_pieces-size.result
          c.some_pieces-size.ensures.same;
    }

pub returns-then-size-eq0-clause-same : goal.returns-then-size-eq0-clause-same
returns-then-size-eq0-clause-same g c = end_of_pieces g.P.Piece.size c.args.text.now c.pieces.at
    c.pieces.invariant.whole (c.some_pieces-size.ensures.none c.if-size-eq0.true)

pub returns-clause-same : goal.returns-clause-same
returns-clause-same g c = ends_with_text g.P.Piece.size c.args.text.now c.pieces.at c.pieces.invariant.whole
    (omega (arith, c.pieces-test.false))

pub returns-clause-within : goal.returns-clause-within
returns-clause-within g c = c.pieces.invariant.within
