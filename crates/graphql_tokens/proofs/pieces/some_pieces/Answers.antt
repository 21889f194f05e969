use Rattle.std.proofs.Common.{sym, ◌∙◌}
use Rattle.graphql_tokens.proofs.PieceLemmas.{no_piece, some_of_pieces}
use Rattle.graphql_tokens.proofs.pieces.some_pieces.Goals as goal

pub returns-in-0-clause-same : goal.returns-in-0-clause-same
returns-in-0-clause-same g c = some_of_pieces g.P.Piece.size c.size.result c.args.text.now
    c.size.ensures.same c.size.ensures.within

pub returns-in-0-clause-none : goal.returns-in-0-clause-none
returns-in-0-clause-none g c none = no_piece g.P.Piece.size c.args.text.now (sym c.size.ensures.same ∙ none)
