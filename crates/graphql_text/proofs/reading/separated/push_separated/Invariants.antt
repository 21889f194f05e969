use Rattle.std.proofs.Common.{◌≡◌, length}
use Rattle.graphql_grammar.specs.Pieces.{behind_sign, many, mapped, seq, sign, with_front}
use Rattle.graphql_grammar.specs.Standing.{standing}
use Rattle.graphql_text.proofs.reading.separated.push_separated.Given as goal

abbrev pub invariant-items : goal.invariant-items
invariant-items g l =
    with_front l.items ((many
    (mapped behind_sign (seq (sign l.separator) (g.S.Single.piece l.target.file)))).read (standing l.words))
    ≡ with_front l.initial.items
    ((many (mapped behind_sign (seq (sign l.separator) (g.S.Single.piece l.target.file)))).read
    (standing l.fn.words))

abbrev pub decreases-items : goal.decreases-items
decreases-items g l = length (standing l.words).left
