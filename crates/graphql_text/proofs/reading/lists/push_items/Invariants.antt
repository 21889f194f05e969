use Rattle.std.proofs.Common.{◌≡◌, length}
use Rattle.graphql_grammar.specs.Pieces.{item, many, with_front}
use Rattle.graphql_grammar.specs.Standing.{standing}
use Rattle.graphql_text.proofs.reading.lists.push_items.Given as goal

abbrev pub invariant-items : goal.invariant-items
invariant-items g l =
    with_front l.items ((many (item g.R.Read.first g.R.Read.wrong (g.R.Read.piece l.target.file
    l.target.constant l.target.depth))).read (standing l.words)) ≡ with_front l.initial.items
    ((many (item g.R.Read.first g.R.Read.wrong (g.R.Read.piece l.target.file l.target.constant
    l.target.depth))).read (standing l.fn.words))

abbrev pub decreases-items : goal.decreases-items
decreases-items g l = length (standing l.words).left
