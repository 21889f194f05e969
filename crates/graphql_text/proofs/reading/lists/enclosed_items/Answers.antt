-- What may nest stands between the signs.
use Rattle.std.proofs.Common.{subst}
use Rattle.graphql_grammar.specs.Pieces.{Gives, item, some}
use Rattle.graphql_grammar.specs.Standing.{standing}
use Rattle.graphql_productions.specs.Nodes.{between}
use Rattle.graphql_productions.proofs.NestedLemmas.{one_nested}
use Rattle.graphql_text.specs.declared.reading.target.Target.{Target}
use Rattle.graphql_text.proofs.reading.lists.enclosed_items.Goals as goal

pub returns : goal.returns
returns g c =
    let t = c.args.target in
    let (opens, one_less) = c.in_ok-inside.ensures in
    rw (one_nested t.depth (λ inside. between c.args.opening c.args.closing g.R.Read.wrong
    (some (item g.R.Read.first g.R.Read.wrong (g.R.Read.piece t.file t.constant inside))))
    (standing c.args.words.now) opens) (subst (λ (inside : Target). Gives c.between_items.result
    (standing c.between_items.new.words) ((between c.args.opening c.args.closing g.R.Read.wrong
    (some (item g.R.Read.first g.R.Read.wrong
    (g.R.Read.piece inside.file inside.constant inside.depth)))).read (standing c.args.words.now))) one_less
    c.between_items.ensures)
