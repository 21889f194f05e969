-- One more is read, as the list is.
use Rattle.std.proofs.Common.{sym, refl, ◌∙◌}
use Rattle.std.proofs.lemmas.Result.{err_from_is_err_and}
use Rattle.graphql_grammar.specs.Pieces.{item}
use Rattle.graphql_grammar.specs.Standing.{standing}
use Rattle.graphql_grammar.proofs.LoopLaws.{front_failed, goes_on, goes_wrong, is_done}
use Rattle.graphql_grammar.proofs.ManyLaws.{shorter}
use Rattle.graphql_text.proofs.reading.lists.push_items.Goals as goal

pub items-smaller : goal.items-smaller
items-smaller g c =
    let t = c.args.target in
    let p = item g.R.Read.first g.R.Read.wrong (g.R.Read.piece t.file t.constant t.depth) in
    shorter p (g.met.R.Read.law t.file t.constant t.depth) refl (standing c.items.words) _
    (standing c.read_item.new.words) c.in_ok-next.ensures

pub items-preserved : goal.items-preserved
items-preserved g c =
    let t = c.args.target in
    let p = item g.R.Read.first g.R.Read.wrong (g.R.Read.piece t.file t.constant t.depth) in
    rw c.in_ok-push.ensures.ok (goes_on p (g.met.R.Read.law t.file t.constant t.depth) refl _
    (standing c.items.words) _ (standing c.read_item.new.words) _ (sym c.comes_next.ensures
    ∙ c.items-test.true) c.in_ok-next.ensures c.items.invariant)

pub returns : goal.returns
returns g c =
    let t = c.args.target in
    let p = item g.R.Read.first g.R.Read.wrong (g.R.Read.piece t.file t.constant t.depth) in
    is_done p (g.met.R.Read.law t.file t.constant t.depth) refl _ (standing c.items.words) _
    (sym c.comes_next.ensures ∙ c.items-test.false) c.items.invariant

pub returns-in_err-next : goal.returns-in_err-next
returns-in_err-next g c =
    let t = c.args.target in
    let p = item g.R.Read.first g.R.Read.wrong (g.R.Read.piece t.file t.constant t.depth) in
    let e = err_from_is_err_and c.from_residual.result c.from_residual.ensures.1 in
    rw (e.1, e.2) (front_failed _ _ _ _ (goes_wrong p (g.met.R.Read.law t.file t.constant t.depth) refl _ _ _
    (standing c.items.words) _ (sym c.comes_next.ensures ∙ c.items-test.true) c.in_err-next.ensures
    c.items.invariant))
