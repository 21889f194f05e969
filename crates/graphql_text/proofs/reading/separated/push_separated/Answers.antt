-- One more is read, as the list is.
use Rattle.std.proofs.Common.{sym, refl, ◌∙◌}
use Rattle.std.proofs.lemmas.Result.{err_from_is_err_and}
use Rattle.graphql_grammar.specs.Standing.{standing}
use Rattle.graphql_grammar.proofs.LoopLaws.{front_failed, goes_on, goes_wrong, is_done}
use Rattle.graphql_grammar.proofs.ManyLaws.{shorter}
use Rattle.graphql_grammar.proofs.BlindLaws.{another_law}
use Rattle.graphql_text.proofs.reading.separated.push_separated.Goals as goal

pub items-smaller : goal.items-smaller
items-smaller g c =
    let q = g.S.Single.piece c.args.target.file in
    let law = another_law c.args.separator q (g.met.S.Single.law c.args.target.file) in
    shorter _ law refl (standing c.items.words) _ (standing c.behind.new.words) c.in_ok-next.ensures

pub items-preserved : goal.items-preserved
items-preserved g c =
    let q = g.S.Single.piece c.args.target.file in
    let law = another_law c.args.separator q (g.met.S.Single.law c.args.target.file) in
    rw c.in_ok-push.ensures.ok (goes_on _ law refl _ (standing c.items.words) _ (standing c.behind.new.words)
    _ (sym c.next_is.ensures ∙ c.items-test.true) c.in_ok-next.ensures c.items.invariant)

pub returns : goal.returns
returns g c =
    let q = g.S.Single.piece c.args.target.file in
    let law = another_law c.args.separator q (g.met.S.Single.law c.args.target.file) in
    is_done _ law refl _ (standing c.items.words) _ (sym c.next_is.ensures ∙ c.items-test.false)
    c.items.invariant

pub returns-in_err-next : goal.returns-in_err-next
returns-in_err-next g c =
    let q = g.S.Single.piece c.args.target.file in
    let law = another_law c.args.separator q (g.met.S.Single.law c.args.target.file) in
    let e = err_from_is_err_and c.from_residual.result c.from_residual.ensures.1 in
    rw (e.1, e.2) (front_failed _ _ _ _ (goes_wrong _ law refl _ _ _ (standing c.items.words) _
    (sym c.next_is.ensures ∙ c.items-test.true) c.in_err-next.ensures c.items.invariant))
