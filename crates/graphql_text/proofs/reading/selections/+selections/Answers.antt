-- One more is read, as the list is.
use Rattle.std.proofs.Common.{◌∙◌, sym, refl}
use Rattle.std.proofs.lemmas.Result.{err_from_is_err_and}
use Rattle.graphql_grammar.specs.Standing.{standing}
use Rattle.graphql_grammar.proofs.LoopLaws.{front_failed, goes_on, goes_wrong, is_done}
use Rattle.graphql_grammar.proofs.ManyLaws.{shorter}
use Rattle.graphql_productions.proofs.SelectionLaws.{in_set_tame}
use Rattle.graphql_text.proofs.reading.selections.+selections.Goals as goal

pub push_selections-selections-smaller : goal.push_selections-selections-smaller
push_selections-selections-smaller t c =
    let at = c.args.target in
    shorter _ (in_set_tame at.file at.depth).law refl (standing c.selections.words) _
    (standing c.selection.new.words) c.in_ok-next.ensures

pub push_selections-selections-preserved : goal.push_selections-selections-preserved
push_selections-selections-preserved t c =
    let at = c.args.target in
    rw c.in_ok-push.ensures.ok (goes_on _ (in_set_tame at.file at.depth).law refl _
    (standing c.selections.words) _ (standing c.selection.new.words) _ (sym c.next_is_selection.ensures
    ∙ c.selections-test.true) c.in_ok-next.ensures c.selections.invariant)

pub push_selections-returns : goal.push_selections-returns
push_selections-returns t c =
    let at = c.args.target in
    is_done _ (in_set_tame at.file at.depth).law refl _ (standing c.selections.words) _
    (sym c.next_is_selection.ensures ∙ c.selections-test.false) c.selections.invariant

pub push_selections-returns-in_err-next : goal.push_selections-returns-in_err-next
push_selections-returns-in_err-next t c =
    let at = c.args.target in
    let e = err_from_is_err_and c.from_residual.result c.from_residual.ensures.1 in
    rw (e.1, e.2) (front_failed _ _ _ _ (goes_wrong _ (in_set_tame at.file at.depth).law refl _ _ _
    (standing c.selections.words) _ (sym c.next_is_selection.ensures ∙ c.selections-test.true)
    c.in_err-next.ensures c.selections.invariant))
