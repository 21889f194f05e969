use Rattle.std.proofs.Common.{refl}
use Rattle.std.proofs.lemmas.Result.{on_err_weaker, on_ok_weaker}
use Rattle.apollo_executable.proofs.Walking.WalkLemmas.{OnErr-always}
use Rattle.gqltool_run.proofs.PieceLemmas.{cut-first, cut-second, said-both}
use Rattle.gqltool_run.proofs.walk_command.push_set.Goals as goal

pub returns-in_err-push_walk-clause-begun : goal.returns-in_err-push_walk-clause-begun
returns-in_err-push_walk-clause-begun g c =
    let text = c.walks_have_texts.ensures.texts c.args.document.now c.args.set.now in
    OnErr-always _ _ (cut-first
    (λ x y root all. record { root = x; root_says = root; all = y; all_says = all; says = refl }) _ _ _
    text.1.all c.in_err-push_walk.ensures.begun text.1.all_says)

pub returns-clause-said : goal.returns-clause-said
returns-clause-said g c =
    on_ok_weaker c.push_walk-2.result
    (λ then. said-both (λ x y root all.
    record { root = x; root_says = root; all = y; all_says = all; says = refl }) _ _ _ _ _ _
    c.in_ok-push_walk.ensures.said then) c.push_walk-2.ensures.said

pub returns-clause-begun : goal.returns-clause-begun
returns-clause-begun g c =
    on_err_weaker c.push_walk-2.result
    (λ cut. cut-second (λ x y root all.
    record { root = x; root_says = root; all = y; all_says = all; says = refl }) _ _ _ _ _
    c.in_ok-push_walk.ensures.said cut) c.push_walk-2.ensures.begun
