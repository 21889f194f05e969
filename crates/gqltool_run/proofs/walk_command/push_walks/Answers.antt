use Rattle.std.proofs.Common.{map, string_bytes, refl}
use Rattle.std.proofs.lemmas.Result.{on_err_weaker, on_ok_weaker}
use Rattle.apollo_executable.proofs.Walking.WalkLemmas.{OnErr-always}
use Rattle.gqltool_run.specs.WalkCommand.{fragment_with_line}
use Rattle.gqltool_run.proofs.PieceLemmas.{cut-first, cut-second, said-both}
use Rattle.gqltool_run.proofs.WalkTextLemmas.{sets-text}
use Rattle.gqltool_run.proofs.walk_command.push_walks.Goals as goal

pub returns-in_err-push_operations-clause-begun : goal.returns-in_err-push_operations-clause-begun
returns-in_err-push_operations-clause-begun g c =
    let sent = g.O.Outlet.sent in
    let document = c.args.document.now in
    let text = sets-text document (c.walks_have_texts.ensures.texts document)
    (map fragment_with_line document.fragments) in
    OnErr-always _ _ (cut-first (λ x y first then. (x, (first, (y, (then, refl))))) (sent c.args.outlet.now)
    (sent c.push_operations.new.outlet) (string_bytes c.args.text.now) text.0
    c.in_err-push_operations.ensures.begun text.1)

pub returns-clause-said : goal.returns-clause-said
returns-clause-said g c =
    on_ok_weaker c.push_fragments.result
    (λ then. said-both (λ x y first then. (x, (first, (y, (then, refl))))) _ _ _ _ _ _
    c.in_ok-push_operations.ensures.said then) c.push_fragments.ensures.said

pub returns-clause-begun : goal.returns-clause-begun
returns-clause-begun g c =
    on_err_weaker c.push_fragments.result
    (λ cut. cut-second (λ x y first then. (x, (first, (y, (then, refl))))) _ _ _ _ _
    c.in_ok-push_operations.ensures.said cut) c.push_fragments.ensures.begun
