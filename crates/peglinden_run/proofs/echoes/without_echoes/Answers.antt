-- An echo is left out, and any other fault is kept.
use Rattle.std.proofs.Common.{◌∙◌, IsTrue, sym}
use Rattle.std.proofs.lemmas.Bool.{true≢false}
use Rattle.leafcheck.specs.LostSelections.{is_lost}
use Rattle.leafcheck.specs.LostSubselections.{HasLost}
use Rattle.peglinden_run.specs.Echoes.{IsEcho, LeavesOut}
use Rattle.peglinden_run.proofs.EchoLemmas.{leaves_out-other, leaves_out-so, repeats_as}
use Rattle.peglinden_run.proofs.echoes.without_echoes.Goals as goal

pub loop-leaf-preserved-in-Continue-branch-2 : goal.loop-leaf-preserved-in-Continue-branch-2
loop-leaf-preserved-in-Continue-branch-2 c =
    let leaf = c.in-Some.leaf in
    let same = repeats_as (λ path. IsTrue (is_lost c.in_ok-lost.lost path))
    (λ path. HasLost path c.args.faults.now) c.in_ok-lost.ensures leaf.path leaf.kind in
    rw c.in_ok-push.ensures.items
    (leaves_out-other (IsEcho c.args.faults.now)
    c.loop-leaf.yielded c.loop-leaf.kept.items leaf c.loop-leaf.invariant
    (λ echo. true≢false (sym (c.is_echo.ensures.1 (same.1 echo)) ∙ c.if-not-is_echo.true)))

pub loop-leaf-preserved : goal.loop-leaf-preserved
loop-leaf-preserved c =
    let leaf = c.in-Some.leaf in
    let same = repeats_as (λ path. IsTrue (is_lost c.in_ok-lost.lost path))
    (λ path. HasLost path c.args.faults.now) c.in_ok-lost.ensures leaf.path leaf.kind in
    leaves_out-so (IsEcho c.args.faults.now) c.loop-leaf.yielded c.loop-leaf.kept.items leaf
    c.loop-leaf.invariant (same.0 (c.is_echo.ensures.0 c.if-not-is_echo.false))
