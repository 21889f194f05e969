use Rattle.std.proofs.Common.{string_bytes, ◌∙◌}
use Rattle.std.proofs.lemmas.Map.Iter.{rest_all, rest_more}
use Rattle.std.specs.Map.Iter.{deref}
use Rattle.apollo_executable.proofs.Walking.WalkLemmas.{OnErr-always}
use Rattle.gqltool_run.specs.WalkCommand.{operation_with_line}
use Rattle.gqltool_run.proofs.WalkTextLemmas.{set-cut, sets-begin, sets-cut, sets-end, sets-turn}
use Rattle.gqltool_run.proofs.walk_command.push_operations.Goals as goal

pub loop-operation-init : goal.loop-operation-init
loop-operation-init g c = sets-begin operation_with_line c.args.document.now _ _ _ _
    (c.into_iter-operation-iterator.ensures.into_iter_gives ∙ c.iter-operation-items.ensures.rest)

pub loop-operation-preserved : goal.loop-operation-preserved
loop-operation-preserved g c =
    let set_said = rw (
      c.deref-in-loop-operation.ensures,
      c.in_ok-push_operation_line.ensures,
      c.deref.ensures,
    ) at c.in_ok-push_set.ensures.said in
    sets-turn operation_with_line c.args.document.now _ _ _ c.loop-operation.operation-iterator _ _
    (g.O.Outlet.sent c.loop-operation.outlet) (g.O.Outlet.sent c.push_set.new.outlet)
    (string_bytes c.loop-operation.text) (string_bytes c.push_set.new.text) c.loop-operation.invariant
    (rest_more deref c.loop-operation.operation-iterator c.next.new.self c.next.result c.in-Some.operation
    c.in-Some.is c.next.ensures.steps) set_said

pub returns-in_err-push_operation_line-clause-begun : goal.returns-in_err-push_operation_line-clause-begun
returns-in_err-push_operation_line-clause-begun g c = OnErr-always _ _ (sets-cut operation_with_line _ _ _ _
    (c.walks_have_texts.ensures.texts c.args.document.now) c.loop-operation.operation-iterator
    (g.O.Outlet.sent c.loop-operation.outlet) (string_bytes c.loop-operation.text)
    c.loop-operation.invariant)

pub returns-in_err-push_set-clause-begun : goal.returns-in_err-push_set-clause-begun
returns-in_err-push_set-clause-begun g c =
    let set_cut = rw (
      c.deref-in-loop-operation.ensures,
      c.in_ok-push_operation_line.ensures,
      c.deref.ensures,
    ) at c.in_err-push_set.ensures.begun in
    OnErr-always _ _ (set-cut operation_with_line _ _ _ _
    (c.walks_have_texts.ensures.texts c.args.document.now) c.loop-operation.operation-iterator _ _
    (g.O.Outlet.sent c.loop-operation.outlet) _ (string_bytes c.loop-operation.text)
    c.loop-operation.invariant (rest_more deref c.loop-operation.operation-iterator c.next.new.self
    c.next.result c.in-Some.operation c.in-Some.is c.next.ensures.steps) set_cut)

pub returns-clause-said : goal.returns-clause-said
returns-clause-said g c = sets-end operation_with_line c.args.document.now _ _ _
    c.loop-operation.operation-iterator (g.O.Outlet.sent c.loop-operation.outlet)
    (string_bytes c.loop-operation.text) c.loop-operation.invariant
    (rest_all deref c.loop-operation.operation-iterator c.next.new.self c.next.result c.in-None.is
    c.next.ensures.steps)
