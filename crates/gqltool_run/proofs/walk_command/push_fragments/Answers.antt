use Rattle.std.proofs.Common.{string_bytes, ◌∙◌}
use Rattle.std.proofs.lemmas.Map.Iter.{rest_all, rest_more}
use Rattle.std.specs.Map.Iter.{deref_pair}
use Rattle.apollo_executable.proofs.Walking.WalkLemmas.{OnErr-always}
use Rattle.gqltool_run.specs.WalkCommand.{fragment_with_line}
use Rattle.gqltool_run.proofs.WalkTextLemmas.{set-cut, sets-begin, sets-cut, sets-end, sets-turn}
use Rattle.gqltool_run.proofs.walk_command.push_fragments.Goals as goal

pub loop-name-init : goal.loop-name-init
loop-name-init g c = sets-begin fragment_with_line c.args.document.now _ _ _ _
    (c.into_iter-name-iterator.ensures.into_iter_gives ∙ c.iter-name-items.ensures.rest)

pub loop-name-preserved : goal.loop-name-preserved
loop-name-preserved g c =
    sets-turn fragment_with_line c.args.document.now _ _ _ c.loop-name.name-iterator _ _
    (g.O.Outlet.sent c.loop-name.outlet) (g.O.Outlet.sent c.push_set.new.outlet)
    (string_bytes c.loop-name.text) (string_bytes c.push_set.new.text) c.loop-name.invariant
    (rest_more deref_pair c.loop-name.name-iterator c.next.new.self c.next.result
    (c.in-Some.name, c.in-Some.fragment) c.in-Some.is c.next.ensures.steps)
    (rw (c.deref.ensures, c.in_ok-push_line.ensures, c.as_str.ensures) at c.in_ok-push_set.ensures.said)

pub returns-in_err-push_line-clause-begun : goal.returns-in_err-push_line-clause-begun
returns-in_err-push_line-clause-begun g c = OnErr-always _ _ (sets-cut fragment_with_line _ _ _ _
    (c.walks_have_texts.ensures.texts c.args.document.now) c.loop-name.name-iterator
    (g.O.Outlet.sent c.loop-name.outlet) (string_bytes c.loop-name.text) c.loop-name.invariant)

pub returns-in_err-push_set-clause-begun : goal.returns-in_err-push_set-clause-begun
returns-in_err-push_set-clause-begun g c = OnErr-always _ _ (set-cut fragment_with_line _ _ _ _
    (c.walks_have_texts.ensures.texts c.args.document.now) c.loop-name.name-iterator _ _
    (g.O.Outlet.sent c.loop-name.outlet) _ (string_bytes c.loop-name.text) c.loop-name.invariant
    (rest_more deref_pair c.loop-name.name-iterator c.next.new.self c.next.result
    (c.in-Some.name, c.in-Some.fragment) c.in-Some.is c.next.ensures.steps)
    (rw (c.deref.ensures, c.in_ok-push_line.ensures, c.as_str.ensures) at c.in_err-push_set.ensures.begun))

pub returns-clause-said : goal.returns-clause-said
returns-clause-said g c = sets-end fragment_with_line c.args.document.now _ _ _ c.loop-name.name-iterator
    (g.O.Outlet.sent c.loop-name.outlet) (string_bytes c.loop-name.text) c.loop-name.invariant
    (rest_all deref_pair c.loop-name.name-iterator c.next.new.self c.next.result c.in-None.is
    c.next.ensures.steps)
