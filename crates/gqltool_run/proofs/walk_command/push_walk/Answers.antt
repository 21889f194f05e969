use Rattle.std.proofs.Common.{rules, ◌≡◌, ◌++◌, Ok, string_bytes, ◌∙◌}
use Rattle.std.proofs.lemmas.Result.{on_err_weaker, on_ok_weaker}
use Rattle.std.specs.List.{flat_map}
use Rattle.apollo_executable.specs.Walks.WalkView.{TakesAllTurns}
use Rattle.apollo_executable.proofs.Walking.WalkLemmas.{OnErr-always}
use Rattle.gqltool_run.specs.WalkCommand.{field_line}
use Rattle.program_io.proofs.WritingLemmas.{goes-nowhere}
use Rattle.gqltool_run.proofs.WalkTextLemmas.{lines-cut, lines-turn, walk-cut, walk-end, walk-end-cut}
use Rattle.gqltool_run.proofs.walk_command.push_walk.Given.{Over}
use Rattle.gqltool_run.proofs.walk_command.push_walk.Goals as goal

pub loop-field-init : goal.loop-field-init
loop-field-init g c = record {
  deep = c.walk_over-walk.ensures.deep_is;
  document = c.walk_over-walk.ensures.document_is;
  start = c.walk_over-walk.ensures.start_is;
  goes_on = c.walk_over-walk.ensures.goes_on;
  says = goes-nowhere _ (string_bytes c.args.text.now
      ++ flat_map (field_line c.args.word.now) (c.walk_over-walk.result).coming);
}

pub loop-field-preserved : goal.loop-field-preserved
loop-field-preserved g c =
    let was = c.loop-field.invariant in
    let steps = c.in-Some.ensures.steps in
    let field = c.in_ok-field.field-0 in
    let given : c.in-Some.field ≡ Ok field = search rules in
    let first = rw given at steps.gives in
    let sent = g.O.Outlet.sent in
    let text = string_bytes c.loop-field.text in
    let whole = string_bytes c.args.text.now ++ flat_map (field_line c.args.word.now)
    c.walk_over-walk.result.coming in
    let line = rw (c.as_str.ensures, c.response_key.ensures, c.deref.ensures)
    at c.in_ok-say_line.ensures.held in
    record {
      deep = steps.deep ∙ was.deep;
      document = steps.document ∙ was.document;
      start = steps.start ∙ was.start;
      goes_on = first.2;
      says = lines-turn _ whole text _ _ (sent c.loop-field.outlet) _ field.now
          c.loop-field.walk.coming c.next.new.self.coming was.says first.0 line;
    }

-- the fields are cut short
pub returns-in_err-field-clause-begun : goal.returns-in_err-field-clause-begun
returns-in_err-field-clause-begun g c =
    let document = c.args.document.now in
    let set = c.args.set.now in
    let turns = c.walks_have_texts.ensures.turns c.args.deep document set in
    OnErr-always _ _ (walk-cut c.args.deep c.args.word.now c.args.turns_word.now document set
    _ _ c.walk_over-walk.result.coming
    c.walk_over-walk.ensures.coming turns.0 turns.1 (g.O.Outlet.sent c.loop-field.outlet) (
      string_bytes c.loop-field.text ++ flat_map (field_line c.args.word.now) c.loop-field.walk.coming,
      c.loop-field.invariant.says,
    ))

pub returns-in_err-say_line-clause-begun : goal.returns-in_err-say_line-clause-begun
returns-in_err-say_line-clause-begun g c =
    let document = c.args.document.now in
    let set = c.args.set.now in
    let turns = c.walks_have_texts.ensures.turns c.args.deep document set in
    let steps = c.in-Some.ensures.steps in
    let field = c.in_ok-field.field-0 in
    let given : c.in-Some.field ≡ Ok field = search rules in
    let first = rw given at steps.gives in
    let sent = g.O.Outlet.sent in
    let text = string_bytes c.loop-field.text in
    let whole = string_bytes c.args.text.now ++ flat_map (field_line c.args.word.now)
    c.walk_over-walk.result.coming in
    let line = rw (
      c.as_str.ensures,
      c.response_key.ensures,
      c.deref.ensures,
    ) at c.in_err-say_line.ensures.begun in
    OnErr-always _ _ (walk-cut c.args.deep c.args.word.now c.args.turns_word.now document set _ _
    c.walk_over-walk.result.coming c.walk_over-walk.ensures.coming turns.0 turns.1 _
    (lines-cut _ whole text _ (sent c.loop-field.outlet) _ field.now c.loop-field.walk.coming
    c.next.new.self.coming c.loop-field.invariant.says first.0 line))

-- the turns of a walk over a set, once it is over
taken : (g : Over) (c : goal.After-drop-walk-inside-3 g)
    → TakesAllTurns c.args.deep c.args.document.now c.args.set.now c.next.new.self.taken
taken g c =
    let was = c.loop-field.invariant in
    let steps = c.in_default.ensures.steps in
    rw (steps.deep ∙ was.deep, steps.document ∙ was.document, steps.start ∙ was.start) at (steps.over
    was.goes_on).0

pub returns-clause-said : goal.returns-clause-said
returns-clause-said g c =
    let was = c.loop-field.invariant in
    let ended = c.next.new.self in
    let sent = g.O.Outlet.sent in
    let text = string_bytes c.loop-field.text in
    let left = string_bytes c.say_turns.new.text in
    on_ok_weaker c.say_turns.result (λ goes. walk-end c.args.deep c.args.word.now c.args.turns_word.now
    c.args.document.now c.args.set.now _ _ c.walk_over-walk.result.coming c.walk_over-walk.ensures.coming
    ended.taken (taken g c) (sent c.loop-field.outlet) (sent c.say_turns.new.outlet) text left
    c.loop-field.walk.coming was.says c.in_default.ensures.steps.gives.0
    (rw c.turns.ensures.turns at goes)) c.say_turns.ensures.held

pub returns-clause-begun : goal.returns-clause-begun
returns-clause-begun g c =
    let was = c.loop-field.invariant in
    let ended = c.next.new.self in
    let sent = g.O.Outlet.sent in
    let text = string_bytes c.loop-field.text in
    on_err_weaker c.say_turns.result (λ cut. walk-end-cut c.args.deep c.args.word.now c.args.turns_word.now
    c.args.document.now c.args.set.now _ _ c.walk_over-walk.result.coming c.walk_over-walk.ensures.coming
    ended.taken (taken g c) (sent c.loop-field.outlet) (sent c.say_turns.new.outlet) text
    c.loop-field.walk.coming was.says c.in_default.ensures.steps.gives.0
    (rw c.turns.ensures.turns at cut)) c.say_turns.ensures.begun
