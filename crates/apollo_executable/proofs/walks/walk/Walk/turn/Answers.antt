use Rattle.std.proofs.Common.{arith}
use Rattle.apollo_executable.proofs.Walking.WalkLemmas.{turned}
use Rattle.apollo_executable.proofs.walks.walk.Walk.turn.Goals as goal

pub invariant_of-self : goal.invariant_of-self
invariant_of-self c =
    let law = c.walks_are_left_by_turn.ensures in
    let w = c.args.self.now in
    let e = c.turn-turn.ensures in
    let t = turned law.turns law.whole w c.turn-turn.new.self c.turn-turn.result c.requires.going e.deep
    e.document e.turn in
    let before = rw c.requires.fine at w.counted in
    record {
      left_over = t.left_over;
      left_open = t.left_open;
      counted = rw c.is_err-self.ensures.value
          (omega (arith, c.saturating_add-self.ensures, before, t.step.taken));
      bounded = rw c.is_err-self.ensures.value t.bounded;
    }

pub returns-clause-step : goal.returns-clause-step
returns-clause-step c =
    let law = c.walks_are_left_by_turn.ensures in
    let e = c.turn-turn.ensures in
    rw (c.requires.fine, c.is_err-self.ensures.value) (turned law.turns law.whole c.args.self.now
    c.turn-turn.new.self c.turn-turn.result c.requires.going e.deep e.document e.turn).step

pub returns-clause-less : goal.returns-clause-less
returns-clause-less c =
    let law = c.walks_are_left_by_turn.ensures in
    let e = c.turn-turn.ensures in
    (turned law.turns law.whole c.args.self.now c.turn-turn.new.self c.turn-turn.result c.requires.going
    e.deep e.document e.turn).less
