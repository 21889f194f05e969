use Rattle.std.proofs.Common.{refl, true≢false}
use Rattle.apollo_executable.specs.Walks.Seen.{seen}
use Rattle.apollo_executable.proofs.Walking.NextLemmas.{later-itself, turns-later, gives-none}
use Rattle.apollo_executable.proofs.Walking.WalkLemmas.{at-end}
use Rattle.apollo_executable.proofs.walks.walk.Walk.advance.Goals as goal

pub returns-then-self : goal.returns-then-self
returns-then-self c =
    let w = c.args.self.now in
    let refused = c.if-self.true in
    let bound = (c.walks_are_left_by_turn.ensures.whole _ _ w.start.now).within (seen w).taken w.bounded in
    gives-none (later-itself (seen w)) (rw refused refl) (rw refused refl) bound
    (rw refused (λ going. absurd (true≢false going)))

pub loop-self-preserved : goal.loop-self-preserved
loop-self-preserved c = (
  turns-later c.loop-self.invariant.0 (rw c.in-Ok-None.field-0-is at c.in-Ok-None.ensures.step),
  c.in-Ok-None.ensures.refused,
)

pub returns : goal.returns
returns c =
    let now = c.loop-self.self in
    let law = c.walks_are_left_by_turn.ensures in
    let over = at-end law.turns law.whole now c.loop-self.invariant.1 c.loop-self-test.false in
    let bound = (law.whole _ _ now.start.now).within (seen now).taken now.bounded in
    gives-none c.loop-self.invariant.0 over.0 (rw (c.loop-self.invariant.1, c.loop-self-test.false) refl)
    bound (λ _. over.1)
