-- What a call of `next` gives, by the last turn that it takes.
use Rattle.std.proofs.Common.{◌≡◌, ◌≤◌, true, false, [], None, Ok, sym, rules, ◌∙◌, arith, true≢false}
use Rattle.apollo_executable.specs.Walks.WalkView.{WalkView, IsWithinTurns}
use Rattle.apollo_executable.specs.Walks.NextItem.{IsNext, IsOver}
use Rattle.apollo_executable.specs.Walks.Step.{IsStep}

-- what stays from one walk to a later one, where the turns between gave no field
pub record IsLater (old now : WalkView) : Type 0 where
  pub deep : now.deep ≡ old.deep
  pub document : now.document ≡ old.document
  pub start : now.start ≡ old.start
  pub coming : old.coming ≡ now.coming
  pub goes_on : now.ended ≡ false → old.ended ≡ false
  pub stands : old.ended ≡ true → now ≡ old
  pub less : old.taken ≤ now.taken

pub later-itself : (walk : WalkView) → IsLater walk walk
later-itself walk = search (rules, arith)

module _ {old now : WalkView} (later : IsLater old now) where
  -- nothing was to come any more
  pub gives-none : now.coming ≡ [] → now.ended ≡ true
      → IsWithinTurns now.deep now.document now.start now.taken → (old.ended ≡ false → IsOver now)
      → IsNext old None now
  gives-none nothing ended bound over = record {
    deep = later.deep;
    document = later.document;
    start = later.start;
    gives = (later.coming ∙ nothing, nothing, ended);
    takes = tt;
    bound = bound;
    over = over;
    rests = later.stands;
  }

  -- a turn that gives no field leaves a later walk
  pub turns-later : {new : WalkView} → IsStep now (Ok None) new → IsLater old new
  turns-later step = record {
    deep = step.deep ∙ later.deep;
    document = step.document ∙ later.document;
    start = step.start ∙ later.start;
    coming = later.coming ∙ step.gives;
    goes_on = λ _. later.goes_on step.going;
    stands = λ ended. absurd (true≢false (sym ended ∙ later.goes_on step.going));
    less = omega (arith, step.taken, later.less);
  }
