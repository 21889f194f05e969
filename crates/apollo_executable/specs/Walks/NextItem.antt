-- What a call of `next` gives of a walk, and what it leaves.
use Rattle.std.specs.Prelude.{◌≡◌, ◌<◌, ◌+◌, ℕ, true, false, [], ◌∷◌, length, Option, None, Some, IfNone}
use Rattle.std.specs.Prelude.{IfSome, cond, Result, Ok, Err}
use Rattle.std.specs.Borrow.{Bor}
use Rattle.std.specs.declared.alloc.AllocError.{AllocError}
use Rattle.graphql_nodes.specs.NodeView.{NodeView}
use Rattle.apollo_executable.specs.Walks.WalkView.{WalkView, IsWithinTurns, TakesAllTurns, AreReachedNames}
use Rattle.apollo_executable.specs.declared.selection.Field.{Field}

-- what a walk gives: a field, or the error that memory ran out
abbrev pub Item : Type 0
Item = Result (Bor (NodeView Field)) AllocError

-- the item was the first of those that were to come, and the others are left
abbrev pub GivesFirst : WalkView → Option Item → WalkView → Type 0
-- nothing was to come
GivesFirst old None new = (old.coming ≡ []) × (new.coming ≡ []) × (new.ended ≡ true)
GivesFirst old (Some (Ok field)) new =
    (old.coming ≡ field.now ∷ new.coming) × (old.ended ≡ false) × (new.ended ≡ false)
-- after the error nothing comes
GivesFirst old (Some (Err error)) new = (old.ended ≡ false) × (new.coming ≡ []) × (new.ended ≡ true)

-- a whole walk is over: it took all its turns, and opened the fragments that it leads to
abbrev pub IsOver : WalkView → Type 0
IsOver walk =
    TakesAllTurns walk.deep walk.document walk.start walk.taken
    × AreReachedNames walk.deep walk.document walk.start walk.opened

-- a call of `next` at old that gave the item and left new
pub record IsNext (old : WalkView) (item : Option Item) (new : WalkView) : Type 0 where
  pub deep : new.deep ≡ old.deep
  pub document : new.document ≡ old.document
  pub start : new.start ≡ old.start
  pub gives : GivesFirst old item new
  -- each item takes a turn or more
  pub takes : IfSome item (λ _. old.taken < new.taken)
  -- at every moment
  pub bound : IsWithinTurns new.deep new.document new.start new.taken
  -- where it wasn't over before
  pub over : IfNone item (old.ended ≡ false → IsOver new)
  -- after the end nothing changes any more
  pub rests : IfNone item (old.ended ≡ true → new ≡ old)

-- a field each, and the error
abbrev pub most_items : WalkView → ℕ
most_items walk = cond walk.ended 0 (length walk.coming + 1)
