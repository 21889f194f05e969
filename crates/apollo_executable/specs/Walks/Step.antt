-- What one turn gives of a walk, and what it leaves.
use Rattle.std.specs.Prelude.{◌≡◌, ◌+◌, true, false, [], ◌∷◌, Option, None, Some, Result, Ok, Err}
use Rattle.std.specs.Borrow.{Bor}
use Rattle.std.specs.declared.alloc.AllocError.{AllocError}
use Rattle.graphql_nodes.specs.NodeView.{NodeView}
use Rattle.apollo_executable.specs.Walks.WalkView.{WalkView, IsWithinTurns}
use Rattle.apollo_executable.specs.declared.selection.Field.{Field}

-- it gave the first field that was to come, or none, or after the error nothing comes
abbrev pub GivesInTurn : WalkView → Result (Option (Bor (NodeView Field))) AllocError → WalkView → Type 0
GivesInTurn old (Ok (Some field)) new = (old.coming ≡ field.now ∷ new.coming) × (new.ended ≡ false)
GivesInTurn old (Ok None) new = old.coming ≡ new.coming
GivesInTurn old (Err error) new = (new.coming ≡ []) × (new.ended ≡ true)

-- a turn of a walk that goes on, which left new
pub record IsStep (old : WalkView) (did : Result (Option (Bor (NodeView Field))) AllocError)
    (new : WalkView) : Type 0 where
  pub deep : new.deep ≡ old.deep
  pub document : new.document ≡ old.document
  pub start : new.start ≡ old.start
  pub going : old.ended ≡ false
  pub gives : GivesInTurn old did new
  pub taken : new.taken ≡ old.taken + 1
  pub bound : IsWithinTurns new.deep new.document new.start new.taken
