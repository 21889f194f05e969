-- Calls of `next` of a walk, one after another: GraphQL specification of October 2021, sections 2.4, 2.8 and
-- 6.3.2.
use Rattle.std.specs.Prelude.{Bool, List, [], ◌∷◌, ◌++◌, Some, Ok}
use Rattle.std.specs.Borrow.{Bor}
use Rattle.graphql_nodes.specs.NodeView.{NodeView}
use Rattle.apollo_executable.specs.Walks.NextItem.{IsNext}
use Rattle.apollo_executable.specs.Walks.WalkView.{WalkView, AreWalked, AreReachedNames, TakesAllTurns}
use Rattle.apollo_executable.specs.declared.document.ExecutableDocument.{ExecutableDocument}
use Rattle.apollo_executable.specs.declared.selection.Field.{Field}
use Rattle.apollo_executable.specs.declared.selection.SelectionSet.{SelectionSet}

-- calls of `next` gave these fields, one after another, and left the walk as it is now
pub data HasGiven (start : WalkView) : List (NodeView Field) → WalkView → Type 0 where
  -- no call gave no field
  none_yet : HasGiven start [] start
  -- one call more gave one field more
  one_more : {fields : List (NodeView Field)} {now new : WalkView} {field : Bor (NodeView Field)}
      → HasGiven start fields now → IsNext now (Some (Ok field)) new
      → HasGiven start (fields ++ field.now ∷ []) new

-- a whole walk over the set: these fields are all that are reached, and the turns are all. The opened
-- fragments are those that the set leads to
pub record IsWhole (deep : Bool) (document : ExecutableDocument) (set : SelectionSet)
    (fields : List (NodeView Field)) (end : WalkView) : Type 0 where
  pub walked : AreWalked deep document set fields
  pub turns : TakesAllTurns deep document set end.taken
  pub opened : AreReachedNames deep document set end.opened
