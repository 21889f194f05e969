-- What a contract sees of a walk.
use Rattle.std.specs.Prelude.{◌≡◌, ◌↔◌, ℕ, Bool, false, List, [], refl}
use Rattle.std.specs.Coded.{Coded, code_by, coded×, coded_list, coded_ℕ, coded_bool}
use Rattle.graphql_nodes.specs.NodeView.{NodeView}
use Rattle.apollo_walks.specs.Reachable.{Among, Reachable}
use Rattle.apollo_walks.specs.Turns.{AreAllTurns, AreWithinTurns}
use Rattle.apollo_walks.specs.Whole.{IsWalk}
use Rattle.apollo_executable.specs.Walks.Plain.{plain, fragments_of}
use Rattle.apollo_executable.specs.declared.selection.Field.{Field}
use Rattle.apollo_executable.specs.declared.selection.SelectionSet.{SelectionSet}
use Rattle.apollo_executable.specs.declared.document.ExecutableDocument.{ExecutableDocument}

-- what a contract sees of a walk over a set
pub record WalkView : Type 0 where
  -- it goes below fields
  pub deep : Bool
  pub document : ExecutableDocument
  pub start : SelectionSet
  -- the fields that are still to come
  pub coming : List (NodeView Field)
  -- the names of the fragments that are opened: said where a walk begins and where it is over
  pub opened : List (List ℕ)
  -- the end came, or the error
  pub ended : Bool
  -- the turns so far
  pub taken : ℕ

-- the view that has these parts
abbrev pub walk_view : Bool → ExecutableDocument → SelectionSet → List (NodeView Field) → List (List ℕ) → Bool
    → ℕ → WalkView
walk_view b d s c o e t =
    record { deep = b; document = d; start = s; coming = c; opened = o; ended = e; taken = t }

-- such views can be told apart, as all that a reference refers to has to be
abbrev pub walk_view_code : Coded ExecutableDocument → Coded SelectionSet → Coded (NodeView Field)
    → Coded WalkView
walk_view_code document set field =
    code_by (Bool × (ExecutableDocument
    × (SelectionSet × (List (NodeView Field) × (List (List ℕ) × (Bool × ℕ))))))
    (coded× coded_bool (coded× document
    (coded× set (coded× (coded_list field)
    (coded× (coded_list (coded_list coded_ℕ)) (coded× coded_bool coded_ℕ))))))
    (λ w. (w.deep, (w.document, (w.start, (w.coming, (w.opened, (w.ended, w.taken)))))))
    (λ p. walk_view p.0 p.1.0 p.1.1.0 p.1.1.1.0 p.1.1.1.1.0 p.1.1.1.1.1.0 p.1.1.1.1.1.1) (λ _. refl)

-- the fields are those of a whole walk over the set. Each one that is reached is there exactly as often as it
-- stands there, in the order of walks. Where `deep` is false, it is a walk over root fields
abbrev pub AreWalked : Bool → ExecutableDocument → SelectionSet → List (NodeView Field) → Type 0
AreWalked deep document set fields = IsWalk (fragments_of deep document) (plain deep set.selections) fields

-- so many turns are at most two for each selection in reach, and one
abbrev pub IsWithinTurns : Bool → ExecutableDocument → SelectionSet → ℕ → Type 0
IsWithinTurns deep document set turns =
    AreWithinTurns (fragments_of deep document) (plain deep set.selections) turns

-- so many turns are those of a whole walk
abbrev pub TakesAllTurns : Bool → ExecutableDocument → SelectionSet → ℕ → Type 0
TakesAllTurns deep document set turns =
    AreAllTurns (fragments_of deep document) (plain deep set.selections) turns

-- these names are those that the set leads to
abbrev pub AreReachedNames : Bool → ExecutableDocument → SelectionSet → List (List ℕ) → Type 0
AreReachedNames deep document set opened =
    (n : List ℕ) → Among n opened ↔ Reachable (fragments_of deep document) (plain deep set.selections) n

-- a walk over the set that is to begin
pub record IsNewWalk (deep : Bool) (document : ExecutableDocument) (set : SelectionSet)
    (walk : WalkView) : Type 0 where
  pub deep_is : walk.deep ≡ deep
  pub document_is : walk.document ≡ document
  pub start_is : walk.start ≡ set
  pub coming : AreWalked deep document set walk.coming
  pub opened : walk.opened ≡ []
  pub goes_on : walk.ended ≡ false
  pub taken : walk.taken ≡ 0
