-- What is left of a walk over typed selections, turn by turn, and what a whole walk over a set gives.
use Rattle.std.specs.Prelude.{◌≡◌, ◌⊎◌, ◌<◌, ◌≤◌, ℕ, Bool, true, false, List, [], ◌∷◌, None, Some}
use Rattle.graphql_nodes.specs.NodeView.{NodeView}
use Rattle.graphql_nodes.specs.SameText.{by_text}
use Rattle.graphql_nodes.specs.Tables.{lookup}
use Rattle.apollo_walks.specs.Selections.{Names, with_name}
use Rattle.apollo_walks.specs.ToCome.{ToCome}
use Rattle.apollo_walks.specs.TurnByTurn.{a_turn_before, a_field_before}
use Rattle.apollo_executable.specs.Walks.Plain.{below_of}
use Rattle.apollo_executable.specs.Walks.Left.{left_in, opened_names}
use Rattle.apollo_executable.specs.Walks.WalkView.{AreWalked, IsWithinTurns, TakesAllTurns, AreReachedNames}
use Rattle.apollo_executable.specs.declared.selection.Selection.{Selection}
use Rattle.apollo_executable.specs.declared.selection.Selection.TheVariants as variant
use Rattle.apollo_executable.specs.declared.selection.Field.{Field}
use Rattle.apollo_executable.specs.declared.selection.FragmentSpread.{FragmentSpread}
use Rattle.apollo_executable.specs.declared.selection.InlineFragment.{InlineFragment}
use Rattle.apollo_executable.specs.declared.selection.SelectionSet.{SelectionSet}
use Rattle.apollo_executable.specs.declared.operation.Fragment.{Fragment}
use Rattle.apollo_executable.specs.declared.document.ExecutableDocument.{ExecutableDocument}

-- the open lists with this one, if there is something in it
abbrev pub with_list : List Selection → List (List Selection) → List (List Selection)
with_list [] lists = lists
with_list (s ∷ ss) lists = (s ∷ ss) ∷ lists

-- where these names are opened, and these lists wait
pub record IsLeftByTurn (deep : Bool) (document : ExecutableDocument) (names : Names)
    (lists : List (List Selection)) : Type 0 where
  -- where no list is open, nothing is left
  pub ends : left_in deep document names [] ≡ record { fields = []; opened = names; turns = 0 }
  -- there is a turn left while a list is open
  pub goes_on : (list : List Selection) → 0 < (left_in deep document names (list ∷ lists)).turns
  -- an empty list is closed
  pub closes : left_in deep document names ([] ∷ lists) ≡ a_turn_before (left_in deep document names lists)
  -- a field is given, and the list below it is opened
  pub gives : (n : NodeView Field) (rest : List Selection)
      → left_in deep document names ((variant.Field n ∷ rest) ∷ lists)
      ≡ a_field_before n (left_in deep document names (with_list (below_of deep n.value) (rest ∷ lists)))
  -- the list of an inline fragment is opened
  pub goes_inside : (n : NodeView InlineFragment) (rest : List Selection)
      → left_in deep document names ((variant.InlineFragment n ∷ rest) ∷ lists)
      ≡ a_turn_before (left_in deep document names (n.value.selection_set.selections ∷ (rest ∷ lists)))
  -- a spread of a name that is opened, or that has no fragment, is passed over
  pub passes : (n : NodeView FragmentSpread) (rest : List Selection)
      → (names n.value.fragment_name.text ≡ true) ⊎
      (lookup (by_text n.value.fragment_name.text) document.fragments ≡ None)
      → left_in deep document names ((variant.FragmentSpread n ∷ rest) ∷ lists)
      ≡ a_turn_before (left_in deep document names (rest ∷ lists))
  -- at any other spread the name and the list of its fragment are opened
  pub opens : (n : NodeView FragmentSpread) (rest : List Selection) (f : NodeView Fragment)
      → names n.value.fragment_name.text ≡ false
      → lookup (by_text n.value.fragment_name.text) document.fragments ≡ Some f
      → left_in deep document names ((variant.FragmentSpread n ∷ rest) ∷ lists)
      ≡ a_turn_before (left_in deep document (with_name n.value.fragment_name.text names)
      (f.value.selection_set.selections ∷ (rest ∷ lists)))

-- a whole walk over the set
pub record IsWholeWalk (deep : Bool) (document : ExecutableDocument) (set : SelectionSet)
    (whole : ToCome (NodeView Field)) : Type 0 where
  pub fields : AreWalked deep document set whole.fields
  pub turns : TakesAllTurns deep document set whole.turns
  pub within : (turns : ℕ) → turns ≤ whole.turns → IsWithinTurns deep document set turns
  pub opened : AreReachedNames deep document set (opened_names document whole.opened)
