-- What is left of a walk, by the lists that are open.
use Rattle.std.specs.Prelude.{◌≡◌, ℕ, Bool, false, List, [], ◌∷◌, map, filter, reverse, cond, position}
use Rattle.std.specs.Prelude.{slice_index_or, Option, None, Some, Result, Ok, Err}
use Rattle.std.specs.declared.alloc.AllocError.{AllocError}
use Rattle.std.specs.Borrow.{Bor}
use Rattle.std.specs.Option.{option_map_or}
use Rattle.graphql_nodes.specs.NodeView.{NodeView}
use Rattle.graphql_nodes.specs.SameText.{by_text}
use Rattle.graphql_nodes.specs.Tables.{keys_of}
use Rattle.apollo_walks.specs.Selections.{Names, no_names}
use Rattle.apollo_walks.specs.ToCome.{ToCome}
use Rattle.apollo_walks.specs.TurnByTurn.{a_turn_before, a_field_before}
use Rattle.apollo_walks.proofs.Steps.{what_is_to_come}
use Rattle.apollo_executable.specs.Walks.Plain.{plain, fragments_of}
use Rattle.apollo_executable.specs.declared.selection.Selection.{Selection}
use Rattle.apollo_executable.specs.declared.selection.Selection.TheVariants as variant
use Rattle.apollo_executable.specs.declared.selection.Field.{Field}
use Rattle.apollo_executable.specs.declared.selection.FragmentSpread.{FragmentSpread}
use Rattle.apollo_executable.specs.declared.selection.SelectionSet.{SelectionSet}
use Rattle.apollo_executable.specs.declared.document.ExecutableDocument.{ExecutableDocument}
use Rattle.apollo_executable.specs.declared.walks.open_lists.OpenLists.{OpenLists}

-- the lists that wait, the innermost first
unfoldable pub waiting_lists : List (Bor (List Selection)) → List (List Selection)
waiting_lists lists = reverse (map (λ l. l.now) lists)

-- the names whose places are marked
unfoldable pub marked_names : ExecutableDocument → List Bool → Names
marked_names document flags =
    λ n. option_map_or (λ place. slice_index_or flags place false)
    (position (by_text n) (keys_of document.fragments)) false

-- the same, as a list
abbrev pub opened_names : ExecutableDocument → Names → List (List ℕ)
opened_names document names = filter names (map (λ key. key.text) (keys_of document.fragments))

-- the names of the fragments that a walk has opened
abbrev pub names_opened : OpenLists → Names
names_opened w = marked_names w.document.now w.opened.items

-- the lists that are open, the innermost first
abbrev pub lists_of : OpenLists → List (List Selection)
lists_of w = cond w.ended [] (w.current.now ∷ waiting_lists w.waiting.items)

-- what is to come where these names are opened and these lists are open
unfoldable pub left_in : Bool → ExecutableDocument → Names → List (List Selection) → ToCome (NodeView Field)
left_in deep document names lists =
    (what_is_to_come (fragments_of deep document) names (map (plain deep) lists)).0

-- what is left of a walk with these lists open
abbrev pub left_of : OpenLists → ToCome (NodeView Field)
left_of w = left_in w.deep w.document.now (names_opened w) (lists_of w)

-- a whole walk over a set
abbrev pub whole_walk : Bool → ExecutableDocument → SelectionSet → ToCome (NodeView Field)
whole_walk deep document set = left_in deep document no_names (set.selections ∷ [])

-- what was to come before a turn, by what is to come after it
abbrev pub IsTurn : OpenLists → Result (Option (Bor (NodeView Field))) AllocError → OpenLists → Type 0
IsTurn old (Ok (Some field)) new =
    (left_of old ≡ a_field_before field.now (left_of new)) × (new.ended ≡ false)
IsTurn old (Ok None) new = left_of old ≡ a_turn_before (left_of new)
IsTurn old (Err error) new = left_of old ≡ left_of new

-- the same, where old looks at a spread, and then at the rest
abbrev pub IsSpreadTurn : OpenLists → NodeView FragmentSpread → List Selection → OpenLists → Type 0
IsSpreadTurn old n rest new =
    left_in old.deep old.document.now (names_opened old) ((variant.FragmentSpread n ∷ rest)
    ∷ waiting_lists old.waiting.items)
    ≡ a_turn_before (left_in new.deep new.document.now (names_opened new)
    (new.current.now ∷ waiting_lists new.waiting.items))

-- the same lists are open, and the same names are opened
pub record AreSameLists (old new : OpenLists) : Type 0 where
  pub current : new.current.now ≡ old.current.now
  pub waiting : new.waiting.items ≡ old.waiting.items
  pub names : names_opened new ≡ names_opened old
