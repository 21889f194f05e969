-- What is left of a walk, by the sets that are open.
use Rattle.std.specs.Prelude.{◌≡◌, List, [], ◌∷◌, map, reverse, Option, None, Some}
use Rattle.graphql_nodes.specs.NameView.{NameView}
use Rattle.graphql_nodes.specs.NodeView.{NodeView}
use Rattle.apollo_walks.specs.Selections.{Names, no_names}
use Rattle.apollo_walks.specs.ToCome.{ToCome}
use Rattle.apollo_walks.specs.TurnByTurn.{a_turn_before, a_field_before}
use Rattle.apollo_walks.proofs.Steps.{what_is_to_come}
use Rattle.apollo_executable.specs.Walks.Left.{marked_names}
use Rattle.apollo_executable.specs.declared.document.ExecutableDocument.{ExecutableDocument}
use Rattle.apollo_executable.specs.declared.selection.FragmentSpread.{FragmentSpread}
use Rattle.apollo_executable.specs.declared.selection.Selection.{Selection}
use Rattle.apollo_executable.specs.declared.selection.Selection.TheVariants as variant
use Rattle.apollo_executable.specs.declared.selection.SelectionSet.{SelectionSet}
use Rattle.apollo_field_usage.specs.Occurrences.{Occurrence}
use Rattle.apollo_field_usage.specs.Placed.{placed, placed_fragments}
use Rattle.apollo_field_usage.specs.Seen.{seen, seen_set}
use Rattle.apollo_field_usage.specs.declared.occurrence.FieldOccurrence.{FieldOccurrence}
use Rattle.apollo_field_usage.specs.declared.open_sets.OpenSet.{OpenSet}
use Rattle.apollo_field_usage.specs.declared.open_sets.OpenSets.{OpenSets}

-- a set that is open: its type, and what is left of its selections
abbrev pub Open : Type 0
Open = NameView × List Selection

-- open sets, the innermost first
unfoldable pub innermost_first : List OpenSet → List Open
innermost_first sets = reverse (map seen_set sets)

-- the sets that are open, the innermost first
abbrev pub lists_of : OpenSets → List Open
lists_of w = innermost_first w.open.items

-- the names of the fragments that are opened
abbrev pub names_opened : OpenSets → Names
names_opened w = marked_names w.document.now w.opened.items

-- what is to come where these names are opened and these sets are open
unfoldable pub left_in : ExecutableDocument → Names → List Open → ToCome Occurrence
left_in document names lists =
    (what_is_to_come (placed_fragments document) names (map (λ l. placed l.0 l.1) lists)).0

-- what is left of a walk with these sets open
abbrev pub left_of : OpenSets → ToCome Occurrence
left_of w = left_in w.document.now (names_opened w) (lists_of w)

-- what is to come of a walk over a set
abbrev pub all_to_come : ExecutableDocument → SelectionSet → ToCome Occurrence
all_to_come document set = left_in document no_names ((set.ty, set.selections) ∷ [])

-- what was to come before a turn over this set, which found a field or none, by what is to come after it
abbrev pub IsTurn : OpenSets → Open → Option FieldOccurrence → OpenSets → Type 0
IsTurn old set (Some o) new =
    left_in old.document.now (names_opened old) (set ∷ lists_of old) ≡ a_field_before (seen o) (left_of new)
IsTurn old set None new =
    left_in old.document.now (names_opened old) (set ∷ lists_of old) ≡ a_turn_before (left_of new)

-- the same, where a spread stands first in the innermost set, and old has the rest of it open
abbrev pub IsSpreadTurn : OpenSets → NodeView FragmentSpread → OpenSets → Type 0
IsSpreadTurn old n new =
    (ty : NameView) (rest : List Selection) (lists : List Open) → lists_of old ≡ (ty, rest) ∷ lists
    → left_in old.document.now (names_opened old) ((ty, variant.FragmentSpread n ∷ rest) ∷ lists)
    ≡ a_turn_before (left_of new)
