-- Typed selections as a walk sees them, each field with the type of the set in which it stands: GraphQL
-- specification of October 2021, sections 2.4 to 2.8.
use Rattle.std.specs.Prelude.{ℕ, List, [], ◌∷◌, Option, map, option_map}
use Rattle.graphql_nodes.specs.NameView.{NameView}
use Rattle.graphql_nodes.specs.SameText.{by_text}
use Rattle.graphql_nodes.specs.Tables.{lookup}
use Rattle.apollo_walks.specs.Selections.{Selections, none, field, spread, inline, Fragments}
use Rattle.apollo_executable.specs.SelectionReading.{WithParts, read_all}
use Rattle.apollo_executable.specs.Walks.Plain.{node_of}
use Rattle.apollo_executable.specs.declared.selection.Selection.{Selection}
use Rattle.apollo_executable.specs.declared.selection.Selection.TheOpen.{Selection-F}
use Rattle.apollo_executable.specs.declared.selection.SelectionSet.{SelectionSet}
use Rattle.apollo_executable.specs.declared.document.ExecutableDocument.{ExecutableDocument}
use Rattle.apollo_field_usage.specs.Occurrences.{Occurrence}

-- selections as a walk sees them, each field with its type
abbrev pub Placed : Type 0
Placed = Selections Occurrence

-- a selection of a set of some type, as a walk sees it, put before others
abbrev pub Before : Type 0
Before = NameView → Placed → Placed

-- one selection in a set of this type, before others
abbrev pub place_before : WithParts Before Placed → Before
place_before (Selection-F.Field n) ty rest = field (record { ty = ty; field = node_of n }) n.value.1 rest
place_before (Selection-F.FragmentSpread n) ty rest = spread n.value.fragment_name.text rest
place_before (Selection-F.InlineFragment n) ty rest = inline n.value.1 rest

-- one selection after the other, in a set of this type
abbrev pub placed_in_order : NameView → List (Selection × Before) → Placed
placed_in_order ty [] = none
placed_in_order ty (s ∷ ss) = s.1 ty (placed_in_order ty ss)

-- some selections in a set of this type, as a walk sees them
unfoldable pub placed : NameView → List Selection → Placed
placed = read_all place_before placed_in_order

-- the selections of a set
abbrev pub placed_set : SelectionSet → Placed
placed_set set = placed set.ty set.selections

-- the fragments of a document, under the keys of its map
unfoldable pub placed_fragments : ExecutableDocument → Fragments Occurrence
placed_fragments document = map (λ e. (e.0.text, placed_set e.1.value.selection_set)) document.fragments

-- the fragment of this name, as a walk sees it
abbrev pub placed_fragment : ExecutableDocument → List ℕ → Option Placed
placed_fragment document n =
    option_map (λ f. placed_set f.value.selection_set) (lookup (by_text n) document.fragments)
