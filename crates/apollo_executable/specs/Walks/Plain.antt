-- Typed selections as a walk sees them: GraphQL specification of October 2021, sections 2.4 to 2.8. A walk
-- over root fields sees nothing below a field.
use Rattle.std.specs.Prelude.{Bool, List, [], ◌∷◌, map, cond}
use Rattle.graphql_nodes.specs.NodeView.{NodeView}
use Rattle.apollo_walks.specs.Selections.{Selections, none, field, spread, inline, Fragments}
use Rattle.apollo_executable.specs.SelectionReading.{WithParts, read_one}
use Rattle.apollo_executable.specs.declared.selection.Selection.{Selection}
use Rattle.apollo_executable.specs.declared.selection.Selection.TheOpen.{Selection-F}
use Rattle.apollo_executable.specs.declared.selection.Field.{Field}
use Rattle.apollo_executable.specs.declared.document.ExecutableDocument.{ExecutableDocument}

-- selections as a walk sees them, with typed fields
abbrev pub Plain : Type 0
Plain = Selections (NodeView Field)

-- a field as a node, where its value has more with it
abbrev pub node_of : {A : Type 0} → NodeView (Field × A) → NodeView Field
node_of n = record { value = n.value.0; location = n.location }

-- where `deep` is false, nothing below a field is seen
abbrev pub when_deep : Bool → Plain → Plain
when_deep deep below = cond deep below none

-- one selection before others, as a walk sees them
abbrev pub put_before : Bool → WithParts (Plain → Plain) Plain → Plain → Plain
put_before deep (Selection-F.Field n) rest = field (node_of n) (when_deep deep n.value.1) rest
put_before deep (Selection-F.FragmentSpread n) rest = spread n.value.fragment_name.text rest
put_before deep (Selection-F.InlineFragment n) rest = inline n.value.1 rest

-- one selection after the other
abbrev pub in_order : List (Selection × (Plain → Plain)) → Plain
in_order [] = none
in_order (s ∷ ss) = s.1 (in_order ss)

-- what a walk sees of a selection, before others
abbrev pub seen_selection : Bool → Selection → Plain → Plain
seen_selection deep = read_one (put_before deep) (λ _. in_order)

-- some selections, as a walk sees them
unfoldable pub plain : Bool → List Selection → Plain
plain deep ss = in_order (map (λ s. (s, seen_selection deep s)) ss)

-- what a walk looks at below a field
abbrev pub below_of : Bool → Field → List Selection
below_of deep f = cond deep f.selection_set.selections []

-- the fragments of a document, under the keys of its map
unfoldable pub fragments_of : Bool → ExecutableDocument → Fragments (NodeView Field)
fragments_of deep document =
    map (λ e. (e.0.text, plain deep e.1.value.selection_set.selections)) document.fragments
