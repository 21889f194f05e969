-- Untyped selections, kind by kind. What holds of no selections, and of one before others where something
-- holds of each kind of selection, holds of all selections.
use Rattle.std.proofs.Common.{List, [], ◌∷◌, map}
use Rattle.graphql_nodes.specs.NodeView.{NodeView}
use Rattle.graphql_ast.specs.declared.selection.Selection.{Selection, ind-Selection, roll-Selection}
use Rattle.graphql_ast.specs.declared.selection.Selection.TheOpen.{Selection-F}
use Rattle.graphql_ast.specs.declared.selection.Selection.TheFolds.{map-Selection}
use Rattle.graphql_ast.specs.declared.selection.Field.{Field}
use Rattle.graphql_ast.specs.declared.selection.FragmentSpread.{FragmentSpread}
use Rattle.graphql_ast.specs.declared.selection.InlineFragment.{InlineFragment}

-- a selection, opened
abbrev pub Layer : Type 0
Layer = Selection-F Selection Field InlineFragment

-- the selection that is a field, a spread or an inline fragment
abbrev pub field : NodeView Field → Selection
field n = roll-Selection (Selection-F.Field n)

abbrev pub spread : NodeView FragmentSpread → Selection
spread n = roll-Selection (Selection-F.FragmentSpread n)

abbrev pub inline : NodeView InlineFragment → Selection
inline n = roll-Selection (Selection-F.InlineFragment n)

module _ (One : Selection → Type 0) (Holds : List Selection → Type 0) (of_none : Holds [])
    (before : (x : Selection) (others : List Selection) → One x → Holds others
    → Holds (x ∷ others)) (of_field : (n : NodeView Field) → Holds n.value.selection_set → One (field n))
    (of_spread : (n : NodeView FragmentSpread) → One (spread n)) (of_inline : (n : NodeView InlineFragment)
    → Holds n.value.selection_set → One (inline n)) where
  -- a selection with what holds of it
  abbrev Shown : Type 0
  Shown = (x : Selection) × One x

  -- one level, each part with what holds of it
  abbrev Level : Type 0
  Level = Selection-F Shown ((f : Field) × Holds f.selection_set)
      ((f : InlineFragment) × Holds f.selection_set)

  abbrev alone : Level → Layer
  alone = map-Selection _ _ _ Selection Field InlineFragment (λ e. e.0) (λ e. e.0) (λ e. e.0)

  first : (y : Level) → One (roll-Selection (alone y))
  first (Selection-F.Field n) = of_field (record { value = n.value.0; location = n.location }) n.value.1
  first (Selection-F.FragmentSpread n) = of_spread n
  first (Selection-F.InlineFragment n) = of_inline (record { value = n.value.0; location = n.location })
      n.value.1

  each : (ys : List Shown) → Holds (map (λ (y : Shown). y.0) ys)
  each [] = of_none
  each (y ∷ ys) = before y.0 _ y.1 (each ys)

  one : (x : Selection) → One x
  one = ind-Selection One (λ f. Holds f.selection_set) (λ f. Holds f.selection_set)
      (λ x y is. rw (← is) (first y)) (λ x y is. rw (← is) (each y.selection_set))
      (λ x y is. rw (← is) (each y.selection_set))

  pub of_selections : (xs : List Selection) → Holds xs
  of_selections [] = of_none
  of_selections (x ∷ xs) = before x xs (one x) (of_selections xs)
