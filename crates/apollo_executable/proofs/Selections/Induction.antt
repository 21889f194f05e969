-- What holds of no selections, and of each kind of selection before others of which it holds, holds of all
-- selections.
use Rattle.std.proofs.Common.{List, [], ◌∷◌, None, map}
use Rattle.graphql_nodes.specs.NodeView.{NodeView}
use Rattle.apollo_executable.specs.declared.selection.Selection.{Selection, roll-Selection}
use Rattle.apollo_executable.specs.declared.selection.Selection.TheFolds as folds
use Rattle.apollo_executable.specs.declared.selection.Selection.TheOpen as layer
use Rattle.apollo_executable.specs.declared.selection.Selection.TheVariants as variant
use Rattle.apollo_executable.specs.declared.selection.Field.{Field}
use Rattle.apollo_executable.specs.declared.selection.FragmentSpread.{FragmentSpread}
use Rattle.apollo_executable.specs.declared.selection.InlineFragment.{InlineFragment}
use Rattle.apollo_executable.specs.declared.selection.SelectionSet.{SelectionSet, roll-SelectionSet}

module _ (Holds : List Selection → Type 0) (of_none : Holds []) (of_field : (n : NodeView Field)
    (others : List Selection) → Holds n.value.selection_set.selections → Holds others
    → Holds (variant.Field n ∷ others)) (of_spread : (n : NodeView FragmentSpread) (others : List Selection)
    → Holds others → Holds (variant.FragmentSpread n ∷ others)) (of_inline : (n : NodeView InlineFragment)
    (others : List Selection) → Holds n.value.selection_set.selections → Holds others
    → Holds (variant.InlineFragment n ∷ others)) where
  abbrev First : Selection → Type 0
  First x = (others : List Selection) → Holds others → Holds (x ∷ others)

  -- the selections of a set
  abbrev Within : SelectionSet → Type 0
  Within s = Holds s.selections

  -- a selection with what holds of it
  abbrev Shown : Type 0
  Shown = (x : Selection) × First x

  -- one level, each part with what holds of it
  abbrev Level : Type 0
  Level = layer.Selection-F Shown ((f : Field) × Within f.selection_set)
      ((f : InlineFragment) × Within f.selection_set) ((s : SelectionSet) × Within s)

  abbrev alone : Level → layer.Selection-F Selection Field InlineFragment SelectionSet
  alone = folds.map-Selection _ _ _ _ Selection Field InlineFragment SelectionSet (λ e. e.0) (λ e. e.0)
      (λ e. e.0) (λ e. e.0)

  first : (y : Level) → First (roll-Selection (alone y))
  first (layer.Selection-F.Field n) others rest =
      let node : NodeView Field = record { value = n.value.0; location = n.location } in
      rw (variant.rolls-Field node) (of_field node others n.value.1 rest)
  first (layer.Selection-F.FragmentSpread n) others rest =
      rw (variant.rolls-FragmentSpread n) (of_spread n others rest)
  first (layer.Selection-F.InlineFragment n) others rest =
      let node : NodeView InlineFragment = record { value = n.value.0; location = n.location } in
      rw (variant.rolls-InlineFragment node) (of_inline node others n.value.1 rest)

  each : (ys : List Shown) → Holds (map (λ (y : Shown). y.0) ys)
  each [] = of_none
  each (y ∷ ys) = y.1 _ (each ys)

  pub of_set : (s : SelectionSet) → Holds s.selections
  of_set = folds.ind-SelectionSet First (λ f. Within f.selection_set) (λ f. Within f.selection_set) Within
      (λ x y is. rw (← is) (first y)) (λ x y is. rw (← is) y.selection_set.1)
      (λ x y is. rw (← is) y.selection_set.1) (λ x y is. rw (← is) (each y.selections))

  pub of_selections : (xs : List Selection) → Holds xs
  of_selections xs = of_set
      (roll-SelectionSet (record { ty = record { text = []; location = None }; selections = xs }))
