-- Selections with the types of their sets, at each kind of selection.
use Rattle.std.proofs.Common.{◌≡◌, List, [], ◌∷◌, refl, ap}
use Rattle.graphql_nodes.specs.NameView.{NameView}
use Rattle.graphql_nodes.specs.NodeView.{NodeView}
use Rattle.apollo_walks.specs.Selections.{none, field, spread, inline}
use Rattle.apollo_walks.specs.TurnByTurn.{over}
use Rattle.apollo_executable.specs.SelectionReading.{WithParts}
use Rattle.apollo_executable.specs.declared.selection.Selection.{Selection, out-Selection}
use Rattle.apollo_executable.specs.declared.selection.Selection.TheVariants as variant
use Rattle.apollo_executable.specs.declared.selection.Selection.TheOpen.{Selection-F}
use Rattle.apollo_executable.specs.declared.selection.Field.{Field}
use Rattle.apollo_executable.specs.declared.selection.InlineFragment.{InlineFragment}
use Rattle.apollo_executable.specs.declared.selection.FragmentSpread.{FragmentSpread}
use Rattle.apollo_executable.proofs.Selections.ReadLemmas as read
use Rattle.apollo_field_usage.specs.Placed.{Placed, Before, place_before, placed_in_order, placed, placed_set}

module _ (ty : NameView) where
  pub placed-none : placed ty [] ≡ none
  unfolding placed
  placed-none = refl

  -- the first selection of a list, as one level
  placed-first : (s : Selection) (ss : List Selection)
      → placed ty (s ∷ ss) ≡ place_before (read.opened_up place_before placed_in_order (out-Selection s)) ty
      (placed ty ss)
  unfolding placed
  placed-first s ss = ap (λ (p : Before). p ty (placed ty ss)) (read.read-opened place_before placed_in_order
      s)

  pub placed-field : (n : NodeView Field) (ss : List Selection)
      → placed ty (variant.Field n ∷ ss) ≡ field (record { ty = ty; field = n })
      (placed_set n.value.selection_set) (placed ty ss)
  unfolding placed
  placed-field n ss = ap (λ (p : Before). p ty (placed ty ss)) (read.read-field place_before placed_in_order
      n)

  pub placed-spread : (n : NodeView FragmentSpread) (ss : List Selection)
      → placed ty (variant.FragmentSpread n ∷ ss) ≡ spread n.value.fragment_name.text (placed ty ss)
  unfolding placed
  placed-spread n ss = ap (λ (p : Before). p ty (placed ty ss)) (read.read-spread place_before placed_in_order
      n)

  pub placed-inline : (n : NodeView InlineFragment) (ss : List Selection)
      → placed ty (variant.InlineFragment n ∷ ss) ≡ inline (placed_set n.value.selection_set) (placed ty ss)
  unfolding placed
  placed-inline n ss = ap (λ (p : Before). p ty (placed ty ss)) (read.read-inline place_before placed_in_order
      n)

  -- a set is opened where there is something in it
  pub over-some : (s : Selection) (ss : List Selection) (lists : List Placed)
      → over (placed ty (s ∷ ss)) lists ≡ placed ty (s ∷ ss) ∷ lists
  over-some s ss lists =
      rw (placed-first s ss) (at (read.opened_up place_before placed_in_order (out-Selection s)))
    where
      at : (z : WithParts Before Placed)
          → over (place_before z ty (placed ty ss)) lists ≡ place_before z ty (placed ty ss) ∷ lists
      at (Selection-F.Field n) = refl
      at z = refl

  pub over-none : (lists : List Placed) → over (placed ty []) lists ≡ lists
  over-none lists = rw placed-none refl
