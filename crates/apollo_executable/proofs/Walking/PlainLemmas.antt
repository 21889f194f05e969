-- Selections as a walk sees them, at each kind of selection.
use Rattle.std.proofs.Common.{◌≡◌, Bool, List, [], ◌∷◌, map, refl, ap, ◌∙◌, arith}
use Rattle.graphql_nodes.specs.NodeView.{NodeView}
use Rattle.apollo_walks.specs.Selections.{none, field, spread, inline}
use Rattle.apollo_walks.specs.TurnByTurn.{over}
use Rattle.apollo_executable.specs.SelectionReading.{WithParts}
use Rattle.apollo_executable.specs.Walks.Plain.{Plain, when_deep, put_before, in_order, plain, below_of}
use Rattle.apollo_executable.specs.Walks.LeftByTurn.{with_list}
use Rattle.apollo_executable.specs.declared.selection.Selection.{Selection, out-Selection}
use Rattle.apollo_executable.specs.declared.selection.Selection.TheVariants as variant
use Rattle.apollo_executable.specs.declared.selection.Selection.TheOpen.{Selection-F}
use Rattle.apollo_executable.specs.declared.selection.Field.{Field}
use Rattle.apollo_executable.specs.declared.selection.InlineFragment.{InlineFragment}
use Rattle.apollo_executable.specs.declared.selection.SelectionSet.{SelectionSet}
use Rattle.apollo_executable.specs.declared.selection.FragmentSpread.{FragmentSpread}
use Rattle.apollo_executable.proofs.Selections.ReadLemmas as read

module _ (deep : Bool) where
  -- one selection, with what a walk sees of its parts
  abbrev pub opened_up : Selection-F Selection Field InlineFragment SelectionSet
      → WithParts (Plain → Plain) Plain
  opened_up = read.opened_up (put_before deep) (λ _. in_order)

  -- the first selection of a list, as one level
  pub plain-first : (s : Selection) (ss : List Selection)
      → plain deep (s ∷ ss) ≡ put_before deep (opened_up (out-Selection s)) (plain deep ss)
  unfolding plain
  plain-first s ss = ap (λ (p : Plain → Plain). p (plain deep ss)) (read.read-opened (put_before deep)
      (λ _. in_order) s)

  pub plain-none : plain deep [] ≡ none
  unfolding plain
  plain-none = refl

  pub plain-field : (n : NodeView Field) (ss : List Selection)
      → plain deep (variant.Field n ∷ ss) ≡ field n (plain deep (below_of deep n.value)) (plain deep ss)
  unfolding plain
  plain-field n ss =
      let below : when_deep deep (plain deep n.value.selection_set.selections)
      ≡ plain deep (below_of deep n.value) = grind (arith, plain-none) in
      ap (λ (p : Plain → Plain). p (plain deep ss)) (read.read-field (put_before deep) (λ _. in_order) n)
      ∙ ap (λ (p : Plain). field n p (plain deep ss)) below

  pub plain-spread : (n : NodeView FragmentSpread) (ss : List Selection)
      → plain deep (variant.FragmentSpread n ∷ ss) ≡ spread n.value.fragment_name.text (plain deep ss)
  unfolding plain
  plain-spread n ss = ap (λ (p : Plain → Plain). p (plain deep ss)) (read.read-spread (put_before deep)
      (λ _. in_order) n)

  pub plain-inline : (n : NodeView InlineFragment) (ss : List Selection)
      → plain deep (variant.InlineFragment n ∷ ss) ≡ inline (plain deep n.value.selection_set.selections)
      (plain deep ss)
  unfolding plain
  plain-inline n ss = ap (λ (p : Plain → Plain). p (plain deep ss)) (read.read-inline (put_before deep)
      (λ _. in_order) n)

  -- a list is opened if there is something in it
  pub over-list : (below : List Selection) (lists : List (List Selection))
      → over (plain deep below) (map (plain deep) lists) ≡ map (plain deep) (with_list below lists)
  over-list [] lists = rw plain-none
  over-list (s ∷ ss) lists =
      rw (plain-first s ss)
      (elim (opened_up (out-Selection s)) as (λ z. over (put_before deep z (plain deep ss))
      (map (plain deep) lists) ≡ put_before deep z (plain deep ss) ∷ map (plain deep) lists)
      [ Selection-F.Field n ↦ refl | z ↦ refl ])
