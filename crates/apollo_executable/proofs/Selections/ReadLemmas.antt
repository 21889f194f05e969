-- What is read of selections, at each kind of selection.
use Rattle.std.proofs.Common.{◌≡◌, List, sym, ap, ◌∙◌}
use Rattle.graphql_nodes.specs.NameView.{NameView}
use Rattle.graphql_nodes.specs.NodeView.{NodeView}
use Rattle.apollo_executable.specs.SelectionReading.{WithParts, read_one, read_all}
use Rattle.apollo_executable.specs.declared.selection.Selection.{Selection, roll-Selection, out-Selection}
use Rattle.apollo_executable.specs.declared.selection.Selection.{para-roll-Selection}
use Rattle.apollo_executable.specs.declared.selection.Selection.TheVariants as variant
use Rattle.apollo_executable.specs.declared.selection.Selection.TheOpen.{Selection-F}
use Rattle.apollo_executable.specs.declared.selection.Selection.TheFolds.{map-Selection, para-Field}
use Rattle.apollo_executable.specs.declared.selection.Selection.TheFolds.{para-InlineFragment}
use Rattle.apollo_executable.specs.declared.selection.Selection.TheFolds.{para-SelectionSet, para-roll-Field}
use Rattle.apollo_executable.specs.declared.selection.Selection.TheFolds.{para-roll-InlineFragment}
use Rattle.apollo_executable.specs.declared.selection.Selection.TheFolds.{para-roll-SelectionSet}
use Rattle.apollo_executable.specs.declared.selection.Selection.TheViews.{roll-out-Selection, roll-out-Field}
use Rattle.apollo_executable.specs.declared.selection.Selection.TheViews.{roll-out-InlineFragment}
use Rattle.apollo_executable.specs.declared.selection.Selection.TheViews.{roll-out-SelectionSet}
use Rattle.apollo_executable.specs.declared.selection.Field.{Field}
use Rattle.apollo_executable.specs.declared.selection.FragmentSpread.{FragmentSpread}
use Rattle.apollo_executable.specs.declared.selection.InlineFragment.{InlineFragment}
use Rattle.apollo_executable.specs.declared.selection.SelectionSet.{SelectionSet}

module _ {One All : Type 0} (one : WithParts One All → One) (all : NameView → List (Selection × One)
    → All) where
  abbrev of_field : Field → All
  of_field = para-Field One All All All one (λ f. f.selection_set.1) (λ f. f.selection_set.1)
      (λ s. all s.ty s.selections)

  abbrev of_inline : InlineFragment → All
  of_inline = para-InlineFragment One All All All one (λ f. f.selection_set.1) (λ f. f.selection_set.1)
      (λ s. all s.ty s.selections)

  abbrev of_set : SelectionSet → All
  of_set = para-SelectionSet One All All All one (λ f. f.selection_set.1) (λ f. f.selection_set.1)
      (λ s. all s.ty s.selections)

  set-read : (s : SelectionSet) → of_set s ≡ read_all one all s.ty s.selections
  set-read s = ap of_set (sym (roll-out-SelectionSet s)) ∙ para-roll-SelectionSet _ _ _ _ _ _ _ _ _

  field-read : (f : Field) → of_field f ≡ read_all one all f.selection_set.ty f.selection_set.selections
  field-read f = ap of_field (sym (roll-out-Field f)) ∙ para-roll-Field _ _ _ _ _ _ _ _ _
      ∙ set-read f.selection_set

  inline-read : (f : InlineFragment)
      → of_inline f ≡ read_all one all f.selection_set.ty f.selection_set.selections
  inline-read f = ap of_inline (sym (roll-out-InlineFragment f)) ∙ para-roll-InlineFragment _ _ _ _ _ _ _ _ _
      ∙ set-read f.selection_set

  -- a selection, with what is read of its parts
  abbrev pub opened_up : Selection-F Selection Field InlineFragment SelectionSet → WithParts One All
  opened_up = map-Selection Selection Field InlineFragment SelectionSet (Selection × One) (Field
      × All) (InlineFragment × All) (SelectionSet × All) (λ s. (s, read_one one all s)) (λ f. (f, of_field f))
      (λ f. (f, of_inline f)) (λ s. (s, of_set s))

  rolled : (z : Selection-F Selection Field InlineFragment SelectionSet)
      → read_one one all (roll-Selection z) ≡ one (opened_up z)
  rolled = para-roll-Selection _ _ _ _ _ _ _ _

  pub read-opened : (s : Selection) → read_one one all s ≡ one (opened_up (out-Selection s))
  read-opened s = ap (read_one one all) (sym (roll-out-Selection s)) ∙ rolled _

  pub read-field : (n : NodeView Field) → read_one one all (variant.Field n)
      ≡ one (Selection-F.Field (record {
        value = (n.value, read_all one all n.value.selection_set.ty n.value.selection_set.selections);
        location = n.location;
      }))
  read-field n = ap (read_one one all) (sym (variant.rolls-Field n)) ∙ rolled _
      ∙ ap (λ (below : All). one (Selection-F.Field
      (record { value = (n.value, below); location = n.location }))) (field-read n.value)

  pub read-spread : (n : NodeView FragmentSpread)
      → read_one one all (variant.FragmentSpread n) ≡ one (Selection-F.FragmentSpread n)
  read-spread n = ap (read_one one all) (sym (variant.rolls-FragmentSpread n)) ∙ rolled _

  pub read-inline : (n : NodeView InlineFragment)
      → read_one one all (variant.InlineFragment n) ≡ one (Selection-F.InlineFragment (record {
        value = (n.value, read_all one all n.value.selection_set.ty n.value.selection_set.selections);
        location = n.location;
      }))
  read-inline n = ap (read_one one all) (sym (variant.rolls-InlineFragment n)) ∙ rolled _
      ∙ ap (λ (inner : All). one (Selection-F.InlineFragment
      (record { value = (n.value, inner); location = n.location }))) (inline-read n.value)
