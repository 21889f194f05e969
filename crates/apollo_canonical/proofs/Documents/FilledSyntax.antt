-- Untyped selections of which no inline fragment is empty: what filled typed selections are erased to.
use Rattle.apollo_canonical.proofs.Prelude.{Bool, Each, List, NodeView, SelectionSet, all_there, ap}
use Rattle.apollo_canonical.proofs.Prelude.{each_filled, erased, erased_set, is_filled, map, of_set, refl}
use Rattle.apollo_canonical.proofs.Prelude.{some_there, sym, true, ◌∙◌, ◌∷◌, ◌≡◌}
use Rattle.graphql_ast.specs.declared.selection.Field as ast_field
use Rattle.graphql_ast.specs.declared.selection.FragmentSpread as ast_spread
use Rattle.graphql_ast.specs.declared.selection.InlineFragment as ast_inline
use Rattle.graphql_ast.specs.declared.selection.Selection as ast
use Rattle.graphql_ast.specs.declared.selection.Selection.TheFolds as folds
use Rattle.graphql_ast.specs.declared.selection.Selection.TheOpen as layer
use Rattle.apollo_executable.specs.declared.selection.Field.{Field}
use Rattle.apollo_executable.specs.declared.selection.FragmentSpread.{FragmentSpread}
use Rattle.apollo_executable.specs.declared.selection.InlineFragment.{InlineFragment}
use Rattle.apollo_executable.specs.declared.selection.Selection.{Selection}
use Rattle.apollo_executable.specs.declared.selection.Selection.TheFolds as typed
use Rattle.apollo_executable.specs.declared.selection.Selection.TheOpen.{Selection-F}
use Rattle.apollo_executable.specs.declared.selection.Selection.TheVariants as variant
use Rattle.apollo_canonical.proofs.Documents.Induction.{field, inline, spread}
use Rattle.apollo_canonical.proofs.Documents.TypedLevels.{erased-field, erased-inline, erased-spread}
use Rattle.apollo_canonical.proofs.Documents.TypedLevels.{field-erased, inline-erased, set-erased}

-- ---- untyped selections, one level at a time

abbrev untyped_step : layer.Selection-F Bool Bool Bool → Bool
untyped_step (layer.Selection-F.Field n) = n.value
untyped_step (layer.Selection-F.FragmentSpread n) = true
untyped_step (layer.Selection-F.InlineFragment n) = n.value

abbrev in_field : layer.Field-F Bool Bool Bool → Bool
in_field f = all_there f.selection_set

abbrev in_inline : layer.InlineFragment-F Bool Bool Bool → Bool
in_inline f = some_there f.selection_set

-- no inline fragment is empty that an untyped selection is or has
abbrev pub is_filled_syntax : ast.Selection → Bool
is_filled_syntax = folds.fold-Selection Bool Bool Bool untyped_step in_field in_inline

pub field_filled : (n : NodeView ast_field.Field)
    → is_filled_syntax (field n) ≡ all_there (map is_filled_syntax n.value.selection_set)
field_filled n = simp (folds.fold-roll-Selection, folds.fold_out-Field)

pub spread_filled : (n : NodeView ast_spread.FragmentSpread) → is_filled_syntax (spread n) ≡ true
spread_filled n = folds.fold-roll-Selection Bool Bool Bool untyped_step in_field in_inline
    (layer.Selection-F.FragmentSpread n)

pub inline_filled : (n : NodeView ast_inline.InlineFragment)
    → is_filled_syntax (inline n) ≡ some_there (map is_filled_syntax n.value.selection_set)
inline_filled n = simp (folds.fold-roll-Selection, folds.fold_out-InlineFragment)

-- ---- typed selections are filled as what they are erased to

abbrev Same : List Selection → Type 0
Same xs = map is_filled_syntax (map erased xs) ≡ map is_filled xs

set_same : (x : SelectionSet) → Same x.selections → map is_filled_syntax (erased_set x) ≡ each_filled x
set_same x h = simp (set-erased, h, typed.fold_out-SelectionSet)

field_same : (n : NodeView Field) → Same n.value.selection_set.selections
    → is_filled_syntax (erased (variant.Field n)) ≡ is_filled (variant.Field n)
field_same n below = ap is_filled_syntax (erased-field n) ∙ field_filled _
    ∙ ap (λ (f : ast_field.Field). all_there (map is_filled_syntax f.selection_set)) (field-erased n.value)
    ∙ ap all_there (set_same n.value.selection_set below) ∙ sym (ap is_filled (sym (variant.rolls-Field n))
    ∙ typed.fold-roll-Selection Bool Bool Bool Each _ _ _ _ (Selection-F.Field n)
    ∙ typed.fold_out-Field Bool Bool Bool Each _ _ _ _ n.value)

spread_same : (n : NodeView FragmentSpread)
    → is_filled_syntax (erased (variant.FragmentSpread n)) ≡ is_filled (variant.FragmentSpread n)
spread_same n = ap is_filled_syntax (erased-spread n) ∙ spread_filled _
    ∙ sym (ap is_filled (sym (variant.rolls-FragmentSpread n)) ∙ typed.fold-roll-Selection Bool Bool Bool Each
    _ _ _ _ (Selection-F.FragmentSpread n))

inline_same : (n : NodeView InlineFragment) → Same n.value.selection_set.selections
    → is_filled_syntax (erased (variant.InlineFragment n)) ≡ is_filled (variant.InlineFragment n)
inline_same n below = ap is_filled_syntax (erased-inline n) ∙ inline_filled _
    ∙ ap (λ (f : ast_inline.InlineFragment). some_there (map is_filled_syntax f.selection_set))
    (inline-erased n.value) ∙ ap some_there (set_same n.value.selection_set below)
    ∙ sym (ap is_filled (sym (variant.rolls-InlineFragment n)) ∙ typed.fold-roll-Selection Bool Bool Bool Each
    _ _ _ _ (Selection-F.InlineFragment n) ∙ typed.fold_out-InlineFragment Bool Bool Bool Each _ _ _ _
    n.value)

pub set_as_filled : (x : SelectionSet) → map is_filled_syntax (erased_set x) ≡ each_filled x
set_as_filled x = set_same x (of_set Same refl (λ n others below rest i. field_same n below i ∷ rest i)
    (λ n others rest i. spread_same n i ∷ rest i) (λ n others below rest i. inline_same n below i ∷ rest i) x)
