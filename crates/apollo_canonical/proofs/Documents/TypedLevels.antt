-- Typed selections, one level at a time: without their locations, and erased.
use Rattle.apollo_canonical.proofs as canonical
use canonical.Prelude.{EF, EI, EL, ES, List, NodeView, SelectionSet, ap, bare_field, bare_inline_fragment}
use canonical.Prelude.{bare_name, bare_selection, bare_selection_set, erased, erased-typed-field}
use canonical.Prelude.{erased-typed-fragment, erased-typed-spread, erased_field, erased_inline_fragment}
use canonical.Prelude.{erased_set, erased_spread, in_place_of, map, set_of, sym, ◌∙◌, ◌≡◌}
use canonical.Documents.Induction.{field, inline, spread}
use Rattle.graphql_ast.specs.declared.selection.Field as ast_field
use Rattle.graphql_ast.specs.declared.selection.InlineFragment as ast_inline
use Rattle.graphql_ast.specs.declared.selection.Selection as ast
use Rattle.apollo_executable.specs.BareSelections as bare
use Rattle.apollo_executable.specs.declared.selection.Field.{Field, out-Field}
use Rattle.apollo_executable.specs.declared.selection.FragmentSpread.{FragmentSpread}
use Rattle.apollo_executable.specs.declared.selection.InlineFragment.{InlineFragment, out-InlineFragment}
use Rattle.apollo_executable.specs.declared.selection.Selection.{Selection, roll-Selection}
use Rattle.apollo_executable.specs.declared.selection.Selection.TheFolds as folds
use Rattle.apollo_executable.specs.declared.selection.Selection.TheOpen.{Selection-F}
use Rattle.apollo_executable.specs.declared.selection.Selection.TheVariants as variant

-- a selection, opened
abbrev pub Layer : Type 0
Layer = Selection-F Selection Field InlineFragment SelectionSet

-- ---- without locations

abbrev pub plain_layer : Layer → Selection
plain_layer x = bare.selection_step (folds.map-Selection Selection Field InlineFragment SelectionSet Selection
    Field InlineFragment SelectionSet bare_selection bare_field bare_inline_fragment bare_selection_set x)

abbrev pub plain_field : Field → SelectionSet → Field
plain_field f set = bare.field_step (record (out-Field f) { selection_set = set })

abbrev pub plain_inline : InlineFragment → SelectionSet → InlineFragment
plain_inline f set = bare.inline_step (record (out-InlineFragment f) { selection_set = set })

pub selection-bare : (x : Layer) → bare_selection (roll-Selection x) ≡ plain_layer x
selection-bare x = folds.fold-roll-Selection _ _ _ _ bare.selection_step bare.field_step bare.inline_step
    bare.set_step x

pub field-bare : (f : Field) → bare_field f ≡ plain_field f (bare_selection_set f.selection_set)
field-bare f = folds.fold_out-Field _ _ _ _ bare.selection_step bare.field_step bare.inline_step bare.set_step
    f

pub inline-bare : (f : InlineFragment)
    → bare_inline_fragment f ≡ plain_inline f (bare_selection_set f.selection_set)
inline-bare f = folds.fold_out-InlineFragment _ _ _ _ bare.selection_step bare.field_step bare.inline_step
    bare.set_step f

pub set-bare : (x : SelectionSet)
    → bare_selection_set x ≡ set_of (bare_name x.ty) (map bare_selection x.selections)
set-bare x = folds.fold_out-SelectionSet _ _ _ _ bare.selection_step bare.field_step bare.inline_step
    bare.set_step x

-- ---- erased

-- the untyped ones of fields and inline fragments, with these selections
abbrev pub untyped_field : Field → List ast.Selection → ast_field.Field
untyped_field f below = ast_field.roll-Field (record {
  alias = f.alias;
  name = f.name;
  arguments = f.arguments;
  directives = f.directives;
  selection_set = below;
})

abbrev pub untyped_inline : InlineFragment → List ast.Selection → ast_inline.InlineFragment
untyped_inline f below = ast_inline.roll-InlineFragment (record {
  type_condition = f.type_condition;
  directives = f.directives;
  selection_set = below;
})

pub field-erased : (f : Field) → erased_field f ≡ untyped_field f (erased_set f.selection_set)
field-erased f = folds.fold_out-Field ES EF EI EL _ _ _ _ f

pub inline-erased : (f : InlineFragment)
    → erased_inline_fragment f ≡ untyped_inline f (erased_set f.selection_set)
inline-erased f = folds.fold_out-InlineFragment ES EF EI EL _ _ _ _ f

pub set-erased : (x : SelectionSet) → erased_set x ≡ map erased x.selections
set-erased x = folds.fold_out-SelectionSet ES EF EI EL _ _ _ _ x

pub erased-field : (n : NodeView Field)
    → erased (variant.Field n) ≡ field (in_place_of n (erased_field n.value))
erased-field n = ap erased (sym (variant.rolls-Field n)) ∙ erased-typed-field n

pub erased-spread : (n : NodeView FragmentSpread)
    → erased (variant.FragmentSpread n) ≡ spread (in_place_of n (erased_spread n.value))
erased-spread n = ap erased (sym (variant.rolls-FragmentSpread n)) ∙ erased-typed-spread n

pub erased-inline : (n : NodeView InlineFragment)
    → erased (variant.InlineFragment n) ≡ inline (in_place_of n (erased_inline_fragment n.value))
erased-inline n = ap erased (sym (variant.rolls-InlineFragment n)) ∙ erased-typed-fragment n
