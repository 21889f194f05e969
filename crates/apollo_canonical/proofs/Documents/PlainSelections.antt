-- Selections without their locations are typed as they are with them, but for the definitions of fields and
-- the types of sets. So selections that are one without locations are typed alike.
use Rattle.apollo_canonical.proofs as canonical
use canonical.Prelude.{FieldDefinition, List, NameView, NodeView, None, Option, Result, Schema, Some, Wrong}
use canonical.Prelude.{ap, arith, bare_field_definition, bare_name, bare_node, bare_selection}
use canonical.Prelude.{bare_selection_set, child_of, elaborated, elaborated-field}
use canonical.Prelude.{elaborated-fragment, elaborated-roll, elaborated_selection, field_over, if_typable}
use canonical.Prelude.{in_place_of, is_bare, map, option_map, refl, set_of, sym, typable_field}
use canonical.Prelude.{typable_fragment, typed_field, typed_in, typed_inline_fragment, ◌∙◌, ◌∷◌, ◌≡◌}
use canonical.Documents.PlainSyntax.{field_selection-bare, inline_selection-bare, plain_field, plain_inline}
use canonical.Documents.PlainSyntax.{selection-bare as syntax-bare}
use canonical.Documents.AlikeTypable.{AreOneDefinition, AreOneName, field-judged, fragment-judged}
use canonical.Documents.AlikeTypable.{typed-alike}
use canonical.Documents.Induction.{field, inline, of_selections, spread}
use Rattle.apollo_component.proofs.Lists.Seen.{map-cons_option}
use canonical.Documents.TypedLevels.{Layer, field-bare, inline-bare, selection-bare, set-bare}
use Rattle.graphql_ast.specs.BareSelections as syntax
use Rattle.graphql_ast.specs.declared.selection.Selection as ast
use Rattle.graphql_ast.specs.declared.selection.Field as ast_field
use Rattle.graphql_ast.specs.declared.selection.InlineFragment as ast_inline
use Rattle.graphql_ast.specs.declared.selection.FragmentSpread as ast_spread
use Rattle.apollo_executable.specs.declared.selection.Field.{Field, out-Field, roll-Field}
use Rattle.apollo_executable.specs.declared.selection.InlineFragment.{InlineFragment, out-InlineFragment}
use Rattle.apollo_executable.specs.declared.selection.InlineFragment.{roll-InlineFragment}
use Rattle.apollo_executable.specs.declared.selection.Selection.{Selection, roll-Selection}
use Rattle.apollo_executable.specs.declared.selection.Selection.TheFolds as folds
use Rattle.apollo_executable.specs.declared.selection.Selection.TheOpen.{Field-F, InlineFragment-F}
use Rattle.apollo_executable.specs.declared.selection.Selection.TheOpen.{Selection-F, SelectionSet-F}
use Rattle.apollo_executable.specs.declared.selection.SelectionSet.{SelectionSet, roll-SelectionSet}
use Rattle.apollo_document.proofs.Equations.{is_bare-map}

-- ---- typed selections with definitions and types of sets without locations

abbrev with_definition : Field-F Selection Field InlineFragment SelectionSet → Field
with_definition f = roll-Field (record f { definition = bare_node bare_field_definition f.definition })

abbrev with_type : SelectionSet-F Selection Field InlineFragment SelectionSet → SelectionSet
with_type x = roll-SelectionSet (record x { ty = bare_name x.ty })

-- what a fold gives by these steps
abbrev by_halves : {A : Type 0} → ((Layer → Selection) → (Field-F Selection Field InlineFragment SelectionSet
    → Field) → (InlineFragment-F Selection Field InlineFragment SelectionSet → InlineFragment)
    → (SelectionSet-F Selection Field InlineFragment SelectionSet → SelectionSet) → A) → A
by_halves fold = fold (λ x. roll-Selection x) with_definition (λ x. roll-InlineFragment x) with_type

abbrev half : Selection → Selection
half = by_halves (folds.fold-Selection Selection Field InlineFragment SelectionSet)

abbrev half_field : Field → Field
half_field = by_halves (folds.fold-Field Selection Field InlineFragment SelectionSet)

abbrev half_inline : InlineFragment → InlineFragment
half_inline = by_halves (folds.fold-InlineFragment Selection Field InlineFragment SelectionSet)

abbrev half_set : SelectionSet → SelectionSet
half_set = by_halves (folds.fold-SelectionSet Selection Field InlineFragment SelectionSet)

selection-half : (x : Layer)
    → half (roll-Selection x) ≡ roll-Selection (folds.map-Selection Selection Field InlineFragment
    SelectionSet Selection Field InlineFragment SelectionSet half half_field half_inline half_set x)
selection-half x = folds.fold-roll-Selection _ _ _ _ (λ x. roll-Selection x) with_definition
    (λ x. roll-InlineFragment x) with_type x

field-half : (f : Field)
    → half_field f ≡ with_definition (record (out-Field f) { selection_set = half_set f.selection_set })
field-half f = folds.fold_out-Field _ _ _ _ (λ x. roll-Selection x) with_definition
    (λ x. roll-InlineFragment x) with_type f

inline-half : (f : InlineFragment)
    → half_inline f ≡ roll-InlineFragment (record (out-InlineFragment f)
    { selection_set = half_set f.selection_set })
inline-half f = folds.fold_out-InlineFragment _ _ _ _ (λ x. roll-Selection x) with_definition
    (λ x. roll-InlineFragment x) with_type f

set-half : (x : SelectionSet) → half_set x ≡ set_of (bare_name x.ty) (map half x.selections)
set-half x = folds.fold_out-SelectionSet _ _ _ _ (λ x. roll-Selection x) with_definition
    (λ x. roll-InlineFragment x) with_type x

-- ---- typing

typable-through : {A B C : Type 0} (g : B → C) (f : A → B) (r : Result A Wrong)
    → option_map g (if_typable f r) ≡ if_typable (λ a. g (f a)) r
typable-through g f r = grind arith

module _ (s : Option Schema) where
  -- in types that are one but for locations, what stands for selections, and for one
  abbrev AreTypedAlike : List ast.Selection → Type 0
  AreTypedAlike xs = (a b : NameView) → AreOneName a b
      → map half (typed_in s (map syntax.bare_selection xs) a) ≡ map bare_selection (typed_in s xs b)

  abbrev IsTypedAlike : ast.Selection → Type 0
  IsTypedAlike x = (a b : NameView) → AreOneName a b
      → option_map half (elaborated_selection s a (syntax.bare_selection x))
      ≡ option_map bare_selection (elaborated_selection s b x)

  before : (x : ast.Selection) (xs : List ast.Selection) → IsTypedAlike x → AreTypedAlike xs
      → AreTypedAlike (x ∷ xs)
  before x xs front rest a b one =
      rw (map-cons_option half _ _, front a b one, rest a b one, map-cons_option bare_selection _ _)

  -- and the set of them
  sets : (xs : List ast.Selection) → AreTypedAlike xs → (a b : NameView) → AreOneName a b
      → half_set (set_of a (typed_in s (map syntax.bare_selection xs) a))
      ≡ bare_selection_set (set_of b (typed_in s xs b))
  sets xs alike a b one = rw (set-half _, one, alike a b one, set-bare _)

  -- ---- fields

  abbrev typed : ast_field.Field → NodeView FieldDefinition → Field
  typed f = typed_field f.alias f.name f.arguments f.directives (typed_in s f.selection_set)

  abbrev of_field : NodeView Field → Selection
  of_field n = roll-Selection (Selection-F.Field n)

  field-elaborated : (ty : NameView) (n : NodeView ast_field.Field)
      → elaborated_selection s ty (field n) ≡ if_typable (λ d. of_field (in_place_of n (typed n.value d)))
      (typable_field s ty n.value.name (is_bare n.value.selection_set))
  field-elaborated ty n = simp (elaborated-roll, elaborated-field, typable-through)

  field_typed : (n : NodeView ast_field.Field) → AreTypedAlike n.value.selection_set → IsTypedAlike (field n)
  field_typed n below a b one =
      let f : ast_field.Field = plain_field n.value in
      let g : ast_field.Field = n.value in
      ap (option_map half) (ap (elaborated_selection s a) (field_selection-bare n) ∙ field-elaborated a _)
      ∙ typed-alike AreOneDefinition half bare_selection _ _ _ _ (field-judged s a b g.name _ _
      (is_bare-map syntax.bare_selection g.selection_set) one) (λ c d defined. selection-half _
      ∙ ap (λ (h : Field). of_field (record { value = h; location = None })) (field-half _
      ∙ (λ i. field_over f (defined.0 i) (sets g.selection_set below (child_of c) (child_of d) defined.1
      i)) ∙ sym (field-bare _)) ∙ sym (selection-bare _))
      ∙ sym (ap (option_map bare_selection) (field-elaborated b n))

  -- ---- inline fragments

  abbrev within : ast_inline.InlineFragment → NameView → InlineFragment
  within f = typed_inline_fragment f.type_condition f.directives (typed_in s f.selection_set)

  abbrev of_inline : NodeView InlineFragment → Selection
  of_inline n = roll-Selection (Selection-F.InlineFragment n)

  inline-elaborated : (ty : NameView) (n : NodeView ast_inline.InlineFragment)
      → elaborated_selection s ty (inline n) ≡ if_typable (λ t. of_inline (in_place_of n (within n.value t)))
      (typable_fragment s ty n.value.type_condition)
  inline-elaborated ty n = simp (elaborated-roll, elaborated-fragment, typable-through)

  inline_typed : (n : NodeView ast_inline.InlineFragment) → AreTypedAlike n.value.selection_set
      → IsTypedAlike (inline n)
  inline_typed n below a b one =
      let f : ast_inline.InlineFragment = plain_inline n.value in
      let g : ast_inline.InlineFragment = n.value in
      ap (option_map half) (ap (elaborated_selection s a) (inline_selection-bare n) ∙ inline-elaborated a _)
      ∙ typed-alike AreOneName half bare_selection _ _ _ _
      (fragment-judged s a b g.type_condition one) (λ t u child. selection-half _
      ∙ ap (λ (h : InlineFragment). of_inline (record { value = h; location = None }))
      (inline-half _ ∙ (λ i. roll-InlineFragment (record {
        type_condition = f.type_condition;
        directives = f.directives;
        selection_set = sets g.selection_set below t u child i;
      }))
      ∙ sym (inline-bare _))
      ∙ sym (selection-bare _))
      ∙ sym (ap (option_map bare_selection) (inline-elaborated b n))

  -- ---- spreads

  spread_typed : (n : NodeView ast_spread.FragmentSpread) → IsTypedAlike (spread n)
  spread_typed n a b one =
      let m : NodeView ast_spread.FragmentSpread = bare_node syntax.bare_fragment_spread n in
      ap (option_map half) (ap (elaborated_selection s a) (syntax-bare _) ∙ elaborated-roll s a _)
      ∙ ap Some (selection-half _ ∙ sym (selection-bare _))
      ∙ sym (ap (option_map bare_selection) (elaborated-roll s b _))

  all_typed : (xs : List ast.Selection) → AreTypedAlike xs
  all_typed = of_selections IsTypedAlike AreTypedAlike (λ a b one. refl) before field_typed spread_typed
      inline_typed

  -- the set that stands for selections in a type
  pub alike_sets : (a b : NameView) (xs ys : List ast.Selection) → bare_name a ≡ bare_name b
      → map syntax.bare_selection xs ≡ map syntax.bare_selection ys
      → bare_selection_set (elaborated s a xs) ≡ bare_selection_set (elaborated s b ys)
  alike_sets a b xs ys one same = sym (sets xs (all_typed xs) _ a refl)
      ∙ (λ i. half_set (elaborated s (one i) (same i))) ∙ sets ys (all_typed ys) _ b refl
