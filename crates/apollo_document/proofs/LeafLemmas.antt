-- Typed fields of leaf types have no subselections.
use Rattle.std.proofs.Common.{arith, ◌≡◌, ◌∙◌, ◌⊎◌, inl, inr, sym, subst, Bool, true, false, List, ◌∷◌}
use Rattle.std.proofs.Common.{Option, Some, None, Result, Ok, Err}
use Rattle.std.specs.List.{AllByRecursion}
use Rattle.std.specs.Option.{option_map_or}
use Rattle.std.proofs.lemmas.Bool.{true≢false}
use Rattle.graphql_nodes.specs.NameView.{NameView}
use Rattle.graphql_nodes.specs.NodeView.{NodeView}
use Rattle.graphql_ast.specs.declared.type_system.FieldDefinition.{FieldDefinition}
use Rattle.apollo_component.proofs.Lists.Each.{each-append}
use Rattle.apollo_types.specs.TypeKinds.{is_leaf}
use Rattle.apollo_types.specs.declared.extended_type.ExtendedType.{ExtendedType}
use Rattle.apollo_schema.specs.Lookups.{refers_to, type_at}
use Rattle.apollo_schema.specs.declared.schema.Schema.{Schema}
use Rattle.apollo_executable.specs.Walks.FieldsIn.{fields_in}
use Rattle.apollo_executable.specs.declared.selection.Selection.{Selection}
use Rattle.apollo_executable.specs.declared.selection.Selection.TheViews.{roll-out-Field}
use Rattle.apollo_executable.specs.declared.selection.Selection.TheViews.{roll-out-InlineFragment}
use Rattle.apollo_executable.specs.declared.selection.Selection.TheViews.{roll-out-SelectionSet}
use Rattle.apollo_executable.specs.declared.selection.Selection.TheVariants as variant
use Rattle.apollo_executable.specs.declared.selection.Field.{Field}
use Rattle.apollo_executable.specs.declared.selection.FragmentSpread.{FragmentSpread}
use Rattle.apollo_executable.specs.declared.selection.InlineFragment.{InlineFragment}
use Rattle.apollo_executable.specs.declared.selection.SelectionSet.{SelectionSet}
use Rattle.apollo_executable.proofs.Selections.Induction.{of_selections}
use Rattle.apollo_executable.proofs.Walking.ReadingLemmas.{of_fields, none-read, field-read, spread-read}
use Rattle.apollo_executable.proofs.Walking.ReadingLemmas.{inline-read}
use Rattle.apollo_document.specs.BareLeaves.{IsBareOnLeaf}
use Rattle.apollo_document.specs.Typable.{Wrong, child_of, leaf_fault, with_subselections}
use Rattle.apollo_document.specs.TypedSelections.{IsTyped, IsTypedField, IsTypedFragment, IsTypedSet}
use Rattle.apollo_document.proofs.Equations.{bare-nil}
use Rattle.apollo_document.proofs.TypingLemmas.{along, selection-roll, field-roll, fragment-roll, set-roll}

-- nothing is wrong with subselections from a type alone where it is no leaf
leaf-none : (ty : NameView) (o : Option ExtendedType) → leaf_fault ty o ≡ None
    → option_map_or is_leaf o false ≡ false
leaf-none ty o none = grind (arith, none)

module _ (s : Schema) (bare : Bool) (d : NodeView FieldDefinition) where
  abbrev MaySelect : Type 0
  MaySelect = (bare ≡ true) ⊎ (refers_to is_leaf s.types d.value.ty ≡ false)

  may-select : (r : Result (NodeView FieldDefinition) Wrong) → with_subselections s bare r ≡ Ok d → MaySelect
  may-select (Ok e) stands = grind (arith, stands, leaf-none (child_of e) (type_at s.types (child_of e)))
  may-select (Err wrong) stands = cc

module _ (s : Schema) where
  abbrev All : List (NodeView Field) → Type 0
  All = AllByRecursion (λ (n : NodeView Field). IsBareOnLeaf s n.value)

  abbrev AreTyped : NameView → List Selection → Type 0
  AreTyped ty = AllByRecursion (λ (x : Selection). IsTyped (Some s) ty x)

  abbrev AreBare : List Selection → Type 0
  AreBare xs = (ty : NameView) → AreTyped ty xs → All (fields_in true xs)

  set-typed : (ty : NameView) (set : SelectionSet) → IsTypedSet (Some s) ty set → AreTyped ty set.selections
  set-typed ty set typed =
      (along (set-roll (Some s) ty _) (subst (IsTypedSet (Some s) ty) (sym (roll-out-SelectionSet set))
      typed)).1

  field-typed : (ty : NameView) (f : Field) → IsTypedField (Some s) ty f
      → IsBareOnLeaf s f × IsTypedSet (Some s) (child_of f.definition) f.selection_set
  field-typed ty f typed =
      let t = along (field-roll (Some s) ty _)
      (subst (IsTypedField (Some s) ty) (sym (roll-out-Field f)) typed) in
      let xs = f.selection_set.selections in (
        λ leaf. bare-nil xs (elim (may-select s _ f.definition _ t.0) [
          | inl b ↦ b
          | inr e ↦ absurd (true≢false (sym leaf ∙ e))
        ]),
        t.1,
      )

  of_field : (n : NodeView Field) (others : List Selection) → AreBare n.value.selection_set.selections
      → AreBare others → AreBare (variant.Field n ∷ others)
  of_field n others below rest ty typed =
      let t = field-typed ty n.value (along (selection-roll (Some s) ty _)
      (subst (IsTyped (Some s) ty) (sym (variant.rolls-Field n)) typed.0)) in
      let set = n.value.selection_set in
      let child = child_of n.value.definition in
      subst All (sym (field-read of_fields true n others)) (
        t.0,
        each-append _ _ _ (below child (set-typed child set t.1)) (rest ty typed.1),
      )

  of_spread : (n : NodeView FragmentSpread) (others : List Selection) → AreBare others
      → AreBare (variant.FragmentSpread n ∷ others)
  of_spread n others rest ty typed = subst All (sym (spread-read of_fields true n others)) (rest ty typed.1)

  of_inline : (n : NodeView InlineFragment) (others : List Selection)
      → AreBare n.value.selection_set.selections → AreBare others
      → AreBare (variant.InlineFragment n ∷ others)
  of_inline n others inside rest ty typed =
      let f = along (selection-roll (Some s) ty _) (subst (IsTyped (Some s) ty)
      (sym (variant.rolls-InlineFragment n)) typed.0) in
      let t = along (fragment-roll (Some s) ty _) (subst (IsTypedFragment (Some s) ty)
      (sym (roll-out-InlineFragment n.value)) f) in
      let set = n.value.selection_set in
      subst All (sym (inline-read of_fields true n others))
      (each-append _ _ _ (inside t.0 (set-typed t.0 set t.1.1)) (rest ty typed.1))

  pub typed_is_bare : (ty : NameView) (set : SelectionSet) → IsTypedSet (Some s) ty set
      → All (fields_in true set.selections)
  typed_is_bare ty set typed = of_selections AreBare (λ ty typed. subst All (sym (none-read of_fields true))
      tt) of_field of_spread of_inline set.selections ty (set-typed ty set typed)
