-- A typed tree, erased and elaborated again, gives itself and no fault. So of typed sets from one type no two
-- are erased to one list.
use Rattle.std.proofs.Common.{◌≡◌, ◌∙◌, ap, sym, refl, List, [], ◌∷◌, ◌++◌, map, Option, Some}
use Rattle.std.proofs.Common.{option_map, Ok}
use Rattle.std.specs.List.{AllByRecursion, cons_option}
use Rattle.graphql_nodes.specs.NameView.{NameView}
use Rattle.graphql_nodes.specs.declared.source.SourceSpan.{SourceSpan}
use Rattle.graphql_ast.specs.declared.selection.Selection as ast
use Rattle.graphql_ast.specs.declared.selection.Selection.TheOpen as layer
use Rattle.graphql_ast.specs.declared.selection.Selection.TheFolds as folds
use Rattle.graphql_ast.specs.declared.selection.Field as ast_field
use Rattle.graphql_ast.specs.declared.selection.InlineFragment as ast_inline
use Rattle.apollo_schema.specs.declared.schema.Schema.{Schema}
use Rattle.apollo_executable.specs.SelectionParts.{response_key_of}
use Rattle.apollo_executable.specs.Erasure as e
use Rattle.apollo_executable.specs.Erasure.{erased, erased_field, erased_inline_fragment, erased_set}
use Rattle.apollo_executable.specs.declared.selection.Selection.{Selection, roll-Selection}
use Rattle.apollo_executable.specs.declared.selection.Selection.TheFolds as typed_folds
use Rattle.apollo_executable.specs.declared.selection.Selection.TheOpen as typed_layer
use Rattle.apollo_executable.specs.declared.selection.Field.{Field, roll-Field}
use Rattle.apollo_executable.specs.declared.selection.InlineFragment.{InlineFragment, roll-InlineFragment}
use Rattle.apollo_executable.specs.declared.selection.SelectionSet.{SelectionSet, roll-SelectionSet}
use Rattle.apollo_document.specs.Typable.{child_of, is_bare, typable_field, if_typable}
use Rattle.apollo_document.specs.Stripped.{in_place_of, stripped}
use Rattle.apollo_document.specs.Elaborated.{set_of, typed_field, typed_inline_fragment, elaborated_selection}
use Rattle.apollo_document.specs.Elaborated.{elaborated_field, elaborated_fragment, elaborated}
use Rattle.apollo_document.specs.SelectionFaults.{FS, FN, faults_step, field_faults_step}
use Rattle.apollo_document.specs.SelectionFaults.{fragment_faults_step, below_or_wrong, inside}
use Rattle.apollo_document.specs.SelectionFaults.{faults_of_selections, faults_of_selection, faults_of_field}
use Rattle.apollo_document.specs.SelectionFaults.{faults_of_fragment}
use Rattle.apollo_document.specs.TypedSelections.{IsTyped, IsTypedField, IsTypedFragment, IsTypedSet}
use Rattle.apollo_document.specs.declared.selection_path.SelectionPath.{SelectionPath}
use Rattle.apollo_document.proofs.Equations.{is_bare-map, typed_in, elaborated-field, elaborated-fragment}
use Rattle.apollo_document.proofs.Equations.{faults-field, faults-fragment}
use Rattle.apollo_document.proofs.ErasureLemmas.{rolled, elaborated-roll, erased-typed-field}
use Rattle.apollo_document.proofs.ErasureLemmas.{erased-typed-spread, erased-typed-fragment}
use Rattle.apollo_document.proofs.ErasureLemmas.{erased_is_stripped}
use Rattle.apollo_document.proofs.TypingLemmas.{along, selection-roll, field-roll, fragment-roll, set-roll}
use Rattle.apollo_document.proofs.TypingLemmas.{elaborated_is_typed}

-- ---- one level, erased

abbrev Level : Type 0
Level = typed_layer.Field-F Selection Field InlineFragment SelectionSet

abbrev FragmentLevel : Type 0
FragmentLevel = typed_layer.InlineFragment-F Selection Field InlineFragment SelectionSet

erased-set : (x : typed_layer.SelectionSet-F Selection Field InlineFragment SelectionSet)
    → erased_set (roll-SelectionSet x) ≡ map erased x.selections
erased-set = typed_folds.fold-roll-SelectionSet _ _ _ _ _ _ _ _

erased-field : (x : Level) → erased_field (roll-Field x) ≡ ast_field.roll-Field (record {
  alias = x.alias;
  name = x.name;
  arguments = x.arguments;
  directives = x.directives;
  selection_set = erased_set x.selection_set;
})
erased-field = typed_folds.fold-roll-Field _ _ _ _ _ _ _ _

erased-fragment : (x : FragmentLevel)
    → erased_inline_fragment (roll-InlineFragment x) ≡ ast_inline.roll-InlineFragment (record {
      type_condition = x.type_condition;
      directives = x.directives;
      selection_set = erased_set x.selection_set;
    })
erased-fragment = typed_folds.fold-roll-InlineFragment _ _ _ _ _ _ _ _

-- ---- erased and elaborated again

module _ (s : Option Schema) where
  faults-roll : (ty : NameView) (path : SelectionPath) (x : layer.Selection-F ast.Selection ast_field.Field
      ast_inline.InlineFragment)
      → faults_of_selection s ty path (ast.roll-Selection x)
      ≡ faults_step (folds.map-Selection ast.Selection ast_field.Field ast_inline.InlineFragment FS FN FN
      (λ y t p. faults_of_selection s t p y) (λ y t l p. faults_of_field s t l p y)
      (λ y t l p. faults_of_fragment s t l p y) x) ty path
  faults-roll ty path x = λ i. rolled faults_step (field_faults_step s) (fragment_faults_step s) ty x i path

  abbrev PS : Selection → Type 0
  PS x = (ty : NameView) → IsTyped s ty x → (elaborated_selection s ty (erased x) ≡ Some x)
      × ((path : SelectionPath) → faults_of_selection s ty path (erased x) ≡ [])

  abbrev PF : Field → Type 0
  PF x = (ty : NameView) → IsTypedField s ty x → (elaborated_field s ty (erased_field x) ≡ Some x)
      × ((location : Option SourceSpan) (path : SelectionPath)
      → faults_of_field s ty location path (erased_field x) ≡ [])

  abbrev PI : InlineFragment → Type 0
  PI x = (ty : NameView) → IsTypedFragment s ty x → (elaborated_fragment s ty (erased_inline_fragment x)
      ≡ Some x) × ((location : Option SourceSpan) (path : SelectionPath)
      → faults_of_fragment s ty location path (erased_inline_fragment x) ≡ [])

  abbrev PL : SelectionSet → Type 0
  PL x = (ty : NameView) → IsTypedSet s ty x → (elaborated s ty (erased_set x) ≡ x) × ((path : SelectionPath)
      → faults_of_selections s ty path (erased_set x) ≡ [])

  abbrev WS : Type 0
  WS = (x : Selection) × PS x

  list_again : (ty : NameView) (ys : List WS)
      → AllByRecursion (λ (x : Selection). IsTyped s ty x) (map (λ (y : WS). y.0) ys)
      → (typed_in s (map erased (map (λ (y : WS). y.0) ys)) ty ≡ map (λ (y : WS). y.0) ys)
      × ((path : SelectionPath) → faults_of_selections s ty path (map erased (map (λ (y : WS). y.0) ys)) ≡ [])
  list_again ty [] h = (refl, λ path. refl)
  list_again ty (y ∷ ys) h =
      let a = y.1 ty h.0 in let b = list_again ty ys h.1 in
      ((λ i. cons_option (a.0 i) (b.0 i)), λ path i. a.1 path i ++ b.1 path i)

  set_again : (ty : NameView) (ys : List WS)
      → PL (roll-SelectionSet (record { ty = ty; selections = map (λ (y : WS). y.0) ys }))
  set_again own ys ty h =
      let x : typed_layer.SelectionSet-F Selection Field InlineFragment SelectionSet =
      record { ty = own; selections = map (λ (y : WS). y.0) ys } in
      let t = along (set-roll s ty x) h in
      let b = list_again ty ys t.1 in (
        ap (elaborated s ty) (erased-set x) ∙ (λ i. set_of (sym t.0 i) (b.0 i)),
        λ path. ap (faults_of_selections s ty path) (erased-set x) ∙ b.1 path,
      )

  field_again : (x : Level) → PL x.selection_set → PF (roll-Field x)
  field_again x below ty h =
      let t = along (field-roll s ty x) h in
      let erases : erased_set x.selection_set ≡ map erased x.selection_set.selections =
      typed_folds.fold_out-SelectionSet _ _ _ _ _ _ _ _ x.selection_set in
      let c : typable_field s ty x.name (is_bare (erased_set x.selection_set)) ≡ Ok x.definition =
      ap (typable_field s ty x.name) (ap is_bare erases ∙ is_bare-map erased x.selection_set.selections)
      ∙ t.0 in
      let b = below (child_of x.definition) t.1 in
      let within : SelectionPath → SelectionPath = λ path. inside path (response_key_of x.alias x.name) in (
        ap (elaborated_field s ty) (erased-field x) ∙ elaborated-field s ty _
            ∙ ap (if_typable (typed_field x.alias x.name x.arguments x.directives
            (typed_in s (erased_set x.selection_set)))) c
            ∙ (λ i. Some (roll-Field (record x { selection_set = b.0 i }))),
        λ location path. ap (faults_of_field s ty location path) (erased-field x)
            ∙ faults-field s ty location path _
            ∙ ap (below_or_wrong (λ d. faults_of_selections s (child_of d) (within path)
            (erased_set x.selection_set)) location (within path)) c ∙ b.1 (within path),
      )

  fragment_again : (x : FragmentLevel) → PL x.selection_set → PI (roll-InlineFragment x)
  fragment_again x below ty h =
      let t = along (fragment-roll s ty x) h in
      let b = below t.0 t.1.1 in (
        ap (elaborated_fragment s ty) (erased-fragment x) ∙ elaborated-fragment s ty _
            ∙ ap (if_typable (typed_inline_fragment x.type_condition x.directives
            (typed_in s (erased_set x.selection_set)))) t.1.0
            ∙ (λ i. Some (roll-InlineFragment (record x { selection_set = b.0 i }))),
        λ location path. ap (faults_of_fragment s ty location path) (erased-fragment x)
            ∙ faults-fragment s ty location path _
            ∙ ap (below_or_wrong (λ child. faults_of_selections s child path (erased_set x.selection_set))
            location path) t.1.0 ∙ b.1 path,
      )

  selection_again : (y : typed_layer.Selection-F WS ((x : Field) × PF x) ((x : InlineFragment) × PI x)
      ((x : SelectionSet) × PL x))
      → PS (roll-Selection (typed_folds.map-Selection WS ((x : Field) × PF x) ((x : InlineFragment) × PI x)
      ((x : SelectionSet) × PL x) Selection Field InlineFragment SelectionSet (λ e. e.0) (λ e. e.0) (λ e. e.0)
      (λ e. e.0) y))
  selection_again (typed_layer.Selection-F.Field n) ty h =
      let m = in_place_of n n.value.0 in
      let u = layer.Selection-F.Field (in_place_of n (erased_field n.value.0)) in
      let b = n.value.1 ty (along (selection-roll s ty _) h) in (
        ap (elaborated_selection s ty) (erased-typed-field m) ∙ elaborated-roll s ty u
            ∙ ap (option_map (λ f. roll-Selection (typed_layer.Selection-F.Field (in_place_of n f)))) b.0,
        λ path. ap (faults_of_selection s ty path) (erased-typed-field m) ∙ faults-roll ty path u
            ∙ b.1 n.location path,
      )
  selection_again (typed_layer.Selection-F.FragmentSpread n) ty h =
      let u = layer.Selection-F.FragmentSpread (in_place_of n (e.erased_spread n.value)) in (
        ap (elaborated_selection s ty) (erased-typed-spread n) ∙ elaborated-roll s ty u,
        λ path. ap (faults_of_selection s ty path) (erased-typed-spread n) ∙ faults-roll ty path u,
      )
  selection_again (typed_layer.Selection-F.InlineFragment n) ty h =
      let m = in_place_of n n.value.0 in
      let u = layer.Selection-F.InlineFragment (in_place_of n (erased_inline_fragment n.value.0)) in
      let b = n.value.1 ty (along (selection-roll s ty _) h) in (
        ap (elaborated_selection s ty) (erased-typed-fragment m) ∙ elaborated-roll s ty u
            ∙ ap (option_map (λ f. roll-Selection (typed_layer.Selection-F.InlineFragment (in_place_of n f))))
            b.0,
        λ path. ap (faults_of_selection s ty path) (erased-typed-fragment m) ∙ faults-roll ty path u
            ∙ b.1 n.location path,
      )

  set_is_again : (x : SelectionSet) → PL x
  set_is_again = typed_folds.ind-SelectionSet PS PF PI PL (λ x y is. rw (← is) (selection_again y))
      (λ x y is. rw (← is) (field_again _ y.selection_set.1))
      (λ x y is. rw (← is) (fragment_again _ y.selection_set.1))
      (λ x y is. rw (← is) (set_again y.ty y.selections))

  pub stripped_again : (ty : NameView) (x : SelectionSet) → IsTypedSet s ty x
      → stripped s ty (erased_set x) ≡ erased_set x
  stripped_again ty x h = sym (erased_is_stripped s ty _) ∙ ap erased_set (set_is_again x ty h).0

  pub faultless_again : (ty : NameView) (path : SelectionPath) (x : SelectionSet) → IsTypedSet s ty x
      → faults_of_selections s ty path (erased_set x) ≡ []
  faultless_again ty path x h = (set_is_again x ty h).1 path

  pub one_typed : (ty : NameView) (x y : SelectionSet) → IsTypedSet s ty x → IsTypedSet s ty y
      → erased_set x ≡ erased_set y → x ≡ y
  one_typed ty x y h g p = sym (set_is_again x ty h).0 ∙ ap (elaborated s ty) p ∙ (set_is_again y ty g).0

  -- a set that is typed and erased to the stripped list is the one that stands for it
  pub only_elaborated : (ty : NameView) (xs : List ast.Selection) (set : SelectionSet)
      → erased_set set ≡ stripped s ty xs → IsTypedSet s ty set → set ≡ elaborated s ty xs
  only_elaborated ty xs set h g = one_typed ty set _ g (elaborated_is_typed s ty xs) (h
      ∙ sym (erased_is_stripped s ty xs))
