-- What elaboration gives, erased, is the untyped list stripped.
use Rattle.std.proofs.Common.{arith, ◌≡◌, ◌∙◌, ap, sym, refl, List, map, Option, Some}
use Rattle.std.proofs.Common.{option_map, Result}
use Rattle.std.specs.List.{cons_option}
use Rattle.graphql_nodes.specs.NameView.{NameView}
use Rattle.graphql_nodes.specs.NodeView.{NodeView}
use Rattle.graphql_ast.specs.declared.directive.Argument.{Argument}
use Rattle.graphql_ast.specs.declared.directive.DirectiveList.{DirectiveList}
use Rattle.graphql_ast.specs.declared.selection.FragmentSpread as syntax_spread
use Rattle.graphql_ast.specs.declared.selection.Selection.TheVariants as variant
use Rattle.graphql_ast.specs.declared.selection.Selection as ast
use Rattle.graphql_ast.specs.declared.selection.Selection.TheOpen as layer
use Rattle.graphql_ast.specs.declared.selection.Selection.TheFolds as folds
use Rattle.graphql_ast.specs.declared.selection.Field as ast_field
use Rattle.graphql_ast.specs.declared.selection.InlineFragment as ast_inline
use Rattle.graphql_ast.specs.declared.type_system.FieldDefinition.{FieldDefinition}
use Rattle.apollo_schema.specs.declared.schema.Schema.{Schema}
use Rattle.apollo_executable.specs.declared.selection.Selection.{Selection, roll-Selection}
use Rattle.apollo_executable.specs.declared.selection.Selection.TheFolds as typed_folds
use Rattle.apollo_executable.specs.declared.selection.Selection.TheOpen as typed_layer
use Rattle.apollo_executable.specs.declared.selection.Field.{Field}
use Rattle.apollo_executable.specs.declared.selection.InlineFragment.{InlineFragment}
use Rattle.apollo_executable.specs.declared.selection.FragmentSpread.{FragmentSpread}
use Rattle.apollo_executable.specs.Erasure as e
use Rattle.apollo_executable.specs.Erasure.{erased, erased_field, erased_inline_fragment, erased_set}
use Rattle.apollo_document.specs.Typable.{is_bare, typable_field, typable_fragment, if_typable}
use Rattle.apollo_document.specs.Stripped.{SS, SF, SI, in_place_of, strip_step, strip_field_step}
use Rattle.apollo_document.specs.Stripped.{strip_fragment_step, kept_field, kept_fragment, stripped_selection}
use Rattle.apollo_document.specs.Stripped.{stripped_field, stripped_inline_fragment, stripped}
use Rattle.apollo_document.specs.Elaborated.{TS, TF, TI, selection_step, field_step, fragment_step, set_of}
use Rattle.apollo_document.specs.Elaborated.{typed_field, typed_inline_fragment, elaborated_selection}
use Rattle.apollo_document.specs.Elaborated.{elaborated_field, elaborated_fragment, elaborated}
use Rattle.apollo_document.proofs.Equations.{below-each, typed_in, elaborated-field, elaborated-fragment}
use Rattle.apollo_document.proofs.SyntaxInduction.{Layer, field, spread, inline, of_selections}

-- ---- what is left of a field and of a fragment, by what is left of what is below

module _ (s : Option Schema) where
  abbrev each_stripped : ast.Selection → SS
  each_stripped x ty = stripped_selection s ty x

  -- what is left below a field or a fragment
  abbrev kept_in : List ast.Selection → NameView → List ast.Selection
  kept_in xs t = stripped s t xs

  pub field_stripped : (ty : NameView) (f : ast_field.Field)
      → stripped_field s ty f ≡ if_typable (kept_field f.alias f.name f.arguments f.directives
      (kept_in f.selection_set)) (typable_field s ty f.name (is_bare f.selection_set))
  field_stripped ty f =
      (λ i. folds.fold_out-Field SS SF SI strip_step (strip_field_step s) (strip_fragment_step s) f i ty)
      ∙ below-each each_stripped f.selection_set (kept_field f.alias f.name f.arguments f.directives)
      (typable_field s ty f.name)

  pub fragment_stripped : (ty : NameView) (f : ast_inline.InlineFragment)
      → stripped_inline_fragment s ty f ≡ if_typable (kept_fragment f.type_condition f.directives
      (kept_in f.selection_set)) (typable_fragment s ty f.type_condition)
  fragment_stripped ty f = (λ i. folds.fold_out-InlineFragment SS SF SI strip_step (strip_field_step s)
      (strip_fragment_step s) f i ty) ∙ below-each each_stripped f.selection_set
      (kept_fragment f.type_condition f.directives) (λ _. typable_fragment s ty f.type_condition)

-- ---- a typed value, made and erased

erased-set_of : (ty : NameView) (xs : List Selection) → erased_set (set_of ty xs) ≡ map erased xs
erased-set_of ty xs = typed_folds.fold-roll-SelectionSet _ _ _ _ _ _ _ _ (record { ty = ty; selections = xs })

erased-typed_field : (alias : Option NameView) (name : NameView) (arguments : List (NodeView Argument))
    (directives : DirectiveList) (below : NameView → List Selection) (d : NodeView FieldDefinition)
    → erased_field (typed_field alias name arguments directives below d) ≡ kept_field alias name arguments
    directives (λ t. map erased (below t)) d
erased-typed_field alias name arguments directives below d = typed_folds.fold-roll-Field _ _ _ _ _ _ _ _ _
    ∙ ap (λ (xs : List ast.Selection). kept_field alias name arguments directives (λ t. xs) d)
    (erased-set_of _ _)

erased-typed_inline_fragment : (condition : Option NameView) (directives : DirectiveList) (below : NameView
    → List Selection) (t : NameView)
    → erased_inline_fragment (typed_inline_fragment condition directives below t)
    ≡ kept_fragment condition directives (λ t. map erased (below t)) t
erased-typed_inline_fragment condition directives below t = typed_folds.fold-roll-InlineFragment _ _ _ _ _ _ _
    _ _ ∙ ap (λ (xs : List ast.Selection). kept_fragment condition directives (λ t. xs) t)
    (erased-set_of t (below t))

pub erased-typed-field : (n : NodeView Field)
    → erased (roll-Selection (typed_layer.Selection-F.Field n))
    ≡ ast.roll-Selection (layer.Selection-F.Field (in_place_of n (erased_field n.value)))
erased-typed-field n = typed_folds.fold-roll-Selection _ _ _ _ _ _ _ _ (typed_layer.Selection-F.Field n)

pub erased-typed-spread : (n : NodeView FragmentSpread)
    → erased (roll-Selection (typed_layer.Selection-F.FragmentSpread n))
    ≡ ast.roll-Selection (layer.Selection-F.FragmentSpread (in_place_of n (e.erased_spread n.value)))
erased-typed-spread n = typed_folds.fold-roll-Selection _ _ _ _ _ _ _ _
    (typed_layer.Selection-F.FragmentSpread n)

pub erased-typed-fragment : (n : NodeView InlineFragment)
    → erased (roll-Selection (typed_layer.Selection-F.InlineFragment n))
    ≡ ast.roll-Selection (layer.Selection-F.InlineFragment (in_place_of n (erased_inline_fragment n.value)))
erased-typed-fragment n = typed_folds.fold-roll-Selection _ _ _ _ _ _ _ _
    (typed_layer.Selection-F.InlineFragment n)

-- ---- options

map-cons_option : {A B : Type 0} (f : A → B) (o : Option A) (xs : List A)
    → map f (cons_option o xs) ≡ cons_option (option_map f o) (map f xs)
map-cons_option f o xs = grind arith

map-if_typable : {A B C E : Type 0} (g : B → C) (f : A → B) (h : A → C) → ((a : A) → g (f a) ≡ h a)
    → (r : Result A E) → option_map g (if_typable f r) ≡ if_typable h r
map-if_typable g f h e r = grind (arith, e)

option_fuse : {A B C D : Type 0} (g : B → C) (f : A → B) (k : D → C) (h : A → D)
    → ((a : A) → g (f a) ≡ k (h a)) → (o : Option A)
    → option_map g (option_map f o) ≡ option_map k (option_map h o)
option_fuse g f k h e o = grind (arith, e)

-- ---- what elaboration gives, erased

-- what is given of a selection in each type, by its one level
module _ {X Y Z : Type 0} (one : layer.Selection-F (NameView → X) (NameView → Y) (NameView → Z) → NameView
    → X) (in_field : layer.Field-F (NameView → X) (NameView → Y) (NameView → Z) → NameView
    → Y) (in_fragment : layer.InlineFragment-F (NameView → X) (NameView → Y) (NameView → Z) → NameView
    → Z) where
  pub rolled : (ty : NameView) (x : Layer)
      → folds.fold-Selection _ _ _ one in_field in_fragment (ast.roll-Selection x) ty
      ≡ one (folds.map-Selection _ _ _ _ _ _ (folds.fold-Selection _ _ _ one in_field in_fragment)
      (folds.fold-Field _ _ _ one in_field in_fragment)
      (folds.fold-InlineFragment _ _ _ one in_field in_fragment) x) ty
  rolled ty x = λ i. folds.fold-roll-Selection _ _ _ one in_field in_fragment x i ty

module _ (s : Option Schema) where
  pub elaborated-roll : (ty : NameView) (x : Layer)
      → elaborated_selection s ty (ast.roll-Selection x)
      ≡ selection_step (folds.map-Selection ast.Selection ast_field.Field ast_inline.InlineFragment TS TF TI
      (λ y t. elaborated_selection s t y) (λ y t. elaborated_field s t y) (λ y t. elaborated_fragment s t y)
      x) ty
  elaborated-roll = rolled selection_step (field_step s) (fragment_step s)

  abbrev IsSame : ast.Selection → Type 0
  IsSame x = (ty : NameView) → option_map erased (elaborated_selection s ty x) ≡ stripped_selection s ty x

  abbrev AreSame : List ast.Selection → Type 0
  AreSame xs = (ty : NameView) → map erased (typed_in s xs ty) ≡ stripped s ty xs

  field_same : (f : ast_field.Field) → AreSame f.selection_set → (ty : NameView)
      → option_map erased_field (elaborated_field s ty f) ≡ stripped_field s ty f
  field_same f h ty = ap (option_map erased_field) (elaborated-field s ty f) ∙ map-if_typable erased_field _ _
      (λ d. erased-typed_field f.alias f.name f.arguments f.directives (typed_in s f.selection_set) d
      ∙ (λ i. kept_field f.alias f.name f.arguments f.directives (λ t. h t i) d)) _
      ∙ sym (field_stripped s ty f)

  fragment_same : (f : ast_inline.InlineFragment) → AreSame f.selection_set → (ty : NameView)
      → option_map erased_inline_fragment (elaborated_fragment s ty f) ≡ stripped_inline_fragment s ty f
  fragment_same f h ty = ap (option_map erased_inline_fragment) (elaborated-fragment s ty f)
      ∙ map-if_typable erased_inline_fragment _ _ (λ c. erased-typed_inline_fragment f.type_condition
      f.directives (typed_in s f.selection_set) c ∙ (λ i. kept_fragment f.type_condition f.directives
      (λ t. h t i) c)) _ ∙ sym (fragment_stripped s ty f)

  of_field : (n : NodeView ast_field.Field) → AreSame n.value.selection_set → IsSame (field n)
  of_field n h ty = ap (option_map erased) (elaborated-roll ty _)
      ∙ option_fuse erased _ _ erased_field (λ _. erased-typed-field _) _
      ∙ ap (option_map (λ f. field (in_place_of n f))) (field_same n.value h ty)
      ∙ sym (rolled strip_step (strip_field_step s) (strip_fragment_step s) ty _)

  -- a spread stays as it is
  of_spread : (n : NodeView syntax_spread.FragmentSpread) → IsSame (spread n)
  of_spread n ty = ap (option_map erased) (elaborated-roll ty _) ∙ ap Some (erased-typed-spread _)
      ∙ sym (rolled strip_step (strip_field_step s) (strip_fragment_step s) ty _)

  of_inline : (n : NodeView ast_inline.InlineFragment) → AreSame n.value.selection_set → IsSame (inline n)
  of_inline n h ty = ap (option_map erased) (elaborated-roll ty _)
      ∙ option_fuse erased _ _ erased_inline_fragment (λ _. erased-typed-fragment _) _
      ∙ ap (option_map (λ f. inline (in_place_of n f))) (fragment_same n.value h ty)
      ∙ sym (rolled strip_step (strip_field_step s) (strip_fragment_step s) ty _)

  pub erased_is_stripped : (ty : NameView) (xs : List ast.Selection)
      → erased_set (elaborated s ty xs) ≡ stripped s ty xs
  erased_is_stripped ty xs = erased-set_of ty _ ∙ of_selections IsSame AreSame (λ _. refl)
      (λ x others one rest t. map-cons_option erased _ _ ∙ (λ i. cons_option (one t i) (rest t i)))
      of_field of_spread of_inline xs ty

  pub spread_stripped : (ty : NameView) (n : NodeView syntax_spread.FragmentSpread)
      → stripped_selection s ty (variant.FragmentSpread n) ≡ Some (variant.FragmentSpread n)
  spread_stripped ty n = ap (stripped_selection s ty) (sym (variant.rolls-FragmentSpread n))
      ∙ rolled strip_step (strip_field_step s) (strip_fragment_step s) ty _
      ∙ ap Some (variant.rolls-FragmentSpread n)
