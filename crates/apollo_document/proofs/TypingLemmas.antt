-- What elaboration gives is typed.
use Rattle.std.proofs.Common.{arith, ◌≡◌, ap, sym, subst, refl, Bool, true, List, [], ◌∷◌, map, Option, Some}
use Rattle.std.proofs.Common.{None, option_map, Result, Ok}
use Rattle.std.specs.List.{AllByRecursion, filter_map, cons_option}
use Rattle.std.specs.Option.{IfSome}
use Rattle.graphql_nodes.specs.NameView.{NameView}
use Rattle.graphql_nodes.specs.NodeView.{NodeView}
use Rattle.graphql_ast.specs.declared.selection.Selection as ast
use Rattle.graphql_ast.specs.declared.selection.Field as ast_field
use Rattle.graphql_ast.specs.declared.selection.FragmentSpread as syntax_spread
use Rattle.graphql_ast.specs.declared.selection.InlineFragment as ast_inline
use Rattle.graphql_ast.specs.declared.type_system.FieldDefinition.{FieldDefinition}
use Rattle.apollo_schema.specs.declared.schema.Schema.{Schema}
use Rattle.apollo_executable.specs.declared.selection.Selection.{Selection, roll-Selection}
use Rattle.apollo_executable.specs.declared.selection.Selection.TheFolds as typed_folds
use Rattle.apollo_executable.specs.declared.selection.Selection.TheOpen as typed_layer
use Rattle.apollo_executable.specs.declared.selection.Field.{Field, roll-Field}
use Rattle.apollo_executable.specs.declared.selection.InlineFragment.{InlineFragment, roll-InlineFragment}
use Rattle.apollo_executable.specs.declared.selection.SelectionSet.{SelectionSet, roll-SelectionSet}
use Rattle.apollo_document.specs.Typable.{child_of, is_bare, typable_field, typable_fragment, if_typable}
use Rattle.apollo_document.specs.Elaborated.{set_of, elaborated_selection, elaborated_field}
use Rattle.apollo_document.specs.Elaborated.{elaborated_fragment, elaborated}
use Rattle.apollo_document.specs.TypedSelections.{In, selection_in, typed_field_in, typed_fragment_in, set_in}
use Rattle.apollo_document.specs.TypedSelections.{IsTyped, IsTypedField, IsTypedFragment, IsTypedSet}
use Rattle.apollo_document.proofs.Equations.{bare-nil, typed_in, elaborated-field, elaborated-fragment}
use Rattle.apollo_document.proofs.ErasureLemmas.{elaborated-roll}
use Rattle.apollo_document.proofs.SyntaxInduction.{field, spread, inline, of_selections}

all-map : {X Y : Type 0} (v : X → Y) (P : Y → Type 0) (xs : List X)
    → AllByRecursion (λ (x : X). P (v x)) xs ≡ AllByRecursion P (map v xs)
all-map v P [] = refl
all-map v P (x ∷ xs) = ap (λ (T : Type 0). P (v x) × T) (all-map v P xs)

pub along : {A B : Type 0} → A ≡ B → A → B
along e a = subst (λ (X : Type 0). X) e a

-- ---- a typed value, by its parts

module _ (s : Option Schema) where
  module _ (X X' X'' X3 : Type 0) (v : X → Selection) (v' : X' → Field) (v'' : X'' → InlineFragment) (v3 : X3
      → SelectionSet) (k : Selection → In) (k' : Field → In) (k'' : InlineFragment → In) (k3 : SelectionSet
      → In) where
    selection_natural : (x : typed_layer.Selection-F X X' X'' X3)
        → selection_in s X X' X'' X3 v v' v'' v3 (λ p. k (v p)) (λ p. k' (v' p)) (λ p. k'' (v'' p))
        (λ p. k3 (v3 p)) x ≡ selection_in s Selection Field InlineFragment SelectionSet (λ y. y) (λ y. y)
        (λ y. y) (λ y. y) k k' k'' k3 (typed_folds.map-Selection X X' X'' X3 Selection Field InlineFragment
        SelectionSet v v' v'' v3 x)
    selection_natural (typed_layer.Selection-F.Field n) = refl
    selection_natural (typed_layer.Selection-F.FragmentSpread n) = refl
    selection_natural (typed_layer.Selection-F.InlineFragment n) = refl

  module _ (ty : NameView) where
    pub selection-roll : (x : typed_layer.Selection-F Selection Field InlineFragment SelectionSet)
        → IsTyped s ty (roll-Selection x) ≡ selection_in s Selection Field InlineFragment SelectionSet
        (λ y. y) (λ y. y) (λ y. y) (λ y. y) (λ y t. IsTyped s t y) (λ y t. IsTypedField s t y)
        (λ y t. IsTypedFragment s t y) (λ y t. IsTypedSet s t y) x ty
    selection-roll x = ap (λ (u : In). u ty) (typed_folds.rec-roll-Selection In In In In (selection_in s)
        (typed_field_in s) (typed_fragment_in s) (set_in s) selection_natural x)

    pub field-roll : (x : typed_layer.Field-F Selection Field InlineFragment SelectionSet)
        → IsTypedField s ty (roll-Field x) ≡ ((typable_field s ty x.name (is_bare x.selection_set.selections)
        ≡ Ok x.definition) × IsTypedSet s (child_of x.definition) x.selection_set)
    field-roll x = ap (λ (u : In). u ty) (typed_folds.rec-roll-Field In In In In (selection_in s)
        (typed_field_in s) (typed_fragment_in s) (set_in s) (λ X X' X'' X3 v v' v'' v3 k k' k'' k3 x. refl) x)

    pub fragment-roll : (x : typed_layer.InlineFragment-F Selection Field InlineFragment SelectionSet)
        → IsTypedFragment s ty (roll-InlineFragment x) ≡ ((child : NameView)
        × ((typable_fragment s ty x.type_condition ≡ Ok child) × IsTypedSet s child x.selection_set))
    fragment-roll x = ap (λ (u : In). u ty) (typed_folds.rec-roll-InlineFragment In In In In (selection_in s)
        (typed_field_in s) (typed_fragment_in s) (set_in s) (λ X X' X'' X3 v v' v'' v3 k k' k'' k3 x. refl) x)

    pub set-roll : (x : typed_layer.SelectionSet-F Selection Field InlineFragment SelectionSet)
        → IsTypedSet s ty (roll-SelectionSet x)
        ≡ ((x.ty ≡ ty) × AllByRecursion (λ (y : Selection). IsTyped s ty y) x.selections)
    set-roll x = ap (λ (u : In). u ty) (typed_folds.rec-roll-SelectionSet In In In In (selection_in s)
        (typed_field_in s) (typed_fragment_in s) (set_in s) (λ X X' X'' X3 v v' v'' v3 k k' k'' k3 x i t.
        (x.ty ≡ t) × all-map v (λ (y : Selection). k y t) x.selections i) x)

    set-typed : (xs : List Selection) → AllByRecursion (λ (x : Selection). IsTyped s ty x) xs
        → IsTypedSet s ty (set_of ty xs)
    set-typed xs h = rw (set-roll _) (refl, h)

-- ---- what holds of what is typable

holds_typable : {A B E : Type 0} (P : B → Type 0) (f : A → B) (r : Result A E)
    → ((a : A) → r ≡ Ok a → P (f a)) → IfSome (if_typable f r) P
holds_typable P f r h = grind (arith, h)

holds_map : {A B : Type 0} (P : A → Type 0) (Q : B → Type 0) (f : A → B) → ((a : A) → P a → Q (f a))
    → (o : Option A) → IfSome o P → IfSome (option_map f o) Q
holds_map P Q f g o h = grind (arith, g, h)

all_cons : {A : Type 0} (P : A → Type 0) (o : Option A) (xs : List A) → IfSome o P → AllByRecursion P xs
    → AllByRecursion P (cons_option o xs)
all_cons P o xs h g = grind (arith, h, g)

-- fewer subselections leave a field typable
typable-more : (s : Option Schema) (ty name : NameView) (b c : Bool) (d : NodeView FieldDefinition)
    → (b ≡ true → c ≡ true) → typable_field s ty name b ≡ Ok d → typable_field s ty name c ≡ Ok d
typable-more None ty name b c d h p = p
typable-more (Some s) ty name b c d h p = grind (arith, h, p)

bare_kept : {A B : Type 0} (h : A → Option B) (xs : List A) → is_bare xs ≡ true
    → is_bare (filter_map h xs) ≡ true
bare_kept h xs p = ap (λ l. is_bare (filter_map h l)) (bare-nil xs p)

-- ---- what elaboration gives is typed

module _ (s : Option Schema) where
  abbrev IsRight : ast.Selection → Type 0
  IsRight x = (ty : NameView) → IfSome (elaborated_selection s ty x) (λ t. IsTyped s ty t)

  abbrev AreRight : List ast.Selection → Type 0
  AreRight xs = (ty : NameView) → AllByRecursion (λ (x : Selection). IsTyped s ty x) (typed_in s xs ty)

  field_right : (f : ast_field.Field) → AreRight f.selection_set → (ty : NameView)
      → IfSome (elaborated_field s ty f) (λ t. IsTypedField s ty t)
  field_right f h ty = rw (elaborated-field s ty f) (holds_typable _ _ _
      (λ d e. along (sym (field-roll s ty _)) (
        typable-more s ty f.name _ _ d (bare_kept _ f.selection_set) e,
        set-typed s _ _ (h (child_of d)),
      )))

  fragment_right : (f : ast_inline.InlineFragment) → AreRight f.selection_set → (ty : NameView)
      → IfSome (elaborated_fragment s ty f) (λ t. IsTypedFragment s ty t)
  fragment_right f h ty = rw (elaborated-fragment s ty f)
      (holds_typable _ _ (typable_fragment s ty f.type_condition)
      (λ c e. rw (fragment-roll s ty _) (c, (e, set-typed s c _ (h c)))))

  of_field : (n : NodeView ast_field.Field) → AreRight n.value.selection_set → IsRight (field n)
  of_field n h ty = rw (elaborated-roll s ty _) (holds_map _ _ _
      (λ f t. along (sym (selection-roll s ty _)) t) (elaborated_field s ty n.value)
      (field_right n.value h ty))

  of_spread : (n : NodeView syntax_spread.FragmentSpread) → IsRight (spread n)
  of_spread n ty = rw (elaborated-roll s ty _) (along (sym (selection-roll s ty _)) tt)

  of_inline : (n : NodeView ast_inline.InlineFragment) → AreRight n.value.selection_set → IsRight (inline n)
  of_inline n h ty = rw (elaborated-roll s ty _) (holds_map _ _ _
      (λ f t. along (sym (selection-roll s ty _)) t) (elaborated_fragment s ty n.value)
      (fragment_right n.value h ty))

  pub elaborated_is_typed : (ty : NameView) (xs : List ast.Selection) → IsTypedSet s ty (elaborated s ty xs)
  elaborated_is_typed ty xs = set-typed s ty _ (of_selections IsRight AreRight (λ _. tt)
      (λ x others one rest t. all_cons _ _ _ (one t) (rest t)) of_field of_spread of_inline xs ty)
