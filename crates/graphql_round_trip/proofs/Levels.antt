-- What is seen of selections without their locations, from one level to the next.
use Rattle.std.proofs.Common.{List, subst, ◌≡◌, map, option_map, ℕ, suc, [], ◌∷◌, refl, sym, ap, ◌∙◌}
use Rattle.std.specs.List.{AllByRecursion}
use Rattle.graphql_round_trip.proofs.BareLists.{Shown, each_given}
use Rattle.graphql_nodes.specs.Comparing.{bare_name, bare_node}
use Rattle.graphql_nodes.specs.NodeView.{NodeView}
use Rattle.graphql_ast.specs.Bare.{bare_argument, bare_directive_list}
use Rattle.graphql_ast.specs.BareSelections.{bare_field, bare_fragment_spread, bare_inline_fragment}
use Rattle.graphql_ast.specs.BareSelections.{bare_selection}
use Rattle.graphql_ast.specs.declared.selection.Field.{Field, roll-Field}
use Rattle.graphql_ast.specs.declared.selection.FragmentSpread.{FragmentSpread}
use Rattle.graphql_ast.specs.declared.selection.InlineFragment.{InlineFragment, roll-InlineFragment}
use Rattle.graphql_ast.specs.declared.selection.Selection.{ind-Selection, Selection, fold-roll-Selection}
use Rattle.graphql_ast.specs.declared.selection.Selection.{roll-Selection}
use Rattle.graphql_ast.specs.declared.selection.Selection.TheFolds.{map-Selection, map-Field}
use Rattle.graphql_ast.specs.declared.selection.Selection.TheFolds.{map-InlineFragment, fold-roll-Field}
use Rattle.graphql_ast.specs.declared.selection.Selection.TheFolds.{fold-roll-InlineFragment, fold-Field}
use Rattle.graphql_ast.specs.declared.selection.Selection.TheFolds.{fold-InlineFragment}
use Rattle.graphql_ast.specs.declared.selection.Selection.TheOpen.{Field-F, InlineFragment-F, Selection-F}
use Rattle.std.proofs.lemmas.Simd.{map-map}
use Rattle.graphql_nodes.specs.NameView.{NameView}
use Rattle.graphql_ast.specs.TypeReferences.{made_non_null, non_null_step}
use Rattle.graphql_ast.specs.declared.type_reference.Type.{«Type» as TypeReference, Named, «List» as ListOf}
use Rattle.graphql_ast.specs.declared.type_reference.Type.{fold-roll-Type, roll-Type}
use Rattle.graphql_ast.specs.declared.type_reference.Type.TheOpen.{Type-F}
use Rattle.graphql_ast.specs.declared.type_reference.Type.TheViews.{roll-out-Type}
use Rattle.graphql_ast.specs.declared.value.Value.{Value, fold-roll-Value, roll-Value}
use Rattle.graphql_ast.specs.declared.value.Value.TheOpen.{Value-F}
use Rattle.graphql_round_trip.specs.Nesting.{arguments_nesting, between, deepest, directives_nesting}
use Rattle.graphql_round_trip.specs.Nesting.{field_level, greatest, inline_level, selection_level}
use Rattle.graphql_round_trip.specs.Nesting.{selection_nesting, selections_nesting, type_level, type_nesting}
use Rattle.graphql_round_trip.specs.Nesting.{value_level, value_nesting}
use Rattle.graphql_ast.specs.BareSelections as b
use Rattle.graphql_ast.specs.declared.selection.Selection as s

-- a level of a selection, of a field, and of an inline fragment, with the selections that stand inside
abbrev pub SelectionLevel : Type 0
SelectionLevel = Selection-F Selection Field InlineFragment

abbrev pub FieldLevel : Type 0
FieldLevel = Field-F Selection Field InlineFragment

abbrev pub InlineLevel : Type 0
InlineLevel = InlineFragment-F Selection Field InlineFragment

-- a selection of this level
abbrev pub selection_at : SelectionLevel → Selection
selection_at (Selection-F.Field n) = s.Field n
selection_at (Selection-F.FragmentSpread n) = s.FragmentSpread n
selection_at (Selection-F.InlineFragment n) = s.InlineFragment n

-- the level without locations
abbrev pub bare_level : SelectionLevel → SelectionLevel
bare_level (Selection-F.Field n) = Selection-F.Field (bare_node bare_field n)
bare_level (Selection-F.FragmentSpread n) = Selection-F.FragmentSpread (bare_node bare_fragment_spread n)
bare_level (Selection-F.InlineFragment n) = Selection-F.InlineFragment (bare_node bare_inline_fragment n)

-- a selection
pub selection_bare : (z : SelectionLevel) → bare_selection (selection_at z) ≡ selection_at (bare_level z)
unfolding roll-Selection denote.Hole.Carrier.roll
selection_bare (Selection-F.Field n) = fold-roll-Selection Selection Field InlineFragment b.selection_step
    b.field_step b.inline_step (Selection-F.Field n)
selection_bare z = fold-roll-Selection Selection Field InlineFragment b.selection_step b.field_step
    b.inline_step z

-- a field
pub field_bare : (x : FieldLevel) → bare_field (roll-Field x) ≡ roll-Field (record {
  alias = option_map bare_name x.alias;
  name = bare_name x.name;
  arguments = map (bare_node bare_argument) x.arguments;
  directives = bare_directive_list x.directives;
  selection_set = map bare_selection x.selection_set;
})
field_bare x = fold-roll-Field Selection Field InlineFragment b.selection_step b.field_step b.inline_step x

-- an inline fragment
pub inline_bare : (x : InlineLevel) → bare_inline_fragment (roll-InlineFragment x) ≡ roll-InlineFragment
    (record {
      type_condition = option_map bare_name x.type_condition;
      directives = bare_directive_list x.directives;
      selection_set = map bare_selection x.selection_set;
    })
inline_bare x = fold-roll-InlineFragment Selection Field InlineFragment b.selection_step b.field_step
    b.inline_step x

-- what holds of a selection of each sort, where it holds of those that stand inside, holds of each selection
module _ (P : Selection → Type 0) (F : Field → Type 0) (I : InlineFragment
    → Type 0) (of_field : (n : NodeView Field) → F n.value → P (roll-Selection (Selection-F.Field n)))
    (of_spread : (n : NodeView FragmentSpread) → P (roll-Selection (Selection-F.FragmentSpread n)))
    (of_inline : (n : NodeView InlineFragment) → I n.value
    → P (roll-Selection (Selection-F.InlineFragment n))) (field : (x : FieldLevel)
    → AllByRecursion P x.selection_set → F (roll-Field x)) (inline : (x : InlineLevel)
    → AllByRecursion P x.selection_set → I (roll-InlineFragment x)) where
  first : (y : Selection-F (Shown P) (Shown F) (Shown I))
      → P (roll-Selection (map-Selection (Shown P) (Shown F) (Shown I) Selection Field InlineFragment
      (λ e. e.0) (λ e. e.0) (λ e. e.0) y))
  first (Selection-F.Field n) = of_field (record { value = n.value.0; location = n.location }) n.value.1
  first (Selection-F.FragmentSpread n) = of_spread n
  first (Selection-F.InlineFragment n) = of_inline (record { value = n.value.0; location = n.location })
      n.value.1

  inside : (ys : List (Shown P)) → AllByRecursion P (map (λ (e : Shown P). e.0) ys)
  inside ys = each_given P (λ (e : Shown P). e.0) (λ y. y.1) ys

  pub of_selection : (x : Selection) → P x
  of_selection = ind-Selection P F I (λ x y is. subst (λ z. P (roll-Selection z)) is (first y))
      (λ x y is. subst (λ z. F (roll-Field z)) is (field (map-Field (Shown P) (Shown F) (Shown I) Selection
      Field InlineFragment (λ e. e.0) (λ e. e.0) (λ e. e.0) y)
      (inside y.selection_set))) (λ x y is. subst (λ z. I (roll-InlineFragment z)) is
      (inline (map-InlineFragment (Shown P) (Shown F) (Shown I) Selection Field InlineFragment (λ e. e.0)
      (λ e. e.0) (λ e. e.0) y) (inside y.selection_set)))

-- ---- how deep values, types and selections nest, from one level to the next

-- ---- values

-- an item of a list
abbrev pub item_nesting : NodeView Value → ℕ
item_nesting item = value_nesting item.value

-- a member of an object
abbrev pub member_nesting : NameView × NodeView Value → ℕ
member_nesting m = value_nesting m.1.value

-- a list nests one deeper than its items
pub list_nested : (items : List (NodeView Value))
    → value_nesting (roll-Value (Value-F.List items)) ≡ suc (deepest item_nesting items)
list_nested items = fold-roll-Value ℕ value_level _ ∙ ap (λ (ns : List ℕ). suc (greatest ns))
    (map-map _ _ items)

-- an object nests one deeper than its members
pub object_nested : (members : List (NameView × NodeView Value))
    → value_nesting (roll-Value (Value-F.Object members)) ≡ suc (deepest member_nesting members)
object_nested members = fold-roll-Value ℕ value_level _ ∙ ap (λ (ns : List ℕ). suc (greatest ns))
    (map-map _ _ members)

-- ---- references to types

-- the name of a type doesn't nest
pub named_nested : (n : NameView) → type_nesting (Named n) ≡ 0
unfolding roll-Type denote.Hole.Carrier.roll
named_nested n = fold-roll-Type ℕ type_level (Type-F.Named n)

-- a list type nests one deeper than the type of its items
pub list_type_nested : (t : TypeReference) → type_nesting (ListOf t) ≡ suc (type_nesting t)
unfolding roll-Type denote.Hole.Carrier.roll
list_type_nested t = fold-roll-Type ℕ type_level (Type-F.List t)

step_nested : (y : Type-F TypeReference) → type_nesting (non_null_step y) ≡ type_nesting (roll-Type y)
unfolding roll-Type denote.Hole.Carrier.roll
step_nested (Type-F.Named n) = fold-roll-Type ℕ type_level (Type-F.NonNullNamed n)
    ∙ sym (fold-roll-Type ℕ type_level (Type-F.Named n))
step_nested (Type-F.NonNullNamed n) = refl
step_nested (Type-F.List t) = fold-roll-Type ℕ type_level (Type-F.NonNullList t)
    ∙ sym (fold-roll-Type ℕ type_level (Type-F.List t))
step_nested (Type-F.NonNullList t) = refl

-- a type nests as deep without null
pub required_nested : (t : TypeReference) → type_nesting (made_non_null t) ≡ type_nesting t
required_nested t = step_nested _ ∙ ap type_nesting (roll-out-Type t)

-- ---- selections

-- a field
abbrev pub selected_nesting : Field → ℕ
selected_nesting = fold-Field ℕ ℕ ℕ selection_level field_level inline_level

-- an inline fragment
abbrev pub inline_nesting : InlineFragment → ℕ
inline_nesting = fold-InlineFragment ℕ ℕ ℕ selection_level field_level inline_level

-- a selection nests as deep as what its level says
pub selection_nested : (z : SelectionLevel)
    → selection_nesting (selection_at z) ≡ selection_level (map-Selection Selection Field InlineFragment ℕ ℕ ℕ
    selection_nesting selected_nesting inline_nesting z)
unfolding roll-Selection denote.Hole.Carrier.roll
selection_nested (Selection-F.Field n) = fold-roll-Selection ℕ ℕ ℕ selection_level field_level inline_level
    (Selection-F.Field n)
selection_nested z = fold-roll-Selection ℕ ℕ ℕ selection_level field_level inline_level z

-- selections in braces, of each of which it is known how deep it nests
set_nested : (xs : List Selection) → between (λ (n : ℕ). n) (map selection_nesting xs) ≡ selections_nesting xs
set_nested [] = refl
set_nested (x ∷ xs) = ap (λ (ns : List ℕ). suc (greatest ns)) (map-map (λ (n : ℕ). n) selection_nesting
    (x ∷ xs))

-- a field nests as deep as its arguments, its directives and its selections in their braces
pub field_nested : (x : Field-F Selection Field InlineFragment)
    → selected_nesting (roll-Field x) ≡ greatest (arguments_nesting x.arguments
    ∷ directives_nesting x.directives ∷ selections_nesting x.selection_set ∷ [])
field_nested x = fold-roll-Field ℕ ℕ ℕ selection_level field_level inline_level x
    ∙ ap (λ (n : ℕ). greatest (arguments_nesting x.arguments ∷ directives_nesting x.directives ∷ n ∷ []))
    (set_nested x.selection_set)

-- an inline fragment nests as deep as its directives and its selections in their braces
pub inline_nested : (x : InlineFragment-F Selection Field InlineFragment)
    → inline_nesting (roll-InlineFragment x) ≡ greatest (directives_nesting x.directives
    ∷ selections_nesting x.selection_set ∷ [])
inline_nested x = fold-roll-InlineFragment ℕ ℕ ℕ selection_level field_level inline_level x
    ∙ ap (λ (n : ℕ). greatest (directives_nesting x.directives ∷ n ∷ [])) (set_nested x.selection_set)
