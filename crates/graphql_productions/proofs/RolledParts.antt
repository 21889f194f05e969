-- The parts of values, types and selections, from one level to the next.
use Rattle.std.proofs.Common.{◌≡◌, ℕ, Bool, true, false, List, [], ◌∷◌, ◌++◌, Option, refl, sym, ap, ◌∙◌, map}
use Rattle.std.specs.List.{flat_map}
use Rattle.std.proofs.lemmas.List.Folds.{flat_map-map}
use Rattle.graphql_nodes.specs.NameView.{NameView}
use Rattle.graphql_nodes.specs.NodeView.{NodeView}
use Rattle.graphql_ast.specs.TypeReferences.{made_non_null, non_null_step}
use Rattle.graphql_ast.specs.declared.directive.Argument.{Argument}
use Rattle.graphql_ast.specs.declared.directive.DirectiveList.{DirectiveList}
use Rattle.graphql_ast.specs.declared.selection.Field.{Field, roll-Field}
use Rattle.graphql_ast.specs.declared.selection.FragmentSpread.{FragmentSpread}
use Rattle.graphql_ast.specs.declared.selection.InlineFragment.{InlineFragment, roll-InlineFragment}
use Rattle.graphql_ast.specs.declared.selection.Selection as s
use Rattle.graphql_ast.specs.declared.selection.Selection.{Selection, fold-roll-Selection, roll-Selection}
use Rattle.graphql_ast.specs.declared.selection.Selection.TheFolds.{fold-Field, fold-InlineFragment}
use Rattle.graphql_ast.specs.declared.selection.Selection.TheFolds.{fold-roll-Field, fold-roll-InlineFragment}
use Rattle.graphql_ast.specs.declared.selection.Selection.TheOpen.{Selection-F}
use Rattle.graphql_ast.specs.declared.type_reference.Type.{«Type» as TypeReference, Named, «List» as ListOf}
use Rattle.graphql_ast.specs.declared.type_reference.Type.{fold-roll-Type, out-Type, roll-Type}
use Rattle.graphql_ast.specs.declared.type_reference.Type.TheOpen.{Type-F}
use Rattle.graphql_ast.specs.declared.type_reference.Type.TheViews.{roll-out-Type}
use Rattle.graphql_ast.specs.declared.value.Value.{Value, fold-roll-Value, roll-Value}
use Rattle.graphql_ast.specs.declared.value.Value.TheOpen.{Value-F}
use Rattle.graphql_productions.specs.SelectionParts.{Listed, field_step, inline_step, selection_parts}
use Rattle.graphql_productions.specs.SelectionParts.{selection_step, spread_parts}
use Rattle.graphql_productions.specs.TreeParts.{EnumName, Float, Int, Name, TreePart, Variable, Wanted}
use Rattle.graphql_productions.specs.TreeParts.{arguments_parts, directives_parts, name_parts, node_parts}
use Rattle.graphql_productions.specs.TreeParts.{option_parts, type_parts, type_step, value_parts, value_step}
use Rattle.graphql_productions.specs.TreeParts.{wanted_parts}

-- ---- values

module _ (constant : Bool) where
  pub enum_rolled : (n : NameView) → value_parts constant (roll-Value (Value-F.Enum n)) ≡ EnumName n ∷ []
  unfolding value_parts
  enum_rolled n = fold-roll-Value (List TreePart) (value_step constant) (Value-F.Enum n)

  pub variable_rolled : (n : NameView)
      → value_parts constant (roll-Value (Value-F.Variable n)) ≡ Variable constant n ∷ []
  unfolding value_parts
  variable_rolled n = fold-roll-Value (List TreePart) (value_step constant) (Value-F.Variable n)

  pub string_rolled : (t : List ℕ) → value_parts constant (roll-Value (Value-F.String t)) ≡ []
  unfolding value_parts
  string_rolled t = fold-roll-Value (List TreePart) (value_step constant) (Value-F.String t)

  pub int_rolled : (t : List ℕ) → value_parts constant (roll-Value (Value-F.Int t)) ≡ Int t ∷ []
  unfolding value_parts
  int_rolled t = fold-roll-Value (List TreePart) (value_step constant) (Value-F.Int t)

  pub float_rolled : (t : List ℕ) → value_parts constant (roll-Value (Value-F.Float t)) ≡ Float t ∷ []
  unfolding value_parts
  float_rolled t = fold-roll-Value (List TreePart) (value_step constant) (Value-F.Float t)

  pub boolean_rolled : (b : Bool) → value_parts constant (roll-Value (Value-F.Boolean b)) ≡ []
  unfolding value_parts
  boolean_rolled b = fold-roll-Value (List TreePart) (value_step constant) (Value-F.Boolean b)

  pub null_rolled : value_parts constant (roll-Value Value-F.Null) ≡ []
  unfolding value_parts
  null_rolled = fold-roll-Value (List TreePart) (value_step constant) Value-F.Null

  pub list_rolled : (items : List (NodeView Value))
      → value_parts constant (roll-Value (Value-F.List items)) ≡ flat_map (node_parts (value_parts constant))
      items
  unfolding value_parts
  list_rolled items = fold-roll-Value (List TreePart) (value_step constant) (Value-F.List items)
      ∙ flat_map-map (node_parts (λ parts. parts)) (λ (n : NodeView Value).
      record { value = value_parts constant n.value; location = n.location }) items

  -- a member of an object
  abbrev pub member_parts : NameView × NodeView Value → List TreePart
  member_parts m = Name m.0 ∷ node_parts (value_parts constant) m.1

  pub object_rolled : (members : List (NameView × NodeView Value))
      → value_parts constant (roll-Value (Value-F.Object members)) ≡ flat_map member_parts members
  unfolding value_parts
  object_rolled members = fold-roll-Value (List TreePart) (value_step constant) (Value-F.Object members)
      ∙ flat_map-map (λ (m : NameView × NodeView (List TreePart)). Name m.0 ∷ node_parts (λ parts. parts) m.1)
      (λ (m : NameView × NodeView Value).
      (m.0, record { value = value_parts constant m.1.value; location = m.1.location })) members

-- ---- types

pub named_rolled : (n : NameView) → type_parts (Named n) ≡ name_parts n
unfolding type_parts roll-Type denote.Hole.Carrier.roll
named_rolled n = fold-roll-Type (List TreePart) type_step (Type-F.Named n)

pub list_type_rolled : (t : TypeReference) → type_parts (ListOf t) ≡ type_parts t
unfolding type_parts roll-Type denote.Hole.Carrier.roll
list_type_rolled t = fold-roll-Type (List TreePart) type_step (Type-F.List t)

step_rolled : (y : Type-F TypeReference) → type_parts (non_null_step y) ≡ type_parts (roll-Type y)
unfolding type_parts roll-Type denote.Hole.Carrier.roll
step_rolled (Type-F.Named n) = fold-roll-Type (List TreePart) type_step (Type-F.NonNullNamed n)
    ∙ sym (fold-roll-Type (List TreePart) type_step (Type-F.Named n))
step_rolled (Type-F.NonNullNamed n) = refl
step_rolled (Type-F.List t) = fold-roll-Type (List TreePart) type_step (Type-F.NonNullList t)
    ∙ sym (fold-roll-Type (List TreePart) type_step (Type-F.List t))
step_rolled (Type-F.NonNullList t) = refl

pub required_rolled : (t : TypeReference) → type_parts (made_non_null t) ≡ type_parts t
required_rolled t = step_rolled (out-Type t) ∙ ap type_parts (roll-out-Type t)

-- ---- selections

unfoldable pub selected_parts : Field → List TreePart
selected_parts = fold-Field Listed Listed Listed selection_step field_step inline_step

unfoldable pub inline_parts : InlineFragment → List TreePart
inline_parts = fold-InlineFragment Listed Listed Listed selection_step field_step inline_step

pub field_selection_rolled : (n : NodeView Field) → selection_parts (s.Field n) ≡ node_parts selected_parts n
unfolding selection_parts selected_parts roll-Selection denote.Hole.Carrier.roll
field_selection_rolled n = fold-roll-Selection Listed Listed Listed selection_step field_step inline_step
    (Selection-F.Field n)

pub spread_rolled : (n : NodeView FragmentSpread)
    → selection_parts (s.FragmentSpread n) ≡ node_parts spread_parts n
unfolding selection_parts roll-Selection denote.Hole.Carrier.roll
spread_rolled n = fold-roll-Selection Listed Listed Listed selection_step field_step inline_step
    (Selection-F.FragmentSpread n)

pub inline_selection_rolled : (n : NodeView InlineFragment)
    → selection_parts (s.InlineFragment n) ≡ node_parts inline_parts n
unfolding selection_parts inline_parts roll-Selection denote.Hole.Carrier.roll
inline_selection_rolled n = fold-roll-Selection Listed Listed Listed selection_step field_step inline_step
    (Selection-F.InlineFragment n)

selections_rolled : (xs : List Selection)
    → flat_map (λ (parts : List TreePart). parts) (map selection_parts xs) ≡ flat_map selection_parts xs
selections_rolled xs = flat_map-map (λ (parts : List TreePart). parts) selection_parts xs

some_rolled : (xs : List Selection)
    → wanted_parts (λ (parts : List TreePart). parts) (map selection_parts xs) ≡ wanted_parts selection_parts
    xs
some_rolled [] = refl
some_rolled (x ∷ xs) = ap (λ (parts : List TreePart). Wanted true ∷ parts) (selections_rolled (x ∷ xs))

pub field_rolled : (arguments : List (NodeView Argument)) (directives : DirectiveList)
    (selections : List Selection) (alias : Option NameView) (name : NameView) → selected_parts (roll-Field
    (record {
      alias = alias;
      name = name;
      arguments = arguments;
      directives = directives;
      selection_set = selections;
    })) ≡ option_parts name_parts alias ++ (Name name ∷ (arguments_parts false arguments
    ++ (directives_parts false directives ++ flat_map selection_parts selections)))
unfolding selected_parts selection_parts
field_rolled arguments directives selections alias name = fold-roll-Field Listed Listed Listed selection_step
    field_step inline_step (record {
      alias = alias;
      name = name;
      arguments = arguments;
      directives = directives;
      selection_set = selections;
    }) ∙ ap (λ (parts : List TreePart). option_parts name_parts alias
    ++ (Name name ∷ (arguments_parts false arguments ++ (directives_parts false directives ++ parts))))
    (selections_rolled selections)

pub inline_rolled : (directives : DirectiveList) (selections : List Selection) (condition : Option NameView)
    → inline_parts (roll-InlineFragment
    (record { type_condition = condition; directives = directives; selection_set = selections }))
    ≡ option_parts name_parts condition ++ (directives_parts false directives ++ wanted_parts selection_parts
    selections)
unfolding inline_parts selection_parts
inline_rolled directives selections condition = fold-roll-InlineFragment Listed Listed Listed selection_step
    field_step inline_step
    (record { type_condition = condition; directives = directives; selection_set = selections })
    ∙ ap (λ (parts : List TreePart). option_parts name_parts condition ++ (directives_parts false directives
    ++ parts)) (some_rolled selections)
