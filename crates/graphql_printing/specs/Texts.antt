-- The text of values, types, arguments and directives: GraphQL specification of October 2021, sections 2.6,
-- 2.9, 2.11 and 2.12.
use Rattle.std.specs.Prelude.{ℕ, List, ◌++◌, if◌then◌else◌, codes}
use Rattle.graphql_nodes.specs.NameView.{NameView}
use Rattle.graphql_nodes.specs.NodeView.{NodeView}
use Rattle.graphql_ast.specs.declared.value.Value.{Value, fold-Value}
use Rattle.graphql_ast.specs.declared.value.Value.TheOpen.{Value-F}
use Rattle.graphql_ast.specs.declared.type_reference.Type.{«Type» as TypeReference, fold-Type}
use Rattle.graphql_ast.specs.declared.type_reference.Type.TheOpen.{Type-F}
use Rattle.graphql_ast.specs.declared.directive.Argument.{Argument}
use Rattle.graphql_ast.specs.declared.directive.Directive.{Directive}
use Rattle.graphql_printing.specs.Layout.{each_behind, enclosed, separated}
use Rattle.graphql_printing.specs.Strings.{quoted}

-- a type at one level, where what is inside a list has given its own text
abbrev pub type_step : Type-F (List ℕ) → List ℕ
type_step (Type-F.Named name) = name.text
type_step (Type-F.NonNullNamed name) = name.text ++ codes "!"
type_step (Type-F.List inner) = codes "[" ++ inner ++ codes "]"
type_step (Type-F.NonNullList inner) = codes "[" ++ inner ++ codes "]!"

-- a type, as `[[Int!]]!`: section 2.11
abbrev pub type_text : TypeReference → List ℕ
type_text = fold-Type (List ℕ) type_step

-- a name, and what stands between it and its value
abbrev pub label_text : NameView → List ℕ
label_text name = name.text ++ codes ": "

-- a member of an object, where its value has given its own text
abbrev pub member_step : NameView × NodeView (List ℕ) → List ℕ
member_step member = label_text member.0 ++ member.1.value

-- a value at one level, where what is inside a list or an object has given its own text
abbrev pub value_step : Value-F (List ℕ) → List ℕ
value_step Value-F.Null = codes "null"
value_step (Value-F.Enum name) = name.text
value_step (Value-F.Variable name) = codes "$" ++ name.text
value_step (Value-F.String text) = quoted text
value_step (Value-F.Float text) = text
value_step (Value-F.Int text) = text
value_step (Value-F.Boolean is) = if is then codes "true" else codes "false"
value_step (Value-F.List items) =
    codes "[" ++ separated (codes ", ") (λ (item : NodeView (List ℕ)). item.value) items ++ codes "]"
value_step (Value-F.Object members) = codes "{" ++ separated (codes ", ") member_step members ++ codes "}"

-- a value, as `[1, {a: "b"}]`: section 2.9
abbrev pub value_text : Value → List ℕ
value_text = fold-Value (List ℕ) value_step

-- a value in a list
abbrev pub item_text : NodeView Value → List ℕ
item_text item = value_text item.value

-- a member of an object, as `a: 1`
abbrev pub member_text : NameView × NodeView Value → List ℕ
member_text member = label_text member.0 ++ value_text member.1.value

-- an argument, as `a: 1`: section 2.6
abbrev pub argument_text : NodeView Argument → List ℕ
argument_text argument = label_text argument.value.name ++ value_text argument.value.value.value

-- arguments in one line, as `(a: 1, b: 2)`, or nothing where there is none
abbrev pub arguments_text : List (NodeView Argument) → List ℕ
arguments_text arguments = enclosed (codes "(") (codes ", ") (codes ")") argument_text arguments

-- a directive, as `@a(b: 1)`: section 2.12
abbrev pub directive_text : NodeView Directive → List ℕ
directive_text directive = codes "@" ++ directive.value.name.text ++ arguments_text directive.value.arguments

-- directives, each behind a blank
abbrev pub directives_text : List (NodeView Directive) → List ℕ
directives_text directives = each_behind (codes " ") directive_text directives
