-- The parts of a tree of which something may be asked: values, arguments, directives and types. GraphQL
-- specification of October 2021, sections 2.6, 2.9, 2.11 and 2.12.
use Rattle.std.specs.Prelude.{ℕ, Bool, not, List, [], ◌∷◌, Option, None, Some}
use Rattle.std.specs.List.{flat_map}
use Rattle.graphql_nodes.specs.declared.source.SourceSpan.{SourceSpan}
use Rattle.graphql_nodes.specs.NameView.{NameView}
use Rattle.graphql_nodes.specs.NodeView.{NodeView}
use Rattle.graphql_ast.specs.declared.directive.Argument.{Argument}
use Rattle.graphql_ast.specs.declared.directive.Directive.{Directive}
use Rattle.graphql_ast.specs.declared.directive.DirectiveList.{DirectiveList}
use Rattle.graphql_ast.specs.declared.type_reference.Type.{«Type» as TypeReference, fold-Type}
use Rattle.graphql_ast.specs.declared.type_reference.Type.TheOpen.{Type-F}
use Rattle.graphql_ast.specs.declared.value.Value.{Value, fold-Value}
use Rattle.graphql_ast.specs.declared.value.Value.TheOpen.{Value-F}
use Rattle.graphql_productions.specs.TypeSystem.{is_none}

-- a part of a tree
pub data TreePart : Type 0 where
  -- where a node stands
  Node : Option SourceSpan → TreePart
  -- a name that may be any
  Name : NameView → TreePart
  -- the name of a fragment
  FragmentName : NameView → TreePart
  -- the name of an enum value
  EnumName : NameView → TreePart
  -- the name of a variable, and whether the value that it stands in is constant
  Variable : Bool → NameView → TreePart
  -- a description
  Description : NameView → TreePart
  -- the text of an integer
  Int : List ℕ → TreePart
  -- the text of a number with a fraction or an exponent
  Float : List ℕ → TreePart
  -- whether something is there of which the grammar wants one at least
  Wanted : Bool → TreePart

-- a name as a part
abbrev pub name_parts : NameView → List TreePart
name_parts n = Name n ∷ []

-- a node: where it stands, and the parts of its value
abbrev pub node_parts : {A : Type 0} → (A → List TreePart) → NodeView A → List TreePart
node_parts parts n = Node n.location ∷ parts n.value

-- what may be left out
abbrev pub option_parts : {A : Type 0} → (A → List TreePart) → Option A → List TreePart
option_parts parts None = []
option_parts parts (Some x) = parts x

-- a list that has one item at least
abbrev pub wanted_parts : {A : Type 0} → (A → List TreePart) → List A → List TreePart
wanted_parts parts xs = Wanted (not (is_none xs)) ∷ flat_map parts xs

-- one level of a value, of which the parts inside are given: section 2.9
abbrev pub value_step : Bool → Value-F (List TreePart) → List TreePart
value_step constant Value-F.Null = []
value_step constant (Value-F.Enum n) = EnumName n ∷ []
value_step constant (Value-F.Variable n) = Variable constant n ∷ []
value_step constant (Value-F.String t) = []
value_step constant (Value-F.Float t) = Float t ∷ []
value_step constant (Value-F.Int t) = Int t ∷ []
value_step constant (Value-F.Boolean b) = []
value_step constant (Value-F.List items) = flat_map (node_parts (λ parts. parts)) items
value_step constant (Value-F.Object members) =
    flat_map (λ m. Name m.0 ∷ node_parts (λ parts. parts) m.1) members

-- a value, constant or not
unfoldable pub value_parts : Bool → Value → List TreePart
value_parts constant = fold-Value (List TreePart) (value_step constant)

-- one level of a type reference, of which the parts inside are given: section 2.11
abbrev pub type_step : Type-F (List TreePart) → List TreePart
type_step (Type-F.Named n) = name_parts n
type_step (Type-F.NonNullNamed n) = name_parts n
type_step (Type-F.List parts) = parts
type_step (Type-F.NonNullList parts) = parts

-- a type reference
unfoldable pub type_parts : TypeReference → List TreePart
type_parts = fold-Type (List TreePart) type_step

-- an argument, whose value is constant or not: section 2.6
abbrev pub argument_parts : Bool → Argument → List TreePart
argument_parts constant a = Name a.name ∷ node_parts (value_parts constant) a.value

-- arguments, in order
abbrev pub arguments_parts : Bool → List (NodeView Argument) → List TreePart
arguments_parts constant arguments = flat_map (node_parts (argument_parts constant)) arguments

-- a directive, whose arguments are constant or not: section 2.12
abbrev pub directive_parts : Bool → Directive → List TreePart
directive_parts constant d = Name d.name ∷ arguments_parts constant d.arguments

-- directives, in order
abbrev pub directives_parts : Bool → DirectiveList → List TreePart
directives_parts constant l = flat_map (node_parts (directive_parts constant)) l.0
