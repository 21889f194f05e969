-- Parts of the syntax tree without their locations. Trees that differ in locations alone have one bare tree.
-- GraphQL specification of October 2021, sections 2.6, 2.9, 2.11 and 2.12.
use Rattle.std.specs.Prelude.{map}
use Rattle.graphql_nodes.specs.Comparing.{bare_name, bare_node}
use Rattle.graphql_ast.specs.declared.value.Value.{Value, fold-Value, roll-Value}
use Rattle.graphql_ast.specs.declared.value.Value.TheOpen.{Value-F}
use Rattle.graphql_ast.specs.declared.type_reference.Type.{«Type» as TypeReference, fold-Type, roll-Type}
use Rattle.graphql_ast.specs.declared.type_reference.Type.TheOpen.{Type-F}
use Rattle.graphql_ast.specs.declared.directive.Argument.{Argument}
use Rattle.graphql_ast.specs.declared.directive.Directive.{Directive}
use Rattle.graphql_ast.specs.declared.directive.DirectiveList.{DirectiveList}

-- one level of a value, where each value inside is bare
abbrev pub value_step : Value-F Value → Value
value_step Value-F.Null = roll-Value Value-F.Null
value_step (Value-F.Enum n) = roll-Value (Value-F.Enum (bare_name n))
value_step (Value-F.Variable n) = roll-Value (Value-F.Variable (bare_name n))
value_step (Value-F.String t) = roll-Value (Value-F.String t)
value_step (Value-F.Float t) = roll-Value (Value-F.Float t)
value_step (Value-F.Int t) = roll-Value (Value-F.Int t)
value_step (Value-F.Boolean b) = roll-Value (Value-F.Boolean b)
value_step (Value-F.List items) = roll-Value (Value-F.List (map (bare_node (λ v. v)) items))
value_step (Value-F.Object members) =
    roll-Value (Value-F.Object (map (λ m. (bare_name m.0, bare_node (λ v. v) m.1)) members))

-- a value without locations
abbrev pub bare_value : Value → Value
bare_value = fold-Value Value value_step

-- one level of a type reference, where what is inside a list is bare
abbrev pub type_step : Type-F TypeReference → TypeReference
type_step (Type-F.Named n) = roll-Type (Type-F.Named (bare_name n))
type_step (Type-F.NonNullNamed n) = roll-Type (Type-F.NonNullNamed (bare_name n))
type_step (Type-F.List t) = roll-Type (Type-F.List t)
type_step (Type-F.NonNullList t) = roll-Type (Type-F.NonNullList t)

-- a type reference without locations
abbrev pub bare_type : TypeReference → TypeReference
bare_type = fold-Type TypeReference type_step

-- an argument without locations
abbrev pub bare_argument : Argument → Argument
bare_argument a = record { name = bare_name a.name; value = bare_node bare_value a.value }

-- an applied directive without locations
abbrev pub bare_directive : Directive → Directive
bare_directive d = record { name = bare_name d.name; arguments = map (bare_node bare_argument) d.arguments }

-- applied directives, in order, without locations
abbrev pub bare_directive_list : DirectiveList → DirectiveList
bare_directive_list l = record { 0 = map (bare_node bare_directive) l.0 }
