-- Definitions and extensions of the type system, made of their fields, in order. GraphQL specification of
-- October 2021, sections 3.3, 3.5 to 3.10 and 3.13.
use Rattle.std.specs.Prelude.{Bool, List, [], Option}
use Rattle.graphql_nodes.specs.NameView.{NameView}
use Rattle.graphql_nodes.specs.NodeView.{NodeView}
use Rattle.graphql_nodes.specs.declared.directive_location.DirectiveLocation.{DirectiveLocation}
use Rattle.graphql_nodes.specs.declared.operation_type.OperationType.{OperationType}
use Rattle.graphql_ast.specs.declared.directive.DirectiveList.{DirectiveList}
use Rattle.graphql_ast.specs.declared.type_reference.Type.{«Type» as TypeReference}
use Rattle.graphql_ast.specs.declared.value.Value.{Value}
use Rattle.graphql_ast.specs.declared.type_system.FieldDefinition.{FieldDefinition}
use Rattle.graphql_ast.specs.declared.type_system.InputValueDefinition.{InputValueDefinition}
use Rattle.graphql_ast.specs.declared.type_system.EnumValueDefinition.{EnumValueDefinition}
use Rattle.graphql_ast.specs.declared.type_system.DirectiveDefinition.{DirectiveDefinition}
use Rattle.graphql_ast.specs.declared.type_system.SchemaDefinition.{SchemaDefinition}
use Rattle.graphql_ast.specs.declared.type_system.ScalarTypeDefinition.{ScalarTypeDefinition}
use Rattle.graphql_ast.specs.declared.type_system.ObjectTypeDefinition.{ObjectTypeDefinition}
use Rattle.graphql_ast.specs.declared.type_system.InterfaceTypeDefinition.{InterfaceTypeDefinition}
use Rattle.graphql_ast.specs.declared.type_system.UnionTypeDefinition.{UnionTypeDefinition}
use Rattle.graphql_ast.specs.declared.type_system.EnumTypeDefinition.{EnumTypeDefinition}
use Rattle.graphql_ast.specs.declared.type_system.InputObjectTypeDefinition.{InputObjectTypeDefinition}
use Rattle.graphql_ast.specs.declared.type_system.SchemaExtension.{SchemaExtension}
use Rattle.graphql_ast.specs.declared.type_system.ScalarTypeExtension.{ScalarTypeExtension}
use Rattle.graphql_ast.specs.declared.type_system.ObjectTypeExtension.{ObjectTypeExtension}
use Rattle.graphql_ast.specs.declared.type_system.InterfaceTypeExtension.{InterfaceTypeExtension}
use Rattle.graphql_ast.specs.declared.type_system.UnionTypeExtension.{UnionTypeExtension}
use Rattle.graphql_ast.specs.declared.type_system.EnumTypeExtension.{EnumTypeExtension}
use Rattle.graphql_ast.specs.declared.type_system.InputObjectTypeExtension.{InputObjectTypeExtension}

-- no directive
abbrev pub no_directives : DirectiveList
no_directives = record { 0 = [] }

-- the definition of a field
abbrev pub field_of : Option NameView → NameView → List (NodeView InputValueDefinition) → TypeReference
    → DirectiveList → FieldDefinition
field_of d n args t ds = record { description = d; name = n; arguments = args; ty = t; directives = ds }

-- the definition of an argument or input field
abbrev pub input_value_of : Option NameView → NameView → NodeView TypeReference → Option (NodeView Value)
    → DirectiveList → InputValueDefinition
input_value_of d n t v ds = record { description = d; name = n; ty = t; default_value = v; directives = ds }

-- the definition of an enum value
abbrev pub enum_value_of : Option NameView → NameView → DirectiveList → EnumValueDefinition
enum_value_of d n ds = record { description = d; value = n; directives = ds }

-- the definition of a directive
abbrev pub directive_definition_of : Option NameView → NameView → List (NodeView InputValueDefinition)
    → Bool → List DirectiveLocation → DirectiveDefinition
directive_definition_of d n args again ls =
    record { description = d; name = n; arguments = args; repeatable = again; locations = ls }

-- the definition of the schema
abbrev pub schema_of : Option NameView → DirectiveList → List (NodeView (OperationType × NameView))
    → SchemaDefinition
schema_of d ds rs = record { description = d; directives = ds; root_operations = rs }

-- the definition of a scalar type
abbrev pub scalar_type_of : Option NameView → NameView → DirectiveList → ScalarTypeDefinition
scalar_type_of d n ds = record { description = d; name = n; directives = ds }

-- the definition of an object type
abbrev pub object_type_of : Option NameView → NameView → List NameView → DirectiveList
    → List (NodeView FieldDefinition) → ObjectTypeDefinition
object_type_of d n is ds fs =
    record { description = d; name = n; implements_interfaces = is; directives = ds; fields = fs }

-- the definition of an interface type
abbrev pub interface_type_of : Option NameView → NameView → List NameView → DirectiveList
    → List (NodeView FieldDefinition) → InterfaceTypeDefinition
interface_type_of d n is ds fs =
    record { description = d; name = n; implements_interfaces = is; directives = ds; fields = fs }

-- the definition of a union type
abbrev pub union_type_of : Option NameView → NameView → DirectiveList → List NameView → UnionTypeDefinition
union_type_of d n ds ms = record { description = d; name = n; directives = ds; members = ms }

-- the definition of an enum type
abbrev pub enum_type_of : Option NameView → NameView → DirectiveList → List (NodeView EnumValueDefinition)
    → EnumTypeDefinition
enum_type_of d n ds vs = record { description = d; name = n; directives = ds; values = vs }

-- the definition of an input object type
abbrev pub input_object_type_of : Option NameView → NameView → DirectiveList
    → List (NodeView InputValueDefinition) → InputObjectTypeDefinition
input_object_type_of d n ds fs = record { description = d; name = n; directives = ds; fields = fs }

-- an extension of the schema
abbrev pub schema_extension_of : DirectiveList → List (NodeView (OperationType × NameView))
    → SchemaExtension
schema_extension_of ds rs = record { directives = ds; root_operations = rs }

-- an extension of a scalar type
abbrev pub scalar_extension_of : NameView → DirectiveList → ScalarTypeExtension
scalar_extension_of n ds = record { name = n; directives = ds }

-- an extension of an object type
abbrev pub object_extension_of : NameView → List NameView → DirectiveList → List (NodeView FieldDefinition)
    → ObjectTypeExtension
object_extension_of n is ds fs =
    record { name = n; implements_interfaces = is; directives = ds; fields = fs }

-- an extension of an interface type
abbrev pub interface_extension_of : NameView → List NameView → DirectiveList
    → List (NodeView FieldDefinition) → InterfaceTypeExtension
interface_extension_of n is ds fs =
    record { name = n; implements_interfaces = is; directives = ds; fields = fs }

-- an extension of a union type
abbrev pub union_extension_of : NameView → DirectiveList → List NameView → UnionTypeExtension
union_extension_of n ds ms = record { name = n; directives = ds; members = ms }

-- an extension of an enum type
abbrev pub enum_extension_of : NameView → DirectiveList → List (NodeView EnumValueDefinition)
    → EnumTypeExtension
enum_extension_of n ds vs = record { name = n; directives = ds; values = vs }

-- an extension of an input object type
abbrev pub input_object_extension_of : NameView → DirectiveList → List (NodeView InputValueDefinition)
    → InputObjectTypeExtension
input_object_extension_of n ds fs = record { name = n; directives = ds; fields = fs }
