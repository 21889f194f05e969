-- Definitions and extensions of the type system without their locations. GraphQL specification of October
-- 2021, sections 3.3, 3.5 to 3.10 and 3.13.
use Rattle.std.specs.Prelude.{List, Option, map, option_map}
use Rattle.graphql_nodes.specs.NameView.{NameView}
use Rattle.graphql_nodes.specs.NodeView.{NodeView}
use Rattle.graphql_nodes.specs.Comparing.{bare_name, bare_node}
use Rattle.graphql_ast.specs.Bare.{bare_value, bare_type, bare_directive_list}
use Rattle.graphql_ast.specs.TypeSystem.{directive_definition_of, enum_extension_of, enum_type_of}
use Rattle.graphql_ast.specs.TypeSystem.{enum_value_of, field_of, input_object_extension_of}
use Rattle.graphql_ast.specs.TypeSystem.{input_object_type_of, input_value_of, interface_extension_of}
use Rattle.graphql_ast.specs.TypeSystem.{interface_type_of, object_extension_of, object_type_of}
use Rattle.graphql_ast.specs.TypeSystem.{scalar_extension_of, scalar_type_of, schema_extension_of, schema_of}
use Rattle.graphql_ast.specs.TypeSystem.{union_extension_of, union_type_of}
use Rattle.graphql_nodes.specs.declared.operation_type.OperationType.{OperationType}
use Rattle.graphql_ast.specs.declared.type_system.FieldDefinition.{FieldDefinition}
use Rattle.graphql_ast.specs.declared.type_system.InputValueDefinition.{InputValueDefinition}
use Rattle.graphql_ast.specs.declared.type_system.EnumValueDefinition.{EnumValueDefinition}
use Rattle.graphql_ast.specs.declared.type_system.DirectiveDefinition.{DirectiveDefinition}
use Rattle.graphql_ast.specs.declared.type_system.SchemaDefinition.{SchemaDefinition}
use Rattle.graphql_ast.specs.declared.type_system.ScalarTypeDefinition.{ScalarTypeDefinition}
use Rattle.graphql_ast.specs.declared.type_system.ObjectTypeDefinition.{ObjectTypeDefinition}
use Rattle.graphql_ast.specs.declared.type_system.InterfaceTypeDefinition.{InterfaceTypeDefinition}
use Rattle.graphql_ast.specs.declared.type_system.UnionTypeDefinition.{UnionTypeDefinition}
use Rattle.graphql_ast.specs.declared.type_system.EnumTypeDefinition.{EnumTypeDefinition}
use Rattle.graphql_ast.specs.declared.type_system.InputObjectTypeDefinition.{InputObjectTypeDefinition}
use Rattle.graphql_ast.specs.declared.type_system.SchemaExtension.{SchemaExtension}
use Rattle.graphql_ast.specs.declared.type_system.ScalarTypeExtension.{ScalarTypeExtension}
use Rattle.graphql_ast.specs.declared.type_system.ObjectTypeExtension.{ObjectTypeExtension}
use Rattle.graphql_ast.specs.declared.type_system.InterfaceTypeExtension.{InterfaceTypeExtension}
use Rattle.graphql_ast.specs.declared.type_system.UnionTypeExtension.{UnionTypeExtension}
use Rattle.graphql_ast.specs.declared.type_system.EnumTypeExtension.{EnumTypeExtension}
use Rattle.graphql_ast.specs.declared.type_system.InputObjectTypeExtension.{InputObjectTypeExtension}

-- a description without its location
abbrev pub bare_description : Option NameView → Option NameView
bare_description = option_map bare_name

-- the definition of an argument or input field without locations
abbrev pub bare_input_value_definition : InputValueDefinition → InputValueDefinition
bare_input_value_definition d =
    input_value_of (bare_description d.description) (bare_name d.name) (bare_node bare_type d.ty)
    (option_map (bare_node bare_value) d.default_value) (bare_directive_list d.directives)

-- the definitions of arguments or input fields, in order, without locations
abbrev pub bare_input_values : List (NodeView InputValueDefinition) → List (NodeView InputValueDefinition)
bare_input_values = map (bare_node bare_input_value_definition)

-- the definition of a field without locations
abbrev pub bare_field_definition : FieldDefinition → FieldDefinition
bare_field_definition d =
    field_of (bare_description d.description) (bare_name d.name) (bare_input_values d.arguments)
    (bare_type d.ty) (bare_directive_list d.directives)

-- the definitions of fields, in order, without locations
abbrev pub bare_fields : List (NodeView FieldDefinition) → List (NodeView FieldDefinition)
bare_fields = map (bare_node bare_field_definition)

-- the definition of an enum value without locations
abbrev pub bare_enum_value_definition : EnumValueDefinition → EnumValueDefinition
bare_enum_value_definition d =
    enum_value_of (bare_description d.description) (bare_name d.value) (bare_directive_list d.directives)

-- a directive definition without locations in files; its directive locations stay
abbrev pub bare_directive_definition : DirectiveDefinition → DirectiveDefinition
bare_directive_definition d =
    directive_definition_of (bare_description d.description) (bare_name d.name)
    (bare_input_values d.arguments) d.repeatable d.locations

-- a root, the operation type and the name of its type, without locations
abbrev pub bare_root_operation : OperationType × NameView → OperationType × NameView
bare_root_operation r = (r.0, bare_name r.1)

-- a schema definition without locations
abbrev pub bare_schema_definition : SchemaDefinition → SchemaDefinition
bare_schema_definition d =
    schema_of (bare_description d.description) (bare_directive_list d.directives)
    (map (bare_node bare_root_operation) d.root_operations)

-- a scalar type definition without locations
abbrev pub bare_scalar_type_definition : ScalarTypeDefinition → ScalarTypeDefinition
bare_scalar_type_definition d =
    scalar_type_of (bare_description d.description) (bare_name d.name) (bare_directive_list d.directives)

-- an object type definition without locations
abbrev pub bare_object_type_definition : ObjectTypeDefinition → ObjectTypeDefinition
bare_object_type_definition d =
    object_type_of (bare_description d.description) (bare_name d.name) (map bare_name d.implements_interfaces)
    (bare_directive_list d.directives) (bare_fields d.fields)

-- an interface type definition without locations
abbrev pub bare_interface_type_definition : InterfaceTypeDefinition → InterfaceTypeDefinition
bare_interface_type_definition d =
    interface_type_of (bare_description d.description) (bare_name d.name)
    (map bare_name d.implements_interfaces) (bare_directive_list d.directives) (bare_fields d.fields)

-- a union type definition without locations
abbrev pub bare_union_type_definition : UnionTypeDefinition → UnionTypeDefinition
bare_union_type_definition d =
    union_type_of (bare_description d.description) (bare_name d.name) (bare_directive_list d.directives)
    (map bare_name d.members)

-- an enum type definition without locations
abbrev pub bare_enum_type_definition : EnumTypeDefinition → EnumTypeDefinition
bare_enum_type_definition d =
    enum_type_of (bare_description d.description) (bare_name d.name) (bare_directive_list d.directives)
    (map (bare_node bare_enum_value_definition) d.values)

-- an input object type definition without locations
abbrev pub bare_input_object_type_definition : InputObjectTypeDefinition → InputObjectTypeDefinition
bare_input_object_type_definition d =
    input_object_type_of (bare_description d.description) (bare_name d.name)
    (bare_directive_list d.directives) (bare_input_values d.fields)

-- a schema extension without locations
abbrev pub bare_schema_extension : SchemaExtension → SchemaExtension
bare_schema_extension d =
    schema_extension_of (bare_directive_list d.directives)
    (map (bare_node bare_root_operation) d.root_operations)

-- a scalar type extension without locations
abbrev pub bare_scalar_type_extension : ScalarTypeExtension → ScalarTypeExtension
bare_scalar_type_extension d = scalar_extension_of (bare_name d.name) (bare_directive_list d.directives)

-- an object type extension without locations
abbrev pub bare_object_type_extension : ObjectTypeExtension → ObjectTypeExtension
bare_object_type_extension d =
    object_extension_of (bare_name d.name) (map bare_name d.implements_interfaces)
    (bare_directive_list d.directives) (bare_fields d.fields)

-- an interface type extension without locations
abbrev pub bare_interface_type_extension : InterfaceTypeExtension → InterfaceTypeExtension
bare_interface_type_extension d =
    interface_extension_of (bare_name d.name) (map bare_name d.implements_interfaces)
    (bare_directive_list d.directives) (bare_fields d.fields)

-- a union type extension without locations
abbrev pub bare_union_type_extension : UnionTypeExtension → UnionTypeExtension
bare_union_type_extension d =
    union_extension_of (bare_name d.name) (bare_directive_list d.directives) (map bare_name d.members)

-- an enum type extension without locations
abbrev pub bare_enum_type_extension : EnumTypeExtension → EnumTypeExtension
bare_enum_type_extension d =
    enum_extension_of (bare_name d.name) (bare_directive_list d.directives)
    (map (bare_node bare_enum_value_definition) d.values)

-- an input object type extension without locations
abbrev pub bare_input_object_type_extension : InputObjectTypeExtension → InputObjectTypeExtension
bare_input_object_type_extension d =
    input_object_extension_of (bare_name d.name) (bare_directive_list d.directives)
    (bare_input_values d.fields)
