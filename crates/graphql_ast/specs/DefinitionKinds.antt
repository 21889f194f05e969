-- A definition as one of each kind, what its kind is in, and its directives: GraphQL specification of October
-- 2021, sections 2.2 and 3.
use Rattle.std.specs.Prelude.{Bool, true, false, Option, None, Some}
use Rattle.graphql_nodes.specs.NodeView.{NodeView}
use Rattle.graphql_ast.specs.Declarations.{Declaration, OfType, OfSchema, OfDirective, OfOperation}
use Rattle.graphql_ast.specs.Declarations.{OfFragment, declaration_of}
use Rattle.graphql_ast.specs.Parts.{directive_list}
use Rattle.graphql_ast.specs.declared.definition.Definition.{Definition}
use Rattle.graphql_ast.specs.declared.definition.Definition.TheVariants as d
use Rattle.graphql_ast.specs.declared.directive.DirectiveList.{DirectiveList}
use Rattle.graphql_ast.specs.declared.operation.FragmentDefinition.{FragmentDefinition}
use Rattle.graphql_ast.specs.declared.operation.OperationDefinition.{OperationDefinition}
use Rattle.graphql_ast.specs.declared.type_system.DirectiveDefinition.{DirectiveDefinition}
use Rattle.graphql_ast.specs.declared.type_system.EnumTypeDefinition.{EnumTypeDefinition}
use Rattle.graphql_ast.specs.declared.type_system.EnumTypeExtension.{EnumTypeExtension}
use Rattle.graphql_ast.specs.declared.type_system.InputObjectTypeDefinition.{InputObjectTypeDefinition}
use Rattle.graphql_ast.specs.declared.type_system.InputObjectTypeExtension.{InputObjectTypeExtension}
use Rattle.graphql_ast.specs.declared.type_system.InterfaceTypeDefinition.{InterfaceTypeDefinition}
use Rattle.graphql_ast.specs.declared.type_system.InterfaceTypeExtension.{InterfaceTypeExtension}
use Rattle.graphql_ast.specs.declared.type_system.ObjectTypeDefinition.{ObjectTypeDefinition}
use Rattle.graphql_ast.specs.declared.type_system.ObjectTypeExtension.{ObjectTypeExtension}
use Rattle.graphql_ast.specs.declared.type_system.ScalarTypeDefinition.{ScalarTypeDefinition}
use Rattle.graphql_ast.specs.declared.type_system.ScalarTypeExtension.{ScalarTypeExtension}
use Rattle.graphql_ast.specs.declared.type_system.SchemaDefinition.{SchemaDefinition}
use Rattle.graphql_ast.specs.declared.type_system.SchemaExtension.{SchemaExtension}
use Rattle.graphql_ast.specs.declared.type_system.UnionTypeDefinition.{UnionTypeDefinition}
use Rattle.graphql_ast.specs.declared.type_system.UnionTypeExtension.{UnionTypeExtension}

-- the directives of what is defined or extended: a directive has none
abbrev pub declared_directives : Declaration → Option DirectiveList
declared_directives (OfType t) = Some (directive_list t.parts)
declared_directives (OfSchema s) = Some (directive_list s.parts)
declared_directives (OfDirective n) = None
declared_directives (OfOperation n) = Some n.value.directives
declared_directives (OfFragment n) = Some n.value.directives

-- whether it can be executed: an operation or a fragment
abbrev pub declared_executable : Declaration → Bool
declared_executable (OfOperation n) = true
declared_executable (OfFragment n) = true
declared_executable _ = false

-- whether it extends a type or the schema
abbrev pub declared_extension : Declaration → Bool
declared_extension (OfType t) = t.is_extension
declared_extension (OfSchema s) = s.is_extension
declared_extension _ = false

-- the directives that are applied to what a definition defines or extends
abbrev pub definition_directives : Definition → Option DirectiveList
definition_directives definition = declared_directives (declaration_of definition)

-- whether a definition is an ExecutableDefinition
abbrev pub is_executable : Definition → Bool
is_executable definition = declared_executable (declaration_of definition)

-- whether a definition is a TypeSystemExtension
abbrev pub is_extension : Definition → Bool
is_extension definition = declared_extension (declaration_of definition)

-- the definition of an operation, if it is one
abbrev pub as_operation_definition : Definition → Option (NodeView OperationDefinition)
as_operation_definition (d.OperationDefinition n) = Some n
as_operation_definition _ = None

-- the definition of a fragment, if it is one
abbrev pub as_fragment_definition : Definition → Option (NodeView FragmentDefinition)
as_fragment_definition (d.FragmentDefinition n) = Some n
as_fragment_definition _ = None

-- the definition of a directive, if it is one
abbrev pub as_directive_definition : Definition → Option (NodeView DirectiveDefinition)
as_directive_definition (d.DirectiveDefinition n) = Some n
as_directive_definition _ = None

-- the definition of the schema, if it is one
abbrev pub as_schema_definition : Definition → Option (NodeView SchemaDefinition)
as_schema_definition (d.SchemaDefinition n) = Some n
as_schema_definition _ = None

-- the definition of a scalar type, if it is one
abbrev pub as_scalar_type_definition : Definition → Option (NodeView ScalarTypeDefinition)
as_scalar_type_definition (d.ScalarTypeDefinition n) = Some n
as_scalar_type_definition _ = None

-- the definition of an object type, if it is one
abbrev pub as_object_type_definition : Definition → Option (NodeView ObjectTypeDefinition)
as_object_type_definition (d.ObjectTypeDefinition n) = Some n
as_object_type_definition _ = None

-- the definition of an interface type, if it is one
abbrev pub as_interface_type_definition : Definition → Option (NodeView InterfaceTypeDefinition)
as_interface_type_definition (d.InterfaceTypeDefinition n) = Some n
as_interface_type_definition _ = None

-- the definition of a union type, if it is one
abbrev pub as_union_type_definition : Definition → Option (NodeView UnionTypeDefinition)
as_union_type_definition (d.UnionTypeDefinition n) = Some n
as_union_type_definition _ = None

-- the definition of an enum type, if it is one
abbrev pub as_enum_type_definition : Definition → Option (NodeView EnumTypeDefinition)
as_enum_type_definition (d.EnumTypeDefinition n) = Some n
as_enum_type_definition _ = None

-- the definition of an input object type, if it is one
abbrev pub as_input_object_type_definition : Definition → Option (NodeView InputObjectTypeDefinition)
as_input_object_type_definition (d.InputObjectTypeDefinition n) = Some n
as_input_object_type_definition _ = None

-- the extension of the schema, if it is one
abbrev pub as_schema_extension : Definition → Option (NodeView SchemaExtension)
as_schema_extension (d.SchemaExtension n) = Some n
as_schema_extension _ = None

-- the extension of a scalar type, if it is one
abbrev pub as_scalar_type_extension : Definition → Option (NodeView ScalarTypeExtension)
as_scalar_type_extension (d.ScalarTypeExtension n) = Some n
as_scalar_type_extension _ = None

-- the extension of an object type, if it is one
abbrev pub as_object_type_extension : Definition → Option (NodeView ObjectTypeExtension)
as_object_type_extension (d.ObjectTypeExtension n) = Some n
as_object_type_extension _ = None

-- the extension of an interface type, if it is one
abbrev pub as_interface_type_extension : Definition → Option (NodeView InterfaceTypeExtension)
as_interface_type_extension (d.InterfaceTypeExtension n) = Some n
as_interface_type_extension _ = None

-- the extension of a union type, if it is one
abbrev pub as_union_type_extension : Definition → Option (NodeView UnionTypeExtension)
as_union_type_extension (d.UnionTypeExtension n) = Some n
as_union_type_extension _ = None

-- the extension of an enum type, if it is one
abbrev pub as_enum_type_extension : Definition → Option (NodeView EnumTypeExtension)
as_enum_type_extension (d.EnumTypeExtension n) = Some n
as_enum_type_extension _ = None

-- the extension of an input object type, if it is one
abbrev pub as_input_object_type_extension : Definition → Option (NodeView InputObjectTypeExtension)
as_input_object_type_extension (d.InputObjectTypeExtension n) = Some n
as_input_object_type_extension _ = None
