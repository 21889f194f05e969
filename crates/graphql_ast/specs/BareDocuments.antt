-- Operations, fragments and whole documents without their locations. GraphQL specification of October 2021,
-- sections 2.2, 2.3, 2.8 and 2.10.
use Rattle.std.specs.Prelude.{[], map, option_map}
use Rattle.graphql_nodes.specs.Comparing.{bare_name, bare_node}
use Rattle.graphql_ast.specs.Bare.{bare_value, bare_type, bare_directive_list}
use Rattle.graphql_ast.specs.BareSelections.{bare_selection}
use Rattle.graphql_ast.specs.BareTypeSystem.{bare_directive_definition, bare_schema_definition}
use Rattle.graphql_ast.specs.BareTypeSystem.{bare_scalar_type_definition, bare_object_type_definition}
use Rattle.graphql_ast.specs.BareTypeSystem.{bare_interface_type_definition, bare_union_type_definition}
use Rattle.graphql_ast.specs.BareTypeSystem.{bare_enum_type_definition, bare_input_object_type_definition}
use Rattle.graphql_ast.specs.BareTypeSystem.{bare_schema_extension, bare_scalar_type_extension}
use Rattle.graphql_ast.specs.BareTypeSystem.{bare_object_type_extension, bare_interface_type_extension}
use Rattle.graphql_ast.specs.BareTypeSystem.{bare_union_type_extension, bare_enum_type_extension}
use Rattle.graphql_ast.specs.BareTypeSystem.{bare_input_object_type_extension}
use Rattle.graphql_ast.specs.Operations.{fragment_of, operation_of, variable_of}
use Rattle.graphql_ast.specs.declared.operation.VariableDefinition.{VariableDefinition}
use Rattle.graphql_ast.specs.declared.operation.OperationDefinition.{OperationDefinition}
use Rattle.graphql_ast.specs.declared.operation.FragmentDefinition.{FragmentDefinition}
use Rattle.graphql_ast.specs.declared.definition.Definition.{Definition}
use Rattle.graphql_ast.specs.declared.definition.Definition.TheVariants as d
use Rattle.graphql_ast.specs.declared.document.Document.{Document}

-- the definition of a variable without locations
abbrev pub bare_variable_definition : VariableDefinition → VariableDefinition
bare_variable_definition d =
    variable_of (bare_name d.name) (bare_node bare_type d.ty)
    (option_map (bare_node bare_value) d.default_value) (bare_directive_list d.directives)

-- an operation without locations
abbrev pub bare_operation_definition : OperationDefinition → OperationDefinition
bare_operation_definition d =
    operation_of d.operation_type (option_map bare_name d.name)
    (map (bare_node bare_variable_definition) d.variables) (bare_directive_list d.directives)
    (map bare_selection d.selection_set)

-- a fragment without locations
abbrev pub bare_fragment_definition : FragmentDefinition → FragmentDefinition
bare_fragment_definition d =
    fragment_of (bare_name d.name) (bare_name d.type_condition) (bare_directive_list d.directives)
    (map bare_selection d.selection_set)

-- a definition of any sort without locations
abbrev pub bare_definition : Definition → Definition
bare_definition (d.OperationDefinition n) = d.OperationDefinition (bare_node bare_operation_definition n)
bare_definition (d.FragmentDefinition n) = d.FragmentDefinition (bare_node bare_fragment_definition n)
bare_definition (d.DirectiveDefinition n) = d.DirectiveDefinition (bare_node bare_directive_definition n)
bare_definition (d.SchemaDefinition n) = d.SchemaDefinition (bare_node bare_schema_definition n)
bare_definition (d.ScalarTypeDefinition n) = d.ScalarTypeDefinition (bare_node bare_scalar_type_definition n)
bare_definition (d.ObjectTypeDefinition n) = d.ObjectTypeDefinition (bare_node bare_object_type_definition n)
bare_definition (d.InterfaceTypeDefinition n) =
    d.InterfaceTypeDefinition (bare_node bare_interface_type_definition n)
bare_definition (d.UnionTypeDefinition n) = d.UnionTypeDefinition (bare_node bare_union_type_definition n)
bare_definition (d.EnumTypeDefinition n) = d.EnumTypeDefinition (bare_node bare_enum_type_definition n)
bare_definition (d.InputObjectTypeDefinition n) =
    d.InputObjectTypeDefinition (bare_node bare_input_object_type_definition n)
bare_definition (d.SchemaExtension n) = d.SchemaExtension (bare_node bare_schema_extension n)
bare_definition (d.ScalarTypeExtension n) = d.ScalarTypeExtension (bare_node bare_scalar_type_extension n)
bare_definition (d.ObjectTypeExtension n) = d.ObjectTypeExtension (bare_node bare_object_type_extension n)
bare_definition (d.InterfaceTypeExtension n) =
    d.InterfaceTypeExtension (bare_node bare_interface_type_extension n)
bare_definition (d.UnionTypeExtension n) = d.UnionTypeExtension (bare_node bare_union_type_extension n)
bare_definition (d.EnumTypeExtension n) = d.EnumTypeExtension (bare_node bare_enum_type_extension n)
bare_definition (d.InputObjectTypeExtension n) =
    d.InputObjectTypeExtension (bare_node bare_input_object_type_extension n)

-- a document without locations, and without the files that it comes from
abbrev pub bare_document : Document → Document
bare_document d = record { sources = []; definitions = map bare_definition d.definitions }
