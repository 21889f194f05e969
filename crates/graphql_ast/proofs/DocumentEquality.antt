-- Equality of operations, fragments and whole documents.
use Rattle.std.proofs.Common.{refl, []}
use Rattle.graphql_ast.specs.BareDocuments.{bare_variable_definition, bare_operation_definition}
use Rattle.graphql_ast.specs.BareDocuments.{bare_fragment_definition, bare_definition, bare_document}
use Rattle.graphql_ast.specs.Operations.{fragment_of, operation_of, variable_of}
use Rattle.graphql_ast.specs.declared.definition.Definition.{Definition}
use Rattle.graphql_ast.specs.declared.definition.Definition.TheVariants as d
use Rattle.graphql_ast.specs.contracts.operation.VariableDefinitionPartialEq.TheImpl as variable_definition
use Rattle.graphql_ast.specs.contracts.operation.OperationDefinitionPartialEq.TheImpl as operation_definition
use Rattle.graphql_ast.specs.contracts.operation.FragmentDefinitionPartialEq.TheImpl as fragment_definition
use Rattle.graphql_ast.specs.contracts.definition.DefinitionPartialEq.TheImpl as definition
use Rattle.graphql_ast.specs.contracts.document.DocumentPartialEq.TheImpl as document
use Rattle.graphql_nodes.proofs.Comparisons.{Compares, At, inside, of_fields, of_four, of_five}
use Rattle.graphql_nodes.proofs.Comparisons.{pairs, names, nodes, lists, options}
use Rattle.graphql_nodes.proofs.LocationEquality.{operation_types}
use Rattle.graphql_ast.proofs.ValueEquality.{values}
use Rattle.graphql_ast.proofs.TypeEquality.{types}
use Rattle.graphql_ast.proofs.DirectiveEquality.{directive_lists}
use Rattle.graphql_ast.proofs.SelectionEquality.{selections}
use Rattle.graphql_ast.proofs.TypeSystemEquality as type_system

pub variable_definitions : Compares variable_definition.ghosts.eq bare_variable_definition
variable_definitions = of_fields (λ d. (d.name, (d.ty, (d.default_value, d.directives))))
    (of_four variable_of) (λ _. refl)
    (pairs names (pairs (nodes types) (pairs (options (nodes values)) directive_lists)))

pub operation_definitions : Compares operation_definition.ghosts.eq bare_operation_definition
operation_definitions = of_fields
    (λ d. (d.operation_type, (d.name, (d.variables, (d.directives, d.selection_set))))) (of_five operation_of)
    (λ _. refl) (pairs operation_types (pairs (options names) (pairs (lists (nodes variable_definitions))
    (pairs directive_lists (lists selections)))))

pub fragment_definitions : Compares fragment_definition.ghosts.eq bare_fragment_definition
fragment_definitions = of_fields (λ d. (d.name, (d.type_condition, (d.directives, d.selection_set))))
    (of_four fragment_of) (λ _. refl) (pairs names (pairs names (pairs directive_lists (lists selections))))

definition_at : (a b : Definition) → At definition.ghosts.eq bare_definition a b
definition_at (d.OperationDefinition m) (d.OperationDefinition n) =
    inside d.OperationDefinition (λ h. cc) ((nodes operation_definitions).at m n)
definition_at (d.FragmentDefinition m) (d.FragmentDefinition n) =
    inside d.FragmentDefinition (λ h. cc) ((nodes fragment_definitions).at m n)
definition_at (d.DirectiveDefinition m) (d.DirectiveDefinition n) =
    inside d.DirectiveDefinition (λ h. cc) ((nodes type_system.directive_definitions).at m n)
definition_at (d.SchemaDefinition m) (d.SchemaDefinition n) =
    inside d.SchemaDefinition (λ h. cc) ((nodes type_system.schema_definitions).at m n)
definition_at (d.ScalarTypeDefinition m) (d.ScalarTypeDefinition n) =
    inside d.ScalarTypeDefinition (λ h. cc) ((nodes type_system.scalar_type_definitions).at m n)
definition_at (d.ObjectTypeDefinition m) (d.ObjectTypeDefinition n) =
    inside d.ObjectTypeDefinition (λ h. cc) ((nodes type_system.object_type_definitions).at m n)
definition_at (d.InterfaceTypeDefinition m) (d.InterfaceTypeDefinition n) =
    inside d.InterfaceTypeDefinition (λ h. cc) ((nodes type_system.interface_type_definitions).at m n)
definition_at (d.UnionTypeDefinition m) (d.UnionTypeDefinition n) =
    inside d.UnionTypeDefinition (λ h. cc) ((nodes type_system.union_type_definitions).at m n)
definition_at (d.EnumTypeDefinition m) (d.EnumTypeDefinition n) =
    inside d.EnumTypeDefinition (λ h. cc) ((nodes type_system.enum_type_definitions).at m n)
definition_at (d.InputObjectTypeDefinition m) (d.InputObjectTypeDefinition n) =
    inside d.InputObjectTypeDefinition (λ h. cc) ((nodes type_system.input_object_type_definitions).at m n)
definition_at (d.SchemaExtension m) (d.SchemaExtension n) =
    inside d.SchemaExtension (λ h. cc) ((nodes type_system.schema_extensions).at m n)
definition_at (d.ScalarTypeExtension m) (d.ScalarTypeExtension n) =
    inside d.ScalarTypeExtension (λ h. cc) ((nodes type_system.scalar_type_extensions).at m n)
definition_at (d.ObjectTypeExtension m) (d.ObjectTypeExtension n) =
    inside d.ObjectTypeExtension (λ h. cc) ((nodes type_system.object_type_extensions).at m n)
definition_at (d.InterfaceTypeExtension m) (d.InterfaceTypeExtension n) =
    inside d.InterfaceTypeExtension (λ h. cc) ((nodes type_system.interface_type_extensions).at m n)
definition_at (d.UnionTypeExtension m) (d.UnionTypeExtension n) =
    inside d.UnionTypeExtension (λ h. cc) ((nodes type_system.union_type_extensions).at m n)
definition_at (d.EnumTypeExtension m) (d.EnumTypeExtension n) =
    inside d.EnumTypeExtension (λ h. cc) ((nodes type_system.enum_type_extensions).at m n)
definition_at (d.InputObjectTypeExtension m) (d.InputObjectTypeExtension n) =
    inside d.InputObjectTypeExtension (λ h. cc) ((nodes type_system.input_object_type_extensions).at m n)
definition_at _ _ = (λ h. cc, λ h. cc)

pub definitions : Compares definition.ghosts.eq bare_definition
definitions = record { at = definition_at }

pub documents : Compares document.ghosts.eq bare_document
documents = of_fields (λ d. d.definitions) (λ p. record { sources = []; definitions = p }) (λ _. refl)
    (lists definitions)
