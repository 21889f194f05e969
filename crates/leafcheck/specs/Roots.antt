-- The paths of the selection sets of operations and fragments: the definition by its own name, and no field.
-- GraphQL specification of October 2021, sections 2.3 and 2.8.
use Rattle.std.specs.Prelude.{[], Option, None, Some}
use Rattle.graphql_nodes.specs.NameView.{NameView}
use Rattle.graphql_nodes.specs.declared.operation_type.OperationType.{OperationType}
use Rattle.apollo_document.specs.declared.selection_path.ExecutableDefinitionName as root
use Rattle.apollo_document.specs.declared.selection_path.ExecutableDefinitionName.TheVariants as variant
use Rattle.apollo_document.specs.declared.selection_path.SelectionPath.{SelectionPath}
use Rattle.apollo_executable.specs.declared.operation.Fragment.{Fragment}
use Rattle.apollo_executable.specs.declared.operation.Operation.{Operation}

-- an operation of this type, by its name, if it has one
abbrev pub operation_called : OperationType → Option NameView → root.ExecutableDefinitionName
operation_called kind (Some name) = variant.NamedOperation kind name
operation_called kind None = variant.AnonymousOperation kind

-- what the paths in an operation begin with
abbrev pub operation_root : Operation → root.ExecutableDefinitionName
operation_root operation = operation_called operation.operation_type operation.name

-- the path of the set of an operation
abbrev pub operation_path : Operation → SelectionPath
operation_path operation = record { root = operation_root operation; nested_fields = [] }

-- the path of the set of a fragment
abbrev pub fragment_path : Fragment → SelectionPath
fragment_path fragment = record { root = variant.Fragment fragment.name; nested_fields = [] }
