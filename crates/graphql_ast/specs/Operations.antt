-- Operations, variables and fragments, made of their fields, in order. GraphQL specification of October 2021,
-- sections 2.3, 2.8 and 2.10.
use Rattle.std.specs.Prelude.{List, Option}
use Rattle.graphql_nodes.specs.NameView.{NameView}
use Rattle.graphql_nodes.specs.NodeView.{NodeView}
use Rattle.graphql_nodes.specs.declared.operation_type.OperationType.{OperationType}
use Rattle.graphql_ast.specs.declared.directive.DirectiveList.{DirectiveList}
use Rattle.graphql_ast.specs.declared.operation.FragmentDefinition.{FragmentDefinition}
use Rattle.graphql_ast.specs.declared.operation.OperationDefinition.{OperationDefinition}
use Rattle.graphql_ast.specs.declared.operation.VariableDefinition.{VariableDefinition}
use Rattle.graphql_ast.specs.declared.selection.Selection.{Selection}
use Rattle.graphql_ast.specs.declared.type_reference.Type.{«Type» as TypeReference}
use Rattle.graphql_ast.specs.declared.value.Value.{Value}

-- the definition of a variable
abbrev pub variable_of : NameView → NodeView TypeReference → Option (NodeView Value) → DirectiveList
    → VariableDefinition
variable_of n t v ds = record { name = n; ty = t; default_value = v; directives = ds }

-- an operation
abbrev pub operation_of : OperationType → Option NameView → List (NodeView VariableDefinition)
    → DirectiveList → List Selection → OperationDefinition
operation_of o n vs ds ss =
    record { operation_type = o; name = n; variables = vs; directives = ds; selection_set = ss }

-- a fragment
abbrev pub fragment_of : NameView → NameView → DirectiveList → List Selection → FragmentDefinition
fragment_of n c ds ss = record { name = n; type_condition = c; directives = ds; selection_set = ss }
