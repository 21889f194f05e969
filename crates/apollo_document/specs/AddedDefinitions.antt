-- The list of definitions that are added to a document: GraphQL specification of October 2021, section 2.2.
use Rattle.std.specs.Prelude.{Bool, List, map, filter_map, Option, None, Some}
use Rattle.graphql_nodes.specs.NodeView.{NodeView}
use Rattle.graphql_ast.specs.declared.definition.Definition.{Definition}
use Rattle.graphql_ast.specs.declared.definition.Definition.TheVariants as d
use Rattle.graphql_ast.specs.declared.operation.OperationDefinition.{OperationDefinition}
use Rattle.graphql_ast.specs.declared.operation.FragmentDefinition.{FragmentDefinition}

-- a definition, and whether one of the type system was at fault when it was added
abbrev pub DocumentItem : Type 0
DocumentItem = Bool × Definition

-- definitions that were all added with those of the type system at fault, or all without
abbrev pub document_list : Bool → List Definition → List DocumentItem
document_list errors ds = map (λ d. (errors, d)) ds

-- the operation that a definition is, if it is one
abbrev pub as_operation : Definition → Option (NodeView OperationDefinition)
as_operation (d.OperationDefinition n) = Some n
as_operation _ = None

-- the fragment that a definition is, if it is one
abbrev pub as_fragment : Definition → Option (NodeView FragmentDefinition)
as_fragment (d.FragmentDefinition n) = Some n
as_fragment _ = None

-- the operation that was added here, if one was
abbrev pub operation_in : DocumentItem → Option (NodeView OperationDefinition)
operation_in x = as_operation x.1

-- the fragment that was added here, if one was
abbrev pub fragment_in : DocumentItem → Option (NodeView FragmentDefinition)
fragment_in x = as_fragment x.1

-- the operations of a list, in order
abbrev pub operations : List DocumentItem → List (NodeView OperationDefinition)
operations xs = filter_map operation_in xs

-- the fragments of a list, in order
abbrev pub fragments : List DocumentItem → List (NodeView FragmentDefinition)
fragments xs = filter_map fragment_in xs
