-- The selection sets of a document: GraphQL specification of October 2021, sections 2.3 and 2.8.
use Rattle.std.specs.Prelude.{List, ◌++◌, map}
use Rattle.graphql_nodes.specs.NodeView.{NodeView}
use Rattle.graphql_nodes.specs.Tables.{values_of}
use Rattle.apollo_executable.specs.Operations.{all_operations}
use Rattle.apollo_executable.specs.declared.document.ExecutableDocument.{ExecutableDocument}
use Rattle.apollo_executable.specs.declared.operation.Fragment.{Fragment}
use Rattle.apollo_executable.specs.declared.operation.Operation.{Operation}
use Rattle.apollo_executable.specs.declared.selection.SelectionSet.{SelectionSet}

-- the set of an operation, and of a fragment
abbrev pub operation_set : NodeView Operation → SelectionSet
operation_set operation = operation.value.selection_set

-- the selections of a fragment, with their type
abbrev pub fragment_set : NodeView Fragment → SelectionSet
fragment_set fragment = fragment.value.selection_set

-- the set of each operation, the anonymous one first, and then of each fragment
abbrev pub sets_of : ExecutableDocument → List SelectionSet
sets_of document =
    map operation_set (all_operations document.operations) ++ map fragment_set (values_of document.fragments)
