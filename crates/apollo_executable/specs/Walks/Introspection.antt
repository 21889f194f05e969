-- Operations that ask for the schema alone: GraphQL specification of October 2021, sections 4.1 and 4.2.
use Rattle.std.specs.Prelude.{◌≡◌, ◌⊎◌, ℕ, false, List, codes}
use Rattle.graphql_nodes.specs.NodeView.{NodeView}
use Rattle.graphql_nodes.specs.declared.operation_type.OperationType.TheVariants.{Query}
use Rattle.apollo_walks.specs.Reachable.{IsReached}
use Rattle.apollo_executable.specs.Walks.Plain.{plain, fragments_of}
use Rattle.apollo_executable.specs.declared.selection.Field.{Field}
use Rattle.apollo_executable.specs.declared.operation.Operation.{Operation}
use Rattle.apollo_executable.specs.declared.document.ExecutableDocument.{ExecutableDocument}

-- the name of a field that each schema has at its root of queries
abbrev pub IsMetaName : List ℕ → Type 0
IsMetaName name = (name ≡ codes "__type") ⊎ ((name ≡ codes "__schema") ⊎ (name ≡ codes "__typename"))

-- it is a query, and each of its root fields has such a name, through fragments too
abbrev pub IsIntrospection : ExecutableDocument → Operation → Type 0
IsIntrospection document operation = (operation.operation_type ≡ Query)
    × ((n : NodeView Field)
    → IsReached (fragments_of false document) (plain false operation.selection_set.selections) n
    → IsMetaName n.value.name.text)
