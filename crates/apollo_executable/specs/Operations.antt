-- The operations of a document: GraphQL specification of October 2021, section 2.3.
use Rattle.std.specs.Prelude.{List, [], ◌∷◌, ◌++◌, Option, None, Some}
use Rattle.std.specs.Map.Iter.{ShowsInOrder, deref}
use Rattle.graphql_nodes.specs.NameView.{NameView}
use Rattle.graphql_nodes.specs.NodeView.{NodeView}
use Rattle.graphql_nodes.specs.SameText.{same_text}
use Rattle.graphql_nodes.specs.Tables.{values_of, lookup, insert_entry}
use Rattle.apollo_executable.specs.Listed.{listed}
use Rattle.apollo_executable.specs.declared.operation.Operation.{Operation}
use Rattle.apollo_executable.specs.declared.operation_map.OperationMap.{OperationMap}

-- no anonymous operation, and no named one
abbrev pub no_operations : OperationMap
no_operations = record { anonymous = None; named = [] }

-- the anonymous operation, then the named ones
abbrev pub all_operations : OperationMap → List (NodeView Operation)
all_operations m = listed m.anonymous ++ values_of m.named

-- the element of a list of one
abbrev pub the_only : {A : Type 0} → List A → Option A
the_only (a ∷ []) = Some a
the_only _ = None

-- the operation of this name, or without a name the anonymous one
abbrev pub operation_called : OperationMap → Option NameView → Option (NodeView Operation)
operation_called m (Some name) = lookup (same_text name) m.named
operation_called m None = m.anonymous

-- the map where this operation stands under this name, or as the anonymous one
abbrev pub put_operation : Option NameView → NodeView Operation → OperationMap → OperationMap
put_operation (Some name) operation m =
    record { anonymous = m.anonymous; named = insert_entry same_text m.named name operation }
put_operation None operation m = record { anonymous = Some operation; named = m.named }

-- the map with this operation, under its own name
abbrev pub with_operation : OperationMap → NodeView Operation → OperationMap
with_operation m operation = put_operation operation.value.name operation m

-- each run over the operations gives them in order
abbrev pub OperationsInOrder : Type 0
OperationsInOrder = ShowsInOrder (deref {X = NodeView Operation})
