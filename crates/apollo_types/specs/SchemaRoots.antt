-- The roots of a schema's definition: GraphQL specification of October 2021, section 3.3.1.
use Rattle.std.specs.Prelude.{List, [], ◌∷◌, filter_map, Option, None, option_map}
use Rattle.std.specs.Borrow.{Bor}
use Rattle.graphql_nodes.specs.declared.operation_type.OperationType.{OperationType}
use Rattle.graphql_nodes.specs.declared.operation_type.OperationType.TheVariants.{Query, Mutation}
use Rattle.graphql_nodes.specs.declared.operation_type.OperationType.TheVariants.{Subscription}
use Rattle.apollo_component.specs.declared.component.ComponentName.{ComponentName}
use Rattle.apollo_types.specs.declared.schema_definition.SchemaDefinition.{SchemaDefinition}

-- the schema definition without description, directives and roots
abbrev pub no_schema_definition : SchemaDefinition
no_schema_definition =
    record {
      description = None;
      directives = record { 0 = [] };
      query = None;
      mutation = None;
      subscription = None;
    }

-- the operation types, in the order of the roots
abbrev pub operation_types : List OperationType
operation_types = Query ∷ Mutation ∷ Subscription ∷ []

-- the root of an operation type
abbrev pub root_of : SchemaDefinition → OperationType → Option ComponentName
root_of s Query = s.query
root_of s Mutation = s.mutation
root_of s Subscription = s.subscription

-- the root of an operation type, beside that
abbrev pub named_root : SchemaDefinition → OperationType → Option (OperationType × ComponentName)
named_root s op = option_map (λ n. (op, n)) (root_of s op)

-- the roots that are there, in order
abbrev pub named_roots : SchemaDefinition → List (OperationType × ComponentName)
named_roots s = filter_map (named_root s) operation_types

-- what an operation type and a reference to its root stand for
abbrev pub deref_root : OperationType × Bor ComponentName → OperationType × ComponentName
deref_root r = (r.0, r.1.now)
