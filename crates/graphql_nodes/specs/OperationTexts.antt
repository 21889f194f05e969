-- What kinds of operation are called: GraphQL specification of October 2021, sections 2.3 and 3.3.1.
use Rattle.std.specs.Prelude.{ℕ, List, codes}
use Rattle.graphql_nodes.specs.declared.operation_type.OperationType.{OperationType}
use Rattle.graphql_nodes.specs.declared.operation_type.OperationType.TheVariants.{Query, Mutation}
use Rattle.graphql_nodes.specs.declared.operation_type.OperationType.TheVariants.{Subscription}

-- the keyword of an operation type
abbrev pub operation_text : OperationType → List ℕ
operation_text Query = codes "query"
operation_text Mutation = codes "mutation"
operation_text Subscription = codes "subscription"

-- the name of an operation type's root type where no schema definition names one
abbrev pub default_type_text : OperationType → List ℕ
default_type_text Query = codes "Query"
default_type_text Mutation = codes "Mutation"
default_type_text Subscription = codes "Subscription"
