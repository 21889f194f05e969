-- The implicit roots that a table of types gives: the form that the builder is proved against. GraphQL
-- specification of October 2021, section 3.3.1.
use Rattle.std.specs.Prelude.{List, [], ◌∷◌, ◌++◌, if◌then◌else◌}
use Rattle.graphql_nodes.specs.NameView.{NameView}
use Rattle.graphql_nodes.specs.Tables.{lookup}
use Rattle.graphql_nodes.specs.OperationTexts.{default_type_text}
use Rattle.graphql_nodes.specs.declared.operation_type.OperationType.{OperationType}
use Rattle.graphql_nodes.specs.declared.operation_type.OperationType.TheVariants.{Query, Mutation}
use Rattle.graphql_nodes.specs.declared.operation_type.OperationType.TheVariants.{Subscription}
use Rattle.apollo_types.specs.SchemaDefinitionWriteOut.{is_some_object}
use Rattle.apollo_types.specs.declared.extended_type.ExtendedType.{ExtendedType}
use Rattle.graphql_nodes.specs.SameText.{by_text}
use Rattle.apollo_meaning.specs.Items.Parts.{Root}
use Rattle.apollo_meaning.specs.Completion.ImpliedSchema.{default_root}

-- types under their names
abbrev pub Types : Type 0
Types = List (NameView × ExtendedType)

-- the implicit root of an operation type: of the default name, where an object type stands under that
abbrev pub held_root : Types → OperationType → List Root
held_root types op = if is_some_object (lookup (by_text (default_type_text op)) types)
    then default_root op ∷ [] else []

-- the implicit roots: of query, of mutation and of subscription, in this order
abbrev pub held_roots : Types → List Root
held_roots types = (held_root types Query ++ held_root types Mutation) ++ held_root types Subscription
