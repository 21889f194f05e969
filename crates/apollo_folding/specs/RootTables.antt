-- The roots of a schema definition, named one after another: the form that the builder is proved against.
-- GraphQL specification of October 2021, sections 3.3.1 and 3.3.2.
use Rattle.std.specs.Prelude.{List, [], ◌∷◌, ◌++◌, map, Option, Some}
use Rattle.std.specs.List.{find}
use Rattle.std.specs.Option.{option_map, option_map_or, option_or}
use Rattle.graphql_nodes.specs.OperationTexts.{operation_text}
use Rattle.graphql_nodes.specs.declared.operation_type.OperationType.{OperationType}
use Rattle.graphql_nodes.specs.declared.operation_type.OperationType.TheVariants.{Query, Mutation}
use Rattle.graphql_nodes.specs.declared.operation_type.OperationType.TheVariants.{Subscription}
use Rattle.apollo_component.specs.EachAfter.{each_after}
use Rattle.apollo_component.specs.declared.component.ComponentName.{ComponentName}
use Rattle.apollo_component.specs.declared.extension.ComponentOrigin.{ComponentOrigin}
use Rattle.apollo_types.specs.declared.schema_definition.SchemaDefinition.{SchemaDefinition}
use Rattle.apollo_meaning.specs.declared.build_error.BuildError.TheVariants as errors
use Rattle.apollo_meaning.specs.Faults.Collisions.{Fault}
use Rattle.apollo_meaning.specs.Types.Components.{component_name}
use Rattle.apollo_meaning.specs.Schema.Definition.{same_operation}
use Rattle.apollo_meaning.specs.Items.Parts.{Root}

-- an operation type, and the name of its root type, with its origin
abbrev pub NamedRoot : Type 0
NamedRoot = OperationType × ComponentName

-- a root with its origin
abbrev pub root_with_origin : ComponentOrigin → Root → NamedRoot
root_with_origin o r = (r.value.0, component_name o r.value.1)

-- the first of these that is named for an operation
abbrev pub first_named : OperationType → List NamedRoot → Option ComponentName
first_named op rs = option_map (λ r. r.1) (find (λ r. same_operation op r.0) rs)

-- the schema definition with the first of these for each operation
abbrev pub with_roots : SchemaDefinition → List NamedRoot → SchemaDefinition
with_roots d rs = record {
  description = d.description;
  directives = d.directives;
  query = first_named Query rs;
  mutation = first_named Mutation rs;
  subscription = first_named Subscription rs;
}

-- the schema definition with a root for an operation that has none
abbrev pub put_root : OperationType → ComponentName → SchemaDefinition → SchemaDefinition
put_root Query c d = record d { query = option_or d.query (Some c) }
put_root Mutation c d = record d { mutation = option_or d.mutation (Some c) }
put_root Subscription c d = record d { subscription = option_or d.subscription (Some c) }

-- a root that is dropped for this one
abbrev pub dropped_root : Root → ComponentName → Fault
dropped_root r kept =
    (r.location, errors.DuplicateRootOperation kept.name.location (operation_text r.value.0))

-- the fault of a root where its operation has this one
abbrev pub held_fault : Option ComponentName → Root → List Fault
held_fault held r = option_map_or (λ kept. dropped_root r kept ∷ []) held []

-- the faults of roots of an origin with these before them, in order
abbrev pub held_faults : List NamedRoot → ComponentOrigin → List Root → List Fault
held_faults rs o =
    each_after (λ done x. held_fault (first_named x.value.0 (rs ++ map (root_with_origin o) done)) x) []
