-- The schema definition that a list means: its first one with the schema extensions folded in. GraphQL
-- specification of October 2021, sections 3.3 and 3.3.2.
--
-- **Schema definition that a list means.** The **parts of the schema** are its first definition, with the
-- origin "definition", and then its extensions by number. Each extension has its identity as origin. The
-- schema definition (`schema_of`) has
--
-- - description and location: those of the first definition;
-- - directives: those of all parts, joined, repeated ones kept;
-- - for each operation the first root that the parts name for it, with the origin of its part.
--
-- A list whose completed form has no schema definition means none.
use Rattle.std.specs.Prelude.{ℕ, Bool, false, List, ◌∷◌, None, map, Option, true, Some}
use Rattle.std.specs.List.{filter_map, flat_map, find, enumerate_from}
use Rattle.std.specs.Option.{option_map}
use Rattle.graphql_nodes.specs.declared.operation_type.OperationType.{OperationType}
use Rattle.graphql_nodes.specs.declared.operation_type.OperationType.TheVariants.{Query, Mutation}
use Rattle.graphql_nodes.specs.declared.operation_type.OperationType.TheVariants.{Subscription}
use Rattle.graphql_nodes.specs.NodeView.{NodeView}
use Rattle.graphql_ast.specs.declared.directive.Directive.{Directive}
use Rattle.apollo_component.specs.declared.extension.ComponentOrigin.TheVariants.{Definition, Extension}
use Rattle.apollo_component.specs.Extensions.{extension_id}
use Rattle.apollo_component.specs.declared.component.Component.{Component}
use Rattle.apollo_component.specs.declared.component.ComponentName.{ComponentName}
use Rattle.apollo_component.specs.declared.extension.ComponentOrigin.{ComponentOrigin}
use Rattle.apollo_types.specs.declared.schema_definition.SchemaDefinition.{SchemaDefinition}
use Rattle.apollo_types.specs.SchemaRoots.{no_schema_definition}
use Rattle.apollo_meaning.specs.Items.Parts.{SchemaPart}
use Rattle.apollo_meaning.specs.Items.ListItems.{ListItem, Folding, OfType, OfSchema}
use Rattle.apollo_meaning.specs.Items.Named.{first_schema}
use Rattle.apollo_meaning.specs.Types.Components.{component, component_name}

-- whether two operation types are one
abbrev pub same_operation : OperationType → OperationType → Bool
same_operation Query Query = true
same_operation Mutation Mutation = true
same_operation Subscription Subscription = true
same_operation _ _ = false

-- a part, with the origin of its components
abbrev pub SourcedSchema : Type 0
SourcedSchema = ComponentOrigin × SchemaPart

-- the directives of a part, with their origin
abbrev pub schema_directives_of : SourcedSchema → List (Component Directive)
schema_directives_of s = map (component s.0) s.1.parts.directives

-- the roots of a part, under the operations that they are named for
abbrev pub roots_of : SourcedSchema → List (OperationType × ComponentName)
roots_of s = map (λ r. (r.value.0, component_name s.0 r.value.1)) s.1.parts.roots

-- the first root that these parts name for an operation
abbrev pub root_in : OperationType → List SourcedSchema → Option ComponentName
root_in op parts = option_map (λ r. r.1) (find (λ r. same_operation op r.0) (flat_map roots_of parts))

-- the schema definition of parts: directives joined, and the first root for each operation
abbrev pub schema_definition_of : SchemaPart → List SourcedSchema → SchemaDefinition
schema_definition_of head parts = record {
  description = head.description;
  directives = record { 0 = flat_map schema_directives_of parts };
  query = root_in Query parts;
  mutation = root_in Mutation parts;
  subscription = root_in Subscription parts;
}

-- the schema definition of parts, with the description and location of the head
abbrev pub schema_from : SchemaPart → List SourcedSchema → NodeView SchemaDefinition
schema_from head parts = record { value = schema_definition_of head parts; location = head.location }

-- an extension with its number, and the origin of its components
abbrev pub schema_extension_source : ℕ × SchemaPart → SourcedSchema
schema_extension_source e = (Extension (extension_id e.0 e.1.location), e.1)

-- the extensions of the schema among those that are folded, with their numbers
abbrev pub of_schema : ℕ × Folding → Option (ℕ × SchemaPart)
of_schema (i, OfType p) = None
of_schema (i, OfSchema s) = Some (i, s)

-- the extensions of the schema among those that are folded, with their origins
abbrev pub schema_sourced : ℕ → List Folding → List SourcedSchema
schema_sourced start folded = map schema_extension_source (filter_map of_schema (enumerate_from start folded))

-- the parts of the schema with this first definition, where these extensions are folded, in this order
abbrev pub schema_parts : ℕ → List Folding → SchemaPart → List SourcedSchema
schema_parts start folded s = (Definition, s) ∷ schema_sourced start folded

-- the schema definition of a list, where these extensions are folded, in this order
abbrev pub schema_of : ℕ → List Folding → List ListItem → Option (NodeView SchemaDefinition)
schema_of start folded xs = option_map (λ s. schema_from s (schema_parts start folded s)) (first_schema xs)

-- the definition of a schema that has none
abbrev pub no_schema : NodeView SchemaDefinition
no_schema = record { value = no_schema_definition; location = None }
