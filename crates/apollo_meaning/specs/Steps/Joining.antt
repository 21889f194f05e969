-- What is wrong with extensions that join a type or the schema, one after another: the form that the builder
-- is proved against. GraphQL specification of October 2021, sections 3.3.2 and 3.4.3.
use Rattle.std.specs.Prelude.{ℕ, List, [], ◌∷◌, ◌++◌, map}
use Rattle.std.specs.List.{enumerate_from}
use Rattle.graphql_nodes.specs.NodeView.{NodeView}
use Rattle.apollo_component.specs.EachAfter.{each_after}
use Rattle.apollo_component.specs.declared.extension.ComponentOrigin.TheVariants.{Definition}
use Rattle.apollo_types.specs.declared.schema_definition.SchemaDefinition.{SchemaDefinition}
use Rattle.apollo_meaning.specs.Items.Parts.{TypePart, SchemaPart, kind_of}
use Rattle.apollo_meaning.specs.Faults.Collisions.{Fault}
use Rattle.apollo_meaning.specs.Items.Named.{of_kind}
use Rattle.apollo_meaning.specs.Faults.TypeFaults.{part_faults, joining_fault}
use Rattle.apollo_meaning.specs.Schema.Definition.{SourcedSchema, schema_extension_source, schema_from}
use Rattle.apollo_meaning.specs.Faults.RootFaults.{schema_faults}
use Rattle.apollo_types.specs.declared.extended_type.ExtendedType.{ExtendedType}
use Rattle.apollo_meaning.specs.Types.Meaning.{type_from, extension_part, numbered}

-- the extensions that don't have the kind of this definition, and the components that are dropped from those
-- that have it. Each is folded into these parts and the extensions before it
abbrev pub joining_faults : TypePart → List TypePart → List TypePart → List Fault
joining_faults d parts = each_after (λ before. joining_fault d (parts ++ of_kind (kind_of d) before)) []

-- the same for the schema: what is wrong with extensions that join these parts, one after another
abbrev pub schema_joining_faults : List SchemaPart → List SchemaPart → List Fault
schema_joining_faults = each_after schema_faults

-- extensions of the schema, with the numbers from this one on
abbrev pub schema_numbered : ℕ → List SchemaPart → List SourcedSchema
schema_numbered n es = map schema_extension_source (enumerate_from n es)

-- a schema definition with the extensions that waited for it, numbered from this number on
abbrev pub schema_begun : ℕ → SchemaPart → List SchemaPart → NodeView SchemaDefinition
schema_begun n s es = schema_from s ((Definition, s) ∷ schema_numbered n es)

-- what is wrong with a schema definition and with the extensions that waited for it
abbrev pub schema_begun_faults : SchemaPart → List SchemaPart → List Fault
schema_begun_faults s es = schema_faults [] s ++ schema_joining_faults (s ∷ []) es

-- a type with the extensions of its kind that waited for it, numbered from this number on
abbrev pub type_begun : ℕ → TypePart → List TypePart → ExtendedType
type_begun n d es = type_from d ((Definition, d) ∷ map extension_part (numbered n (of_kind (kind_of d) es)))

-- what is wrong with the definition of a type and with the extensions that waited for it
abbrev pub type_begun_faults : TypePart → List TypePart → List Fault
type_begun_faults d es = part_faults [] d ++ joining_faults d (d ∷ []) es
