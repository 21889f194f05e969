-- The schema that a list of definitions means: GraphQL specification of October 2021, section 3.3.
use Rattle.std.specs.Prelude.{◌≡◌, ◌≢◌, ℕ, Bool, List, []}
use Rattle.std.specs.Option.{unwrap_or}
use Rattle.apollo_schema.specs.declared.schema.Schema.{Schema}
use Rattle.apollo_meaning.specs.Items.ListItems.{ListItem, Folding, Added}
use Rattle.apollo_meaning.specs.Order.Places.{folding_order}
use Rattle.apollo_meaning.specs.Types.Meaning.{AreTypesOf}
use Rattle.apollo_meaning.specs.Schema.Definition.{schema_of, no_schema}
use Rattle.apollo_meaning.specs.Directives.{directive_definitions, AreDirectivesOf}
use Rattle.graphql_nodes.specs.Sources.{Files}
use Rattle.apollo_meaning.specs.Faults.Collisions.{Fault}
use Rattle.apollo_meaning.specs.Faults.ListFaults.{faults_of}
use Rattle.apollo_meaning.specs.Schema.Whole.{whole}

-- the schema has the schema definition, the types and the directive definitions of the list, where these
-- extensions are folded, in this order
pub record AreOf (start : ℕ) (folded : List Folding) (xs : List ListItem) (schema : Schema) : Type 0 where
  -- the schema definition that the list means, or where it means none, one without anything
  pub definition : schema.schema_definition ≡ unwrap_or (schema_of start folded xs) no_schema
  pub types : AreTypesOf start folded xs schema.types
  pub directives : AreDirectivesOf (directive_definitions xs) schema.directive_definitions

-- the schema is the one that the list means, with its extensions numbered from `start`
abbrev pub MeansSchema : ℕ → Bool → List Added → Schema → Type 0
MeansSchema start adopts xs schema = AreOf start (folding_order (whole adopts xs)) (whole adopts xs) schema

-- this could be built of the list and these source files, and these are the list's faults, of which there are
-- some
abbrev pub IsPartOf : ℕ → Bool → List Added → Files → Schema → List Fault → Type 0
IsPartOf start adopting xs files partial faults =
    MeansSchema start adopting xs partial
    × ((faults ≡ faults_of adopting xs × faults ≢ []) × partial.sources ≡ files)
