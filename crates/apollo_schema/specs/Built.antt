-- What a build makes of what was added to a builder: GraphQL specification of October 2021, section 3.3.
use Rattle.std.specs.Prelude.{◌≡◌, List, []}
use Rattle.apollo_schema.specs.declared.schema.Schema.{Schema}
use Rattle.apollo_schema.specs.BuilderStands.{Building, OfAdded, sources_of}
use Rattle.apollo_schema.specs.MeantSchema.{MeansSchema, IsPartOf}
use Rattle.apollo_meaning.specs.Faults.Collisions.{Fault}
use Rattle.apollo_meaning.specs.Faults.ListFaults.{faults_of}

-- the schema is the one that the builder's list means
abbrev pub IsMeant : Building → Schema → Type 0
IsMeant b schema = OfAdded (λ start xs. MeansSchema start b.adopts xs schema) b

-- the builder's list is without fault
abbrev pub IsFaultless : Building → Type 0
IsFaultless b = OfAdded (λ start xs. faults_of b.adopts xs ≡ []) b

-- the schema is the one that the builder's list means, with the source files that were added, and the list is
-- without fault
pub record IsBuiltOf (b : Building) (schema : Schema) : Type 0 where
  pub means : IsMeant b schema
  pub its_sources : schema.sources ≡ sources_of b
  pub faultless : IsFaultless b

-- this could be built of the builder's list, and these are its faults
abbrev pub IsFoundIn : Building → Schema → List Fault → Type 0
IsFoundIn b partial faults = OfAdded (λ start xs. IsPartOf start b.adopts xs (sources_of b) partial faults) b
