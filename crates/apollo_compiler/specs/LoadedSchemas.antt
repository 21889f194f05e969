-- Schemas of files: GraphQL specification of October 2021, sections 2.2 and 3.
use Rattle.std.specs.Prelude.{◌≡◌, ◌^◌, ◌-◌, ℕ, List, [], ◌∷◌, Option, None, IsSomeAnd}
use Rattle.std.specs.List.{filter_map}
use Rattle.graphql_ast.specs.declared.document.Document.{Document}
use Rattle.graphql_text.specs.declared.parsing.ParseOptions.{ParseOptions}
use Rattle.apollo_meaning.specs.Faults.Collisions.{Fault}
use Rattle.apollo_meaning.specs.Order.SpentIds.{SpendsIds}
use Rattle.apollo_schema.specs.declared.schema.Schema.{Schema}
use Rattle.apollo_compiler.specs.Compilation.{AreBuilt}
use Rattle.apollo_compiler.specs.Lists.{schema_list}
use Rattle.apollo_compiler.specs.Loading.{AreReadings, document_of, refusal_of, sources_from}
use Rattle.apollo_compiler.specs.declared.compile_options.CompileOptions.{CompileOptions}
use Rattle.apollo_compiler.specs.declared.loaded_schema.LoadedSchema.{LoadedSchema}
use Rattle.apollo_compiler.specs.declared.reading.Reading.{Reading}

-- the options that texts are read with unless others are given: 200 signs may be open at once, and there may
-- be any number of tokens
abbrev pub usual : ParseOptions
usual = record { max_depth = 200; max_tokens = 2 ^ 64 - 1 }

-- where nothing is refused, the schema of these documents, with its faults; else no schema, and no faults
abbrev pub IsSchemaUnless : {R : Type 0} → List R → CompileOptions → List Document → Option Schema
    → List Fault → Type 0
IsSchemaUnless [] options documents schema faults =
    IsSomeAnd schema (λ built. AreBuilt options documents built faults)
IsSchemaUnless (refusal ∷ refusals) options documents schema faults = (schema ≡ None) × (faults ≡ [])

-- the schema of the files of these paths, with all that is wrong with them
pub record IsLoadedSchema (held : List ℕ → List ℕ → Type 0) (may_fail : List ℕ
    → Type 0) (options : CompileOptions) (paths : List (List ℕ)) (loaded : LoadedSchema) : Type 0 where
  -- what became of each file
  pub readings : List Reading
  pub are : AreReadings held may_fail usual 1 paths readings
  -- all refusals, and the files that could be read
  pub refused : loaded.refused.items ≡ filter_map refusal_of readings
  pub sources : loaded.sources ≡ sources_from 1 readings
  pub built : IsSchemaUnless (filter_map refusal_of readings) options (filter_map document_of readings)
      loaded.schema loaded.faults.items

-- no file of these paths is refused, and the numbers don't suffice for the extensions of all of them
pub record SpendsIdsOfFiles (held : List ℕ → List ℕ → Type 0) (may_fail : List ℕ
    → Type 0) (options : CompileOptions) (paths : List (List ℕ)) : Type 0 where
  pub readings : List Reading
  pub are : AreReadings held may_fail usual 1 paths readings
  pub none : filter_map refusal_of readings ≡ []
  pub spends : SpendsIds 0 options.adopt_orphan_extensions
      (schema_list options (filter_map document_of readings))
