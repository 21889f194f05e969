-- What the commands build: GraphQL specification of October 2021, section 3.
use Rattle.std.specs.Prelude.{◌≡◌, ℕ, true, List, []}
use Rattle.graphql_ast.specs.declared.document.Document.{Document}
use Rattle.apollo_schema.specs.declared.schema.Schema.{Schema}
use Rattle.apollo_meaning.specs.Order.SpentIds.{SpendsIds}
use Rattle.apollo_meaning.specs.Faults.Collisions.{Fault}
use Rattle.apollo_meaning.specs.Faults.ListFaults.{faults_of}
use Rattle.apollo_schema.specs.MeantSchema.{MeansSchema}
use Rattle.apollo_compiler.specs.Compilation.{IsCompiled}
use Rattle.apollo_compiler.specs.Lists.{all_sources, schema_list}
use Rattle.apollo_compiler.specs.declared.compile_error.CompileError.TheVariants as spent
use Rattle.apollo_compiler.specs.declared.compile_options.CompileOptions.{CompileOptions}
use Rattle.apollo_compiler.specs.declared.compiled.Compiled.{Compiled}
use Rattle.gqltool_run.specs.declared.failure.Failure.{Failure}
use Rattle.gqltool_run.specs.declared.failure.Failure.TheVariants as failures
use Rattle.bench_notation.specs.Line.{lines_of}
use Rattle.bench_notation.specs.Documents.{AreDocumentsOf, IsFirstRefused}

-- the schema that the input means with these options, and its faults
pub record IsBuilt (options : CompileOptions) (input : List ℕ) (schema : Schema) (faults : List Fault) :
    Type 0 where
  -- the documents that the input says
  pub documents : List Document
  pub says : AreDocumentsOf input documents
  -- the schema that these documents mean, with its extensions numbered from 0
  pub means : MeansSchema 0 options.adopt_orphan_extensions (schema_list options documents) schema
  -- its source files are those of these documents
  pub sources : schema.sources ≡ all_sources documents
  -- the faults are those of these documents
  pub are : faults ≡ faults_of options.adopt_orphan_extensions (schema_list options documents)

-- what the documents of the input are compiled to with these options, without executable documents
abbrev pub IsCompiledInput : CompileOptions → List ℕ → Compiled → Type 0
IsCompiledInput options input compiled = (documents : List Document)
    × (AreDocumentsOf input documents × IsCompiled options documents [] true compiled)

-- why nothing is built of an input with these options. A line says nothing where it stands, or the extensions
-- spend the numbers. That memory ran out says nothing of the input
abbrev pub IsCause : CompileOptions → List ℕ → Failure → Type 0
IsCause options input (failures.RefusedLine refused) = IsFirstRefused (lines_of input) refused
IsCause options input (failures.Exhausted spent.Memory) = Unit {0}
IsCause options input (failures.Exhausted spent.ExtensionIds) = (documents : List Document)
    × (AreDocumentsOf input documents
    × SpendsIds 0 options.adopt_orphan_extensions (schema_list options documents))
IsCause options input _ = ⊥
