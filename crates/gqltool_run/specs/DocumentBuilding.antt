-- What the commands on executable documents build: GraphQL specification of October 2021, sections 2.2 to
-- 2.8 and 3.
use Rattle.std.specs.Prelude.{◌≡◌, ℕ, false, true, List, Some}
use Rattle.graphql_ast.specs.declared.document.Document.{Document}
use Rattle.apollo_schema.specs.declared.schema.Schema.{Schema}
use Rattle.apollo_meaning.specs.Order.SpentIds.{SpendsIds}
use Rattle.apollo_meaning.specs.Faults.Collisions.{Fault}
use Rattle.apollo_meaning.specs.Faults.ListFaults.{faults_of}
use Rattle.apollo_schema.specs.MeantSchema.{MeansSchema}
use Rattle.apollo_executable.specs.declared.document.ExecutableDocument.{ExecutableDocument}
use Rattle.apollo_document.specs.Typable.{Fault as DocumentFault}
use Rattle.apollo_document.specs.Documents.{IsDocumentOf}
use Rattle.apollo_document.specs.DocumentFaults.{document_faults}
use Rattle.apollo_compiler.specs.Compilation.{IsCompiled}
use Rattle.apollo_compiler.specs.Lists.{all_sources, executable_list, no_options, schema_list}
use Rattle.apollo_compiler.specs.declared.compile_error.CompileError.TheVariants as spent
use Rattle.apollo_compiler.specs.declared.compiled.Compiled.{Compiled}
use Rattle.bench_notation.specs.Line.{lines_of}
use Rattle.bench_notation.specs.Documents.{AreDividedDocumentsOf, IsDividedReadError}
use Rattle.bench_notation.specs.declared.refusal.ReadError.TheVariants as reading
use Rattle.gqltool_run.specs.declared.failure.Failure.{Failure}
use Rattle.gqltool_run.specs.declared.failure.Failure.TheVariants as failures

-- the schema that the input means, which has no options, and its typed document over that. Then the faults of
-- the schema, and those of the document, in which definitions of the type system are at fault
pub record IsBuiltDocument (input : List ℕ) (schema : Schema) (document : ExecutableDocument)
    (schema_faults : List Fault) (faults : List DocumentFault) : Type 0 where
  -- the documents before the line that divides the input
  pub schema_documents : List Document
  -- the documents behind that line
  pub executable_documents : List Document
  pub says : AreDividedDocumentsOf input schema_documents executable_documents
  pub means : MeansSchema 0 false (schema_list no_options schema_documents) schema
  pub schema_sources : schema.sources ≡ all_sources schema_documents
  -- the faults of the schema are those of the former documents
  pub schema_are : schema_faults ≡ faults_of false (schema_list no_options schema_documents)
  pub typed : IsDocumentOf (Some schema) (executable_list true executable_documents) document
  pub document_sources : document.sources ≡ all_sources executable_documents
  -- the faults of the document are those of the latter over the schema
  pub are : faults ≡ document_faults (Some schema) (executable_list true executable_documents)

-- what the documents before the division of the input and those behind it are compiled to, without options
abbrev pub IsCompiledDivided : List ℕ → Compiled → Type 0
IsCompiledDivided input compiled = (before : List Document)
    × ((behind : List Document)
    × (AreDividedDocumentsOf input before behind × IsCompiled no_options before behind true compiled))

-- why no document is built of an input. A line says nothing where it stands, none divides the input, or the
-- schema's extensions spend the numbers. That memory ran out says nothing of the input
abbrev pub IsDocumentCause : List ℕ → Failure → Type 0
IsDocumentCause input (failures.RefusedLine refused) =
    IsDividedReadError (lines_of input) (reading.Refused refused)
IsDocumentCause input failures.NoDivision = IsDividedReadError (lines_of input) reading.NoDivision
IsDocumentCause input (failures.Exhausted spent.Memory) = Unit {0}
IsDocumentCause input (failures.Exhausted spent.ExtensionIds) = (schema : List Document)
    × ((executable : List Document)
    × (AreDividedDocumentsOf input schema executable × SpendsIds 0 false (schema_list no_options schema)))
IsDocumentCause input _ = ⊥
