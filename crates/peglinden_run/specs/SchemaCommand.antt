-- What the command `schema` answers: GraphQL specification of October 2021, section 3.
use Rattle.std.specs.Prelude.{◌≡◌, ℕ, List, length}
use Rattle.graphql_ast.specs.declared.document.Document.{Document}
use Rattle.apollo_schema.specs.declared.schema.Schema.{Schema}
use Rattle.apollo_schema.specs.MeantSchema.{MeansSchema}
use Rattle.apollo_schema.specs.SchemaWriteOut.{write_schema}
use Rattle.apollo_meaning.specs.Faults.Collisions.{Fault}
use Rattle.apollo_meaning.specs.Faults.ListFaults.{faults_of}
use Rattle.apollo_meaning.specs.Order.SpentIds.{SpendsIds}
use Rattle.apollo_compiler.specs.Lists.{all_sources, schema_list}
use Rattle.apollo_compiler.specs.declared.compile_options.CompileOptions.{CompileOptions}
use Rattle.apollo_compiler.specs.declared.compile_error.CompileError.TheVariants as spent
use Rattle.peglinden_run.specs.declared.answer.Answer.{Answer}
use Rattle.peglinden_run.specs.declared.failure.Failure.{Failure}
use Rattle.peglinden_run.specs.declared.failure.Failure.TheVariants as failures
use Rattle.peglinden_run.specs.declared.form.Form.{Form}
use Rattle.peglinden_words.specs.declared.request.Reporting.{Reporting}
use Rattle.peglinden_run.specs.Documents.{AreDocumentsAt}
use Rattle.peglinden_run.specs.Ended.{ended}
use Rattle.peglinden_run.specs.Findings.{IsAnswerOf, of_schema}
use Rattle.peglinden_run.specs.Forms.{form_of}
use Rattle.peglinden_run.specs.Lines.{form_text}
use Rattle.peglinden_run.specs.RefusedFiles.{IsFilesReport}

-- In all of this `held` says which bytes the file of a path may hold, and `may_fail` whether reading it may
-- fail.

-- the schema and its faults are what the files of these paths mean with these options, its extensions
-- numbered from 0
pub record IsSchemaOf (held : List ℕ → List ℕ
    → Type 0) (options : CompileOptions) (paths : List (List ℕ)) (schema : Schema) (faults : List Fault) :
    Type 0 where
  -- the documents of the files
  pub documents : List Document
  pub read : AreDocumentsAt held 1 paths documents
  pub means : MeansSchema 0 options.adopt_orphan_extensions (schema_list options documents) schema
  pub sources : schema.sources ≡ all_sources documents
  pub are : faults ≡ faults_of options.adopt_orphan_extensions (schema_list options documents)

-- the answer is the write-out of that schema, in the form that is asked for, and what is said of its faults
pub record IsSchemaAnswer (held : List ℕ → List ℕ
    → Type 0) (options : CompileOptions) (reporting : Reporting) (paths : List (List ℕ)) (answer : Answer) :
    Type 0 where
  pub schema : Schema
  pub faults : List Fault
  pub means : IsSchemaOf held options paths schema faults
  pub is : IsAnswerOf reporting (length paths) (of_schema schema.sources faults)
      (form_text (form_of reporting) (ended (write_schema schema))) answer

-- why there is no such answer: a file is refused, or the extensions spend the numbers; that memory ran out
-- says nothing of the files
abbrev pub IsSchemaCause : Form → (List ℕ → List ℕ → Type 0) → (List ℕ → Type 0) → CompileOptions
    → List (List ℕ) → Failure → Type 0
IsSchemaCause form held may_fail options paths (failures.Files printed) =
    IsFilesReport form held may_fail paths printed
IsSchemaCause form held may_fail options paths (failures.Exhausted spent.Memory) = Unit {0}
IsSchemaCause form held may_fail options paths (failures.Exhausted spent.ExtensionIds) =
    (documents : List Document)
    × (AreDocumentsAt held 1 paths documents
    × SpendsIds 0 options.adopt_orphan_extensions (schema_list options documents))
IsSchemaCause form held may_fail options paths _ = ⊥
