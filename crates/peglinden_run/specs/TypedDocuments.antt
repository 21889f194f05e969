-- Documents of files, typed over the schema of files: GraphQL specification of October 2021, sections 2.2 to
-- 2.8 and 3.
use Rattle.std.specs.Prelude.{◌≡◌, ◌++◌, ℕ, true, false, List, Some, length, string_bytes, take, drop}
use Rattle.graphql_nodes.specs.Sources.{merged}
use Rattle.graphql_ast.specs.declared.document.Document.{Document}
use Rattle.apollo_schema.specs.MeantSchema.{MeansSchema}
use Rattle.apollo_meaning.specs.Faults.ListFaults.{faults_of}
use Rattle.apollo_meaning.specs.Order.SpentIds.{SpendsIds}
use Rattle.apollo_document.specs.Documents.{IsDocumentOf}
use Rattle.apollo_document.specs.DocumentFaults.{document_faults}
use Rattle.apollo_compiler.specs.Lists.{all_sources, executable_list, no_options, schema_list}
use Rattle.leafcheck.specs.LeafFaults.{leaf_faults}
use Rattle.apollo_compiler.specs.declared.compile_error.CompileError.TheVariants as spent
use Rattle.peglinden_run.specs.declared.failure.Failure.{Failure}
use Rattle.peglinden_run.specs.declared.failure.Failure.TheVariants as failures
use Rattle.peglinden_run.specs.declared.form.Form.{Form}
use Rattle.peglinden_run.specs.declared.typed_documents.TypedDocument.{TypedDocument}
use Rattle.peglinden_run.specs.Documents.{AreDocumentsAt}
use Rattle.peglinden_run.specs.Echoes.{IsEcho, LeavesOut}
use Rattle.peglinden_run.specs.RefusedFiles.{IsFilesReport}
use Rattle.peglinden_run.specs.SchemaHints.{schema_hints}

-- In all of this `held` says which bytes the file of a path may hold, and `may_fail` whether reading it may
-- fail.

-- the documents are those of files of a schema and of files behind them
abbrev pub AreBothAt : (List ℕ → List ℕ → Type 0) → List (List ℕ) → List (List ℕ) → List Document → Type 0
AreBothAt held schema_paths document_paths documents =
    AreDocumentsAt held 1 (schema_paths ++ document_paths) documents

-- of such documents those of the schema
abbrev pub schema_part : List (List ℕ) → List Document → List Document
schema_part schema_paths documents = take (length schema_paths) documents

-- of such documents those behind the schema
abbrev pub document_part : List (List ℕ) → List Document → List Document
document_part schema_paths documents = drop (length schema_paths) documents

-- the typed document of files over the schema of files, which has no options. Then the faults of that schema,
-- and those of the document, in which definitions of the type system are at fault. Then those of its leaves
-- that don't only repeat these, and the source files of both. Last the hints at documents that look like
-- files of a schema
pub record IsTyped (held : List ℕ → List ℕ
    → Type 0) (schema_paths document_paths : List (List ℕ)) (typed : TypedDocument) : Type 0 where
  -- the documents of all files
  pub documents : List Document
  pub read : AreBothAt held schema_paths document_paths documents
  pub means : MeansSchema 0 false (schema_list no_options (schema_part schema_paths documents)) typed.schema
  pub is : IsDocumentOf (Some typed.schema) (executable_list true (document_part schema_paths documents))
      typed.document
  pub schema_are : typed.findings.schema_faults.items
      ≡ faults_of false (schema_list no_options (schema_part schema_paths documents))
  pub are : typed.findings.document_faults.items
      ≡ document_faults (Some typed.schema) (executable_list true (document_part schema_paths documents))
  pub leaves_are : LeavesOut (IsEcho typed.findings.document_faults.items)
      (leaf_faults typed.schema typed.document) typed.findings.leaf_faults.items
  pub sources : typed.findings.sources
      ≡ merged (all_sources (schema_part schema_paths documents))
      (all_sources (document_part schema_paths documents))
  pub hints : string_bytes typed.hints ≡ schema_hints (document_part schema_paths documents)

-- why there is no such document. A file is refused, or the extensions of the schema spend the numbers. That
-- memory ran out says nothing of the files
abbrev pub IsTypedCause : Form → (List ℕ → List ℕ → Type 0) → (List ℕ → Type 0) → List (List ℕ)
    → List (List ℕ) → Failure → Type 0
IsTypedCause form held may_fail schema_paths document_paths (failures.Files printed) =
    IsFilesReport form held may_fail (schema_paths ++ document_paths) printed
IsTypedCause form held may_fail schema_paths document_paths (failures.Exhausted spent.Memory) = Unit {0}
IsTypedCause form held may_fail schema_paths document_paths (failures.Exhausted spent.ExtensionIds) =
    (documents : List Document)
    × (AreBothAt held schema_paths document_paths documents
    × SpendsIds 0 false (schema_list no_options (schema_part schema_paths documents)))
IsTypedCause form held may_fail schema_paths document_paths _ = ⊥
