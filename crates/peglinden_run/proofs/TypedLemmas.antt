-- Documents of files, typed over the schema of files.
use Rattle.std.proofs.Common.{◌≡◌, ℕ, ◌≤◌, true, List, ◌++◌, Some, length, length-append, string_bytes, ap}
use Rattle.std.proofs.Common.{◌∙◌}
use Rattle.std.proofs.Common.{arith}
use Rattle.std.proofs.lemmas.List.{length-map, map-append}
use Rattle.std.specs.Borrow.{Bor}
use Rattle.graphql_nodes.specs.Sources.{merged}
use Rattle.graphql_ast.specs.declared.document.Document.{Document}
use Rattle.apollo_schema.specs.MeantSchema.{MeansSchema}
use Rattle.apollo_meaning.specs.Faults.ListFaults.{faults_of}
use Rattle.apollo_document.specs.Documents.{IsDocumentOf}
use Rattle.apollo_document.specs.DocumentFaults.{document_faults}
use Rattle.apollo_compiler.specs.Lists.{all_sources, executable_list, no_options, schema_list}
use Rattle.apollo_compiler.specs.declared.compile_options.CompileOptions.{CompileOptions}
use Rattle.leafcheck.specs.LeafFaults.{leaf_faults}
use Rattle.peglinden_run.specs.declared.typed_documents.TypedDocument.{TypedDocument}
use Rattle.peglinden_run.specs.Documents.{AreDocumentsAt, texts_of}
use Rattle.peglinden_run.specs.TypedDocuments.{AreBothAt, IsTyped, document_part, schema_part}
use Rattle.peglinden_run.specs.Echoes.{IsEcho, LeavesOut}
use Rattle.peglinden_run.specs.SchemaHints.{schema_hints}
use Rattle.peglinden_run.proofs.DocumentLemmas.{documents-length}

-- there are as many texts as words
pub texts-length : (words : List (Bor (List ℕ))) → length (texts_of words) ≡ length words
texts-length words = length-map words _

-- what was read of both lists of files
pub both-read : (held : List ℕ → List ℕ → Type 0) (first second whole : List (Bor (List ℕ)))
    (documents : List Document) → whole ≡ first ++ second → AreDocumentsAt held 1 (texts_of whole) documents
    → AreBothAt held (texts_of first) (texts_of second) documents
both-read held first second whole documents is are = rw (ap texts_of is ∙ map-append _ first second) at are

-- the files of the schema are among them
pub first-fits : (held : List ℕ → List ℕ → Type 0) (first second : List (Bor (List ℕ)))
    (documents : List Document) → AreBothAt held (texts_of first) (texts_of second) documents
    → length first ≤ length documents
first-fits held first second documents are = omega (
  arith,
  documents-length held 1 (texts_of first ++ texts_of second) documents are,
  length-append (texts_of first) (texts_of second),
  texts-length first,
)

-- what was built of both parts
pub typed-of : (held : List ℕ → List ℕ → Type 0) (schema_paths document_paths : List (List ℕ)) (documents
    first second : List Document) (given : CompileOptions) (typed : TypedDocument)
    → given ≡ no_options → first ≡ schema_part schema_paths documents
    → second ≡ document_part schema_paths documents → AreBothAt held schema_paths document_paths documents
    → MeansSchema 0 given.adopt_orphan_extensions (schema_list given first) typed.schema
    → typed.findings.schema_faults.items ≡ faults_of given.adopt_orphan_extensions (schema_list given first)
    → IsDocumentOf (Some typed.schema) (executable_list true second) typed.document
    → typed.findings.document_faults.items ≡ document_faults (Some typed.schema) (executable_list true second)
    → LeavesOut (IsEcho typed.findings.document_faults.items) (leaf_faults typed.schema typed.document)
    typed.findings.leaf_faults.items
    → typed.findings.sources ≡ merged (all_sources first) (all_sources second)
    → string_bytes typed.hints ≡ schema_hints second
    → IsTyped held schema_paths document_paths typed
typed-of held schema_paths document_paths documents first second given typed same front back read means
    schema_are is are leaves_are sources hints = record {
      documents = documents;
      read = read;
      means = rw (same, front) at means;
      is = rw back at is;
      schema_are = rw (same, front) at schema_are;
      are = rw back at are;
      leaves_are = leaves_are;
      sources = rw (front, back) at sources;
      hints = rw back at hints;
    }
