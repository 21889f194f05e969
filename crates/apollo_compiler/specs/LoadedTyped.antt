-- Typed documents of files: GraphQL specification of October 2021, sections 2.2 to 2.8.
use Rattle.std.specs.Prelude.{◌≡◌, ℕ, suc, Bool, List, [], ◌∷◌, Option, None, Some, IsSomeAnd, length}
use Rattle.std.specs.List.{filter_map}
use Rattle.graphql_nodes.specs.Sources.{merged}
use Rattle.graphql_ast.specs.declared.document.Document.{Document}
use Rattle.apollo_schema.specs.declared.schema.Schema.{Schema}
use Rattle.apollo_executable.specs.declared.document.ExecutableDocument.{ExecutableDocument}
use Rattle.apollo_document.specs.DocumentFaults.{document_faults}
use Rattle.apollo_document.specs.Documents.{IsDocumentOf}
use Rattle.apollo_document.specs.Typable.{Fault}
use Rattle.apollo_compiler.specs.Lists.{all_sources, executable_list}
use Rattle.apollo_compiler.specs.LoadedSchemas.{usual}
use Rattle.apollo_compiler.specs.Loading.{AreReadings, document_of, refusal_of, sources_from}
use Rattle.apollo_compiler.specs.declared.executable_options.ExecutableOptions.{ExecutableOptions}
use Rattle.apollo_compiler.specs.declared.loaded_document.LoadedDocument.{LoadedDocument}
use Rattle.apollo_compiler.specs.declared.reading.Reading.{Reading}

-- the typed document of these documents over a schema, with its faults; definitions of the type system are
-- at fault in them, or are not
pub record IsTypedOver (schema : Schema) (errors : Bool) (documents : List Document)
    (faults : List Fault) (typed : ExecutableDocument) : Type 0 where
  pub means : IsDocumentOf (Some schema) (executable_list errors documents) typed
  -- its source files are those of the documents
  pub sources : typed.sources ≡ all_sources documents
  pub faults_of : faults ≡ document_faults (Some schema) (executable_list errors documents)

-- where nothing is refused, that document and its faults; else no document, and no faults
abbrev pub IsTypedUnless : {R : Type 0} → List R → Schema → Bool → List Document → Option ExecutableDocument
    → List Fault → Type 0
IsTypedUnless [] schema errors documents typed faults =
    IsSomeAnd typed (IsTypedOver schema errors documents faults)
IsTypedUnless (refusal ∷ refusals) schema errors documents typed faults = (typed ≡ None) × (faults ≡ [])

-- the typed document of the files of these paths over a schema, with all that is wrong with them
pub record IsLoadedDocument (held : List ℕ → List ℕ → Type 0) (may_fail : List ℕ
    → Type 0) (schema : Schema) (options : ExecutableOptions) (paths : List (List ℕ))
    (loaded : LoadedDocument)
    : Type 0 where
  -- what became of each file
  pub readings : List Reading
  pub are : AreReadings held may_fail usual (suc (length schema.sources)) paths readings
  -- all refusals
  pub refused : loaded.refused.items ≡ filter_map refusal_of readings
  -- the files of the schema, and those that could be read
  pub sources : loaded.sources
      ≡ merged schema.sources (sources_from (suc (length schema.sources)) readings)
  pub built : IsTypedUnless (filter_map refusal_of readings) schema
      options.type_system_definitions_are_errors (filter_map document_of readings) loaded.document
      loaded.faults.items
