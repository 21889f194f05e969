-- What documents are compiled to: GraphQL specification of October 2021, sections 2.2 to 2.8 and 3.
use Rattle.std.specs.Prelude.{◌≡◌, Bool, false, true, List, [], Some}
use Rattle.graphql_ast.specs.declared.document.Document.{Document}
use Rattle.apollo_meaning.specs.Faults.Collisions.{Fault}
use Rattle.apollo_meaning.specs.Faults.ListFaults.{faults_of}
use Rattle.apollo_schema.specs.EqualSchemas.{AreEqualSchemas}
use Rattle.apollo_schema.specs.MeantSchema.{MeansSchema}
use Rattle.apollo_schema.specs.SchemaWriteOut.{write_schema}
use Rattle.apollo_schema.specs.declared.schema.Schema.{Schema}
use Rattle.apollo_schema_laws.specs.WrittenAgain.{written_again}
use Rattle.apollo_executable.specs.Erasure.{erased_document}
use Rattle.apollo_document.specs.DocumentFaults.{document_faults as faults_of_document}
use Rattle.apollo_document.specs.Documents.{IsDocumentOf}
use Rattle.apollo_compiler.specs.Lists.{all_sources, executable_list, schema_list}
use Rattle.apollo_compiler.specs.declared.compile_options.CompileOptions.{CompileOptions}
use Rattle.apollo_compiler.specs.declared.compiled.Compiled.{Compiled}

-- these documents are built to this schema with these options, with these faults
pub record AreBuilt (options : CompileOptions) (documents : List Document) (schema : Schema)
    (found : List Fault) : Type 0 where
  -- the schema that the list means, with its extensions numbered from 0
  pub means : MeansSchema 0 options.adopt_orphan_extensions (schema_list options documents) schema
  -- its source files are those of the documents
  pub sources : schema.sources ≡ all_sources documents
  -- the faults of the list
  pub faults : found ≡ faults_of options.adopt_orphan_extensions (schema_list options documents)

-- these documents are compiled to this, with these options, and with definitions of the type system at fault
-- in executable documents, or not
pub record IsCompiled (options : CompileOptions) (schema_documents executable_documents : List Document)
    (errors : Bool) (c : Compiled) : Type 0 where
  -- the schema that the list means, with its extensions numbered from 0
  pub schema : MeansSchema 0 options.adopt_orphan_extensions (schema_list options schema_documents) c.schema
  -- its source files are those of the schema documents
  pub schema_sources : c.schema.sources ≡ all_sources schema_documents
  -- the faults of the list
  pub schema_faults : c.schema_faults.items
      ≡ faults_of options.adopt_orphan_extensions (schema_list options schema_documents)
  -- what the schema is written out as
  pub ast : c.ast.items ≡ write_schema c.schema
  -- the schema that the write-out alone means, with adoption, numbered from 0 as well
  pub rebuilt : MeansSchema 0 true (written_again false c.schema) c.rebuilt
  -- it has no source files, as the write-out has none
  pub rebuilt_sources : c.rebuilt.sources ≡ []
  -- the faults of the write-out
  pub rebuilt_faults : c.rebuilt_faults.items ≡ faults_of true (written_again false c.schema)
  -- what the schema of the write-out is written out as
  pub rebuilt_ast : c.rebuilt_ast.items ≡ write_schema c.rebuilt
  -- the document that the executable documents mean over the schema
  pub document : IsDocumentOf (Some c.schema) (executable_list errors executable_documents) c.document
  -- its source files are those of the executable documents
  pub document_sources : c.document.sources ≡ all_sources executable_documents
  -- the faults of the executable documents over the schema
  pub document_faults : c.document_faults.items
      ≡ faults_of_document (Some c.schema) (executable_list errors executable_documents)
  -- what the document is erased to
  pub erased : c.erased ≡ erased_document c.document

-- the rebuild is without fault, equal, and written out the same
pub record IsRebuiltAsItWas (c : Compiled) : Type 0 where
  pub faultless : c.rebuilt_faults.items ≡ []
  pub equal : AreEqualSchemas c.rebuilt c.schema
  pub same : c.rebuilt_ast.items ≡ c.ast.items
