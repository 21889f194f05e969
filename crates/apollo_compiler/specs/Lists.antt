-- The lists that documents make: GraphQL specification of October 2021, sections 2.2 and 3.
use Rattle.std.specs.Prelude.{◌≡◌, Bool, false, List, [], Some}
use Rattle.std.specs.List.{flat_map, fold}
use Rattle.graphql_nodes.specs.Sources.{Files, merged}
use Rattle.graphql_ast.specs.declared.definition.Definition.{Definition}
use Rattle.graphql_ast.specs.declared.document.Document.{Document}
use Rattle.apollo_meaning.specs.Items.ListItems.{Added, added}
use Rattle.apollo_schema.specs.BuilderStands as schemas
use Rattle.apollo_schema.specs.BuilderStands.{with_built_ins}
use Rattle.apollo_schema.specs.declared.schema.Schema.{Schema}
use Rattle.apollo_document.specs.AddedDefinitions.{DocumentItem, document_list}
use Rattle.apollo_document.specs.BuilderStands as documents
use Rattle.apollo_compiler.specs.declared.compile_options.CompileOptions.{CompileOptions}
use Rattle.apollo_compiler.specs.declared.executable_options.ExecutableOptions.{ExecutableOptions}

-- neither names that are extended only are adopted, nor redefinitions of built-in types ignored
abbrev pub no_options : CompileOptions
no_options = record { adopt_orphan_extensions = false; ignore_builtin_redefinitions = false }

-- definitions of the type system in executable documents are passed over
abbrev pub no_executable_options : ExecutableOptions
no_executable_options = record { type_system_definitions_are_errors = false }

-- the definitions of all documents, in order
abbrev pub all_definitions : List Document → List Definition
all_definitions documents = flat_map (λ (document : Document). document.definitions) documents

-- a document without definitions and source files
abbrev pub IsEmpty : Document → Type 0
IsEmpty document = (document.definitions ≡ []) × (document.sources ≡ [])

-- source files, and those of one document more
abbrev pub with_sources : Files → Document → Files
with_sources files document = merged files document.sources

-- the source files of all documents
abbrev pub all_sources : List Document → Files
all_sources documents = fold with_sources [] documents

-- the definitions of schema documents, added with these options
abbrev pub handed_in : CompileOptions → List Document → List Added
handed_in options documents = added options.ignore_builtin_redefinitions (all_definitions documents)

-- the list that a schema is built of: the built-in definitions, and then those of the documents
unfoldable pub schema_list : CompileOptions → List Document → List Added
schema_list options documents = with_built_ins (handed_in options documents)

-- the list that a typed document is built of, in which definitions of the type system are at fault, or are
-- not
abbrev pub executable_list : Bool → List Document → List DocumentItem
executable_list errors documents = document_list errors (all_definitions documents)

-- a builder of a schema with these options, with its extensions numbered from 0, to which these documents
-- were added
abbrev pub building_of : CompileOptions → List Document → schemas.Building
building_of options documents = record {
  start = 0;
  adopts = options.adopt_orphan_extensions;
  ignores = options.ignore_builtin_redefinitions;
  standing = schemas.Open (schema_list options documents) (all_sources documents);
}

-- a builder of a typed document over this schema, to which these documents were added
abbrev pub document_building_of : Schema → Bool → List Document → documents.Building
document_building_of schema errors added = record {
  schema = Some schema;
  standing = documents.Open (executable_list errors added) (all_sources added);
}
