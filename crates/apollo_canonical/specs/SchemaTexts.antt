-- Schemas that are built of texts, and their texts: GraphQL specification of October 2021, sections 2 and 3.
use Rattle.std.specs.Prelude.{◌≡◌, ◌≢◌, ◌≤◌, ℕ, Bool, false, true, List, [], flat_map, length}
use Rattle.std.specs.List.{AllByRecursion}
use Rattle.graphql_nodes.specs.declared.source.FileId.{FileId}
use Rattle.graphql_ast.specs.declared.definition.Definition.{Definition}
use Rattle.graphql_grammar.specs.WordsOfText.{words_of}
use Rattle.graphql_productions.specs.Documents.{spells_document}
use Rattle.graphql_printing.specs.Documents.{definitions_text}
use Rattle.graphql_round_trip.specs.Nesting.{document_nesting}
use Rattle.apollo_meaning.specs.Faults.ListFaults.{faults_of}
use Rattle.apollo_meaning.specs.Items.ListItems.{Added, added}
use Rattle.apollo_schema.specs.EqualSchemas.{AreEqualSchemas}
use Rattle.apollo_schema.specs.MeantSchema.{MeansSchema}
use Rattle.apollo_schema.specs.SchemaWriteOut.{write_schema}
use Rattle.apollo_schema.specs.declared.schema.Schema.{Schema}
use Rattle.apollo_schema_laws.specs.WrittenAgain.{with_built_ins}

-- a reading of a text: its file, how many signs may be open at once, and how many tokens are allowed
pub record Reading : Type 0 where
  pub file : FileId
  pub depth : ℕ
  pub allowed : ℕ
  pub text : List ℕ

-- the text is read as these definitions, in a file that is not the one of built-in definitions
pub record Reads (r : Reading) (definitions : List Definition) : Type 0 where
  pub handed_in : r.file.0 ≢ 0
  pub spelled : spells_document r.file r.depth definitions (words_of r.allowed r.text)

-- a text that is added to a schema or a document: how it is read, what it is read as, and the setting under
-- which that is added
pub record AddedText : Type 0 where
  pub reading : Reading
  pub definitions : List Definition
  pub setting : Bool

-- each text is read as its definitions
abbrev pub AreRead : List AddedText → Type 0
AreRead = AllByRecursion (λ t. Reads t.reading t.definitions)

-- what texts add to a schema, one after the other: the setting of each says whether redefinitions of built-in
-- types are ignored
abbrev pub added_texts : List AddedText → List Added
added_texts = flat_map (λ t. added t.setting t.definitions)

-- a schema that is built of texts, with extensions numbered from some number and any setting of adoption. It
-- is whole or what could be built of texts with faults
pub record IsBuiltOfTexts (schema : Schema) : Type 0 where
  pub texts : List AddedText
  pub read : AreRead texts
  -- the number of the first extension that is folded
  pub start : ℕ
  -- whether names that are extended only are adopted
  pub adopts : Bool
  pub means : MeansSchema start adopts (with_built_ins (added_texts texts)) schema

-- the text of a schema: its write-out, printed
abbrev pub schema_text : Schema → List ℕ
schema_text schema = definitions_text (write_schema schema)

-- a reading of the text of definitions in which nothing is refused for its size. The text may nest as deep as
-- they do, and have as many tokens as it has bytes
pub record IsReadingOfDefinitions (ds : List Definition) (r : Reading) : Type 0 where
  pub text : r.text ≡ definitions_text ds
  pub deep : document_nesting ds ≤ r.depth
  pub long : length r.text ≤ r.allowed

-- such a reading of the schema's text
abbrev pub IsReadingOf : Schema → Reading → Type 0
IsReadingOf schema = IsReadingOfDefinitions (write_schema schema)

-- definitions that are added after the built-in ones, with adoption. They have no fault and mean a schema
-- that is equal to this one and has its text, however extensions are numbered
pub record BuildAgain (schema : Schema) (definitions : List Definition) : Type 0 where
  pub faultless : faults_of true (with_built_ins (added false definitions)) ≡ []
  -- there is a schema that they mean
  pub means : (start : ℕ)
      → (again : Schema) × MeansSchema start true (with_built_ins (added false definitions)) again
  -- each is equal to this one
  pub equal : (start : ℕ) (again : Schema)
      → MeansSchema start true (with_built_ins (added false definitions)) again
      → AreEqualSchemas again schema
  -- and has its text
  pub text : (start : ℕ) (again : Schema)
      → MeansSchema start true (with_built_ins (added false definitions)) again
      → schema_text again ≡ schema_text schema
