-- What the law of texts takes from the laws below: GraphQL specification of October 2021, sections 2 and 3.
use Rattle.std.specs.Prelude.{◌≡◌, ◌≢◌, ◌≤◌, ℕ, Bool, true, List, [], Some, length, map}
use Rattle.std.specs.List.{AllByRecursion}
use Rattle.graphql_nodes.specs.declared.source.FileId.{FileId}
use Rattle.graphql_ast.specs.BareDocuments.{bare_definition}
use Rattle.graphql_ast.specs.declared.definition.Definition.{Definition}
use Rattle.graphql_grammar.specs.Words.{WordView}
use Rattle.graphql_grammar.specs.WordsOfText.{words_of}
use Rattle.graphql_productions.specs.DefinitionTreeParts.{document_parts}
use Rattle.graphql_productions.specs.Documents.{spells_document}
use Rattle.graphql_productions.specs.Places.{IsNowhereBuiltIn}
use Rattle.graphql_productions.specs.WellFormed.{IsWellFormed}
use Rattle.graphql_printing.specs.Documents.{definitions_text}
use Rattle.graphql_round_trip.specs.Nesting.{document_nesting}
use Rattle.graphql_round_trip.specs.ReadAgain.{SpellEqual}
use Rattle.apollo_meaning.specs.Faults.ListFaults.{faults_of}
use Rattle.apollo_meaning.specs.Items.ListItems.{Added, ListItem}
use Rattle.apollo_meaning.specs.Items.Named.{extensions_of, first, first_schema, of_kind, schema_extensions}
use Rattle.apollo_meaning.specs.Items.Parts.{SchemaPart, TypePart, kind_of}
use Rattle.apollo_meaning.specs.Order.Places.{folding_order}
use Rattle.apollo_meaning.specs.Schema.Definition.{schema_sourced}
use Rattle.apollo_meaning.specs.Types.Meaning.{extensions_with_origin}
use Rattle.apollo_schema_laws.specs.Equal.{AreEqualLists}
use Rattle.apollo_schema_laws.specs.BuiltAlike.{MeanEqualSchemas}
use Rattle.apollo_schema.specs.EqualSchemas.{AreEqualSchemas}
use Rattle.apollo_schema.specs.MeantSchema.{MeansSchema}
use Rattle.apollo_schema.specs.SchemaWriteOut.{write_schema}
use Rattle.apollo_schema.specs.declared.schema.Schema.{Schema}
use Rattle.apollo_schema_laws.specs.WrittenAgain.{IsMeantByList, with_built_ins, written_again}
use Rattle.apollo_canonical.specs.WellFormedLists.{AreWellFormed, IsWellFormedDefinition}

-- the laws of what is read, and of what is read of a text that was printed
pub record ReadingLaws : Type 0 where
  -- what is read is well-formed
  pub formed : (file : FileId) (depth allowed : ℕ) (text : List ℕ) (x : List Definition)
      → spells_document file depth x (words_of allowed text) → IsWellFormed (document_parts x)
  -- words spell one document
  pub one_tree : (file : FileId) (depth : ℕ) (words : List WordView) (a b : List Definition)
      → spells_document file depth a words → spells_document file depth b words → a ≡ b
  -- the text of a well-formed document is read as an equal one
  pub read_again : (file : FileId) (depth allowed : ℕ) (x : List Definition) → IsWellFormed (document_parts x)
      → document_nesting x ≤ depth → length (definitions_text x) ≤ allowed
      → SpellEqual (spells_document file depth) (map bare_definition) x
      (words_of allowed (definitions_text x))

-- the laws below: of reading, of printing, and of what schemas are written out as
pub record TextLaws : Type 0 where
  pub reading : ReadingLaws
  -- a location in a file whose number isn't 0 is not marked built-in
  pub nowhere : (file : FileId) (depth : ℕ) (words : List WordView) (x : List Definition) → file.0 ≢ 0
      → spells_document file depth x words → IsNowhereBuiltIn (document_parts x)
  -- equal documents have one text
  pub one_text : (x y : List Definition) → map bare_definition x ≡ map bare_definition y
      → definitions_text x ≡ definitions_text y
  -- well-formed definitions make a well-formed document
  pub joined : (ds : List Definition) → ds ≢ [] → AllByRecursion IsWellFormedDefinition ds
      → IsWellFormed (document_parts ds)
  -- the write-out of well-formed definitions is well-formed
  pub written_well : (start : ℕ) (adopts : Bool) (more : List Added) (schema : Schema)
      → MeansSchema start adopts (with_built_ins more) schema → AreWellFormed more
      → AllByRecursion IsWellFormedDefinition (write_schema schema)
  -- each list means a schema
  pub some_schema : (start : ℕ) (adopts : Bool) (xs : List Added)
      → (schema : Schema) × MeansSchema start adopts xs schema
  -- equal lists mean equal schemas
  pub equal_lists : (adopts : Bool) (xs ys : List Added) → AreEqualLists xs ys → MeanEqualSchemas adopts xs ys
  -- a write-out has no fault
  pub none : (schema : Schema) → IsMeantByList schema → (ignores : Bool)
      → faults_of true (written_again ignores schema) ≡ []
  -- a write-out means an equal schema
  pub same : (schema rebuilt : Schema) → IsMeantByList schema → (ignores : Bool) (again : ℕ)
      → MeansSchema again true (written_again ignores schema) rebuilt → AreEqualSchemas rebuilt schema
  -- and that is written out in the same way
  pub same_written : (schema rebuilt : Schema) → IsMeantByList schema → (ignores : Bool) (again : ℕ)
      → MeansSchema again true (written_again ignores schema) rebuilt
      → write_schema rebuilt ≡ write_schema schema
  -- the extensions that are folded for a name are those of its kind, in order
  pub by_kind : (start : ℕ) (xs : List ListItem) (n : List ℕ) (d : TypePart) → first xs n ≡ Some d
      → map (λ s. s.1) (extensions_with_origin n start (folding_order xs))
      ≡ of_kind (kind_of d) (extensions_of xs n)
  -- and those that are folded for the schema are all of its extensions, in order
  pub all_folded : (start : ℕ) (xs : List ListItem) (s : SchemaPart) → first_schema xs ≡ Some s
      → map (λ e. e.1) (schema_sourced start (folding_order xs)) ≡ schema_extensions xs
