-- Typed documents that are built of texts, and their texts: GraphQL specification of October 2021, sections
-- 2.2 to 2.8.
use Rattle.std.specs.Prelude.{◌≡◌, ◌⊎◌, ℕ, Bool, List, [], Option, None, flat_map}
use Rattle.graphql_ast.specs.declared.definition.Definition.{Definition}
use Rattle.graphql_printing.specs.Documents.{definitions_text}
use Rattle.apollo_schema.specs.declared.schema.Schema.{Schema}
use Rattle.apollo_executable.specs.Erasure.{erased_definitions}
use Rattle.apollo_executable.specs.declared.document.ExecutableDocument.{ExecutableDocument}
use Rattle.apollo_document.specs.AddedDefinitions.{DocumentItem, document_list}
use Rattle.apollo_document.specs.DocumentFaults.{document_faults}
use Rattle.apollo_document.specs.Documents.{IsDocumentOf}
use Rattle.apollo_document.specs.WrittenAgain.{ambiguous_again}
use Rattle.apollo_canonical.specs.SchemaTexts.{AddedText, AreRead, IsReadingOfDefinitions, Reading}
use Rattle.apollo_canonical.specs.EqualDocuments.{AreEqualDocuments, AreEqualInOrder, bare_faults}

-- what texts add to a document, one after the other: the setting of each says whether definitions of the type
-- system in it are at fault
abbrev pub added_documents : List AddedText → List DocumentItem
added_documents = flat_map (λ t. document_list t.setting t.definitions)

-- a document that is built of texts, typed over this schema value or without one, whole or what could be
-- built of texts with faults
pub record IsDocumentOfTexts (schema : Option Schema) (document : ExecutableDocument) : Type 0 where
  pub texts : List AddedText
  pub read : AreRead texts
  pub means : IsDocumentOf schema (added_documents texts) document

-- the text of a document: its write-out, printed
abbrev pub document_text : ExecutableDocument → List ℕ
document_text document = definitions_text (erased_definitions document)

-- a reading of the document's text in which nothing is refused for its size
abbrev pub IsReadingOfDocument : ExecutableDocument → Reading → Type 0
IsReadingOfDocument document = IsReadingOfDefinitions (erased_definitions document)

-- definitions that mean a document that is equal to this one and has its text. That is over the schema that
-- this one was typed over, or without one if it was typed without. It is so whether or not definitions of the
-- type system are at fault
pub record BuildDocumentAgain (schema : Option Schema) (document : ExecutableDocument)
    (definitions : List Definition) : Type 0 where
  -- there is a document that they mean
  pub means : (errors : Bool)
      → (again : ExecutableDocument) × IsDocumentOf schema (document_list errors definitions) again
  -- each is equal to this one
  pub equal : (errors : Bool) (again : ExecutableDocument)
      → IsDocumentOf schema (document_list errors definitions) again
      → AreEqualDocuments again document
  -- with operations and fragments in its order
  pub ordered : (errors : Bool) (again : ExecutableDocument)
      → IsDocumentOf schema (document_list errors definitions) again
      → AreEqualInOrder again document
  -- and has its text
  pub text : (errors : Bool) (again : ExecutableDocument)
      → IsDocumentOf schema (document_list errors definitions) again
      → document_text again ≡ document_text document
  -- what is wrong with them is what is wrong with the write-out. The operation without a name is ambiguous,
  -- once for each named one that stands beside it
  pub faults : (errors : Bool)
      → bare_faults (document_faults schema (document_list errors definitions))
      ≡ bare_faults (ambiguous_again document.operations)
  -- and nothing is, where there is none without a name, or no named one
  pub faultless : (errors : Bool) → (document.operations.anonymous ≡ None) ⊎ (document.operations.named ≡ [])
      → document_faults schema (document_list errors definitions) ≡ []
