-- What the law of the texts of documents takes from the laws below: GraphQL specification of October 2021,
-- sections 2.2 to 2.8.
use Rattle.std.specs.Prelude.{◌≡◌, ◌≢◌, Bool, List, [], Option, map}
use Rattle.graphql_nodes.specs.NameView.{NameView}
use Rattle.graphql_ast.specs.BareDocuments.{bare_definition}
use Rattle.graphql_ast.specs.declared.definition.Definition.{Definition}
use Rattle.graphql_ast.specs.declared.selection.Selection.{Selection}
use Rattle.graphql_productions.specs.DefinitionTreeParts.{document_parts}
use Rattle.graphql_productions.specs.WellFormed.{IsWellFormed}
use Rattle.graphql_printing.specs.Documents.{definitions_text}
use Rattle.apollo_schema.specs.declared.schema.Schema.{Schema}
use Rattle.apollo_executable.specs.Erasure.{erased_definitions, erased_set}
use Rattle.apollo_executable.specs.declared.document.ExecutableDocument.{ExecutableDocument}
use Rattle.apollo_executable.specs.declared.selection.SelectionSet.{SelectionSet}
use Rattle.apollo_document.specs.Elaborated.{elaborated}
use Rattle.apollo_document.specs.Stripped.{stripped}
use Rattle.apollo_document.specs.TypedSelections.{IsTypedSet}
use Rattle.apollo_document.specs.AddedDefinitions.{DocumentItem, document_list}
use Rattle.apollo_document.specs.Documents.{IsDocumentOf}
use Rattle.apollo_document.specs.WrittenAgain.{IsBuiltAgain, ambiguous_again, faults_again}
use Rattle.apollo_canonical.specs.SchemaTextLaws.{ReadingLaws}
use Rattle.apollo_canonical.specs.FilledSets.{IsFilledDocument}
use Rattle.apollo_canonical.specs.HandedIn.{HasWellFormedExecutables}

-- what the law of equal lists takes: of typed sets and of printing
pub record ListLaws : Type 0 where
  -- nothing but what selections are elaborated to is erased to the typable ones of them, and typed
  pub one_set : (schema : Option Schema) (ty : NameView) (xs : List Selection) (set : SelectionSet)
      → erased_set set ≡ stripped schema ty xs
      → IsTypedSet schema ty set → set ≡ elaborated schema ty xs
  -- equal trees have one text
  pub one_text : (x y : List Definition) → map bare_definition x ≡ map bare_definition y
      → definitions_text x ≡ definitions_text y

-- the laws below: of reading, of printing, and of what documents are written out as
pub record DocumentTextLaws : Type 0 where
  -- what the law of equal lists takes
  pub lists : ListLaws
  -- what is read, also of a text that was printed
  pub reading : ReadingLaws
  -- the operations and fragments of a well-formed document are well-formed
  pub executables : (errors : Bool) (ds : List Definition) → IsWellFormed (document_parts ds)
      → HasWellFormedExecutables (document_list errors ds)
  -- the write-out of a typed document of such a list is, where no set is empty that wants a selection
  pub written_well : (schema : Option Schema) (xs : List DocumentItem) (document : ExecutableDocument)
      → IsDocumentOf schema xs document → HasWellFormedExecutables xs → IsFilledDocument document
      → erased_definitions document ≢ []
      → IsWellFormed (document_parts (erased_definitions document))
  -- each list means a document
  pub some_document : (schema : Option Schema) (xs : List DocumentItem)
      → (document : ExecutableDocument) × IsDocumentOf schema xs document
  -- a write-out means the document itself
  pub itself : (schema : Option Schema) (xs : List DocumentItem) (errors : Bool)
      (document : ExecutableDocument)
      → IsDocumentOf schema xs document → IsBuiltAgain schema errors document document
  -- nothing is wrong with it but an operation without a name beside named ones
  pub faults : (schema : Option Schema) (xs : List DocumentItem) (errors : Bool)
      (document : ExecutableDocument)
      → IsDocumentOf schema xs document
      → faults_again schema errors document ≡ ambiguous_again document.operations
