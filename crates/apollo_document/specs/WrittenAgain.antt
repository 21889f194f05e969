-- What is wrong with the write-out of a built document: GraphQL specification of October 2021, section 2.3.
use Rattle.std.specs.Prelude.{◌≡◌, Bool, List, Option, option_map}
use Rattle.std.specs.List.{flat_map}
use Rattle.apollo_executable.specs.declared.operation_map.OperationMap.{OperationMap}
use Rattle.apollo_schema.specs.declared.schema.Schema.{Schema}
use Rattle.apollo_document.specs.Typable.{Fault}
use Rattle.apollo_executable.specs.Erasure.{erased_definitions}
use Rattle.apollo_executable.specs.declared.document.ExecutableDocument.{ExecutableDocument}
use Rattle.apollo_document.specs.AddedDefinitions.{DocumentItem, document_list}
use Rattle.apollo_document.specs.DocumentFaults.{ambiguous_if, document_faults}
use Rattle.apollo_document.specs.Documents.{IsDocumentOf}

-- a document's write-out as a list, with one setting for definitions of the type system
abbrev pub list_again : Bool → ExecutableDocument → List DocumentItem
list_again errors document = document_list errors (erased_definitions document)

-- the write-out is built to this document
abbrev pub IsBuiltAgain : Option Schema → Bool → ExecutableDocument → ExecutableDocument → Type 0
IsBuiltAgain s errors document again = IsDocumentOf s (list_again errors document) again

-- what is wrong with the write-out
abbrev pub faults_again : Option Schema → Bool → ExecutableDocument → List Fault
faults_again s errors document = document_faults s (list_again errors document)

-- all but the sources is the same
abbrev pub AreOneButSources : ExecutableDocument → ExecutableDocument → Type 0
AreOneButSources a b = a ≡ record b { sources = a.sources }

-- the anonymous operation, if there is one, is ambiguous once for each named one
abbrev pub ambiguous_again : OperationMap → List Fault
ambiguous_again m = flat_map (λ e. ambiguous_if (option_map (λ a. a.location) m.anonymous)) m.named
