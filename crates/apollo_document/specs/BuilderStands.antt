-- What a builder of documents stands for: GraphQL specification of October 2021, section 2.2.
use Rattle.std.specs.Prelude.{◌≡◌, Bool, List, [], ◌++◌, Option, None, Some, refl}
use Rattle.std.specs.Coded.{Coded, code_by, coded×, coded_bool, coded_list, coded_option}
use Rattle.graphql_nodes.specs.Sources.{Files, merged}
use Rattle.graphql_nodes.specs.contracts.source.FileId as numbers
use Rattle.graphql_nodes.specs.contracts.source.SourceFile as files
use Rattle.graphql_ast.specs.contracts.definition.Definition as definitions
use Rattle.graphql_ast.specs.declared.document.Document.{Document}
use Rattle.apollo_schema.specs.contracts.schema.Schema as schemas
use Rattle.apollo_schema.specs.declared.schema.Schema.{Schema}
use Rattle.apollo_executable.specs.declared.document.ExecutableDocument.{ExecutableDocument}
pub use Rattle.apollo_document.specs.AddedDefinitions.{DocumentItem}
use Rattle.apollo_document.specs.AddedDefinitions.{document_list}
use Rattle.apollo_document.specs.DocumentFaults.{document_faults}
use Rattle.apollo_document.specs.Documents.{IsDocumentOf}
use Rattle.apollo_document.specs.Typable.{Fault}

-- what was added, with the source files of the documents, until a call was refused
pub data Standing : Type 0 where
  Open : (list : List DocumentItem) → (sources : Files) → Standing
  Failed : Standing

-- a builder over this schema or without one, and how it stands
pub record Building : Type 0 where
  pub schema : Option Schema
  pub standing : Standing

-- what was added with its source files, if no call was refused
abbrev pub as_added : Standing → Option (List DocumentItem × Files)
as_added (Open xs files) = Some (xs, files)
as_added Failed = None

-- how a builder stands to which this was added
abbrev pub from_added : Option (List DocumentItem × Files) → Standing
from_added (Some added) = Open added.0 added.1
from_added None = Failed

-- each way to stand is told by what was added
pub as_added-back : (standing : Standing) → from_added (as_added standing) ≡ standing
as_added-back (Open xs files) = refl
as_added-back Failed = refl

-- builders can be told apart, as all that a reference refers to has to be
abbrev pub building_code : Coded Building
building_code = code_by (Option Schema × Option (List DocumentItem × Files))
    (coded× (coded_option schemas.the_row.coded)
    (coded_option (coded× (coded_list (coded× coded_bool definitions.the_row.coded))
    (coded_list (coded× numbers.the_row.coded files.the_row.coded)))))
    (λ b. (b.schema, as_added b.standing)) (λ p. record { schema = p.0; standing = from_added p.1 })
    (λ b i. record { schema = b.schema; standing = as_added-back b.standing i })

-- a builder over this schema or without one, to which nothing was added
abbrev pub building_over : Option Schema → Building
building_over schema = record { schema = schema; standing = Open [] [] }

-- with the definitions of a document behind what was added, and its source files; nothing changes after a
-- refusal
abbrev pub standing_with : Bool → Document → Standing → Standing
standing_with errors document (Open xs files) =
    Open (xs ++ document_list errors document.definitions) (merged files document.sources)
standing_with errors document Failed = Failed

-- the builder with a document more, whose definitions of the type system are at fault or aren't
abbrev pub with_document : Bool → Document → Building → Building
with_document errors document b = record b { standing = standing_with errors document b.standing }

-- the builder after a refusal: all that was added is dropped
abbrev pub refused : Building → Building
refused b = record b { standing = Failed }

-- a builder stands so after a refusal
abbrev pub IsFailed : Standing → Type 0
IsFailed (Open xs files) = ⊥
IsFailed Failed = Unit {0}

-- a call on the builder was refused
abbrev pub HasFailed : Building → Type 0
HasFailed b = IsFailed b.standing

-- no call was refused, and this is what was added
abbrev pub IsOpenWith : List DocumentItem → Standing → Type 0
IsOpenWith xs (Open list files) = list ≡ xs
IsOpenWith xs Failed = ⊥

-- the builder stands for this list, over this schema or without one
abbrev pub StandsFor : Option Schema → List DocumentItem → Building → Type 0
StandsFor schema xs b = (b.schema ≡ schema) × IsOpenWith xs b.standing

-- the document of this list, with these source files, and the list's faults in order
pub record IsBuiltOfList (schema : Option Schema) (xs : List DocumentItem) (files : Files)
    (document : ExecutableDocument) (faults : List Fault) : Type 0 where
  pub means : IsDocumentOf schema xs document
  pub its_sources : document.sources ≡ files
  pub its_faults : faults ≡ document_faults schema xs

-- the document and the faults of what was added; after a refusal there is none
abbrev pub IsBuiltOfStanding : Option Schema → Standing → ExecutableDocument → List Fault → Type 0
IsBuiltOfStanding schema (Open xs files) document faults = IsBuiltOfList schema xs files document faults
IsBuiltOfStanding schema Failed document faults = ⊥

-- the document and the faults that a builder builds
abbrev pub IsBuiltOf : Building → ExecutableDocument → List Fault → Type 0
IsBuiltOf b document faults = IsBuiltOfStanding b.schema b.standing document faults
