-- The document that is built of a list of definitions, over a schema value or without a schema: GraphQL
-- specification of October 2021, sections 2.2 to 2.8.
use Rattle.std.specs.Prelude.{◌≡◌, List, Option}
use Rattle.std.specs.List.{AllZip}
use Rattle.graphql_nodes.specs.NameView.{NameView}
use Rattle.apollo_schema.specs.declared.schema.Schema.{Schema}
use Rattle.apollo_executable.specs.Listed.{listed}
use Rattle.apollo_executable.specs.declared.document.ExecutableDocument.{ExecutableDocument}
use Rattle.apollo_document.specs.AddedDefinitions.{DocumentItem}
use Rattle.apollo_document.specs.KeptDefinitions.{kept_anonymous, kept_named, kept_fragments}
use Rattle.apollo_document.specs.TypedDefinitions.{IsOperationOf, IsFragmentOf}

-- an entry under the name of a kept definition, which is what R says of that
abbrev pub IsUnderName : {A B : Type 0} → (A → B → Type 0) → NameView × A → NameView × B → Type 0
IsUnderName R kept entry = (entry.0 ≡ kept.0) × R kept.1 entry.1

-- the operations and fragments are the kept ones of the list, each at its place among them
pub record IsDocumentOf (s : Option Schema) (xs : List DocumentItem) (document : ExecutableDocument) :
    Type 0 where
  -- the kept anonymous operation, typed, if there is one
  pub anonymous : AllZip (IsOperationOf s) (listed (kept_anonymous s xs))
      (listed document.operations.anonymous)
  -- the kept named operations, typed, each under its name
  pub named : AllZip (IsUnderName (IsOperationOf s)) (kept_named s xs) document.operations.named
  -- the kept fragments, typed, each under its name
  pub fragments : AllZip (IsUnderName (IsFragmentOf s)) (kept_fragments s xs) document.fragments
