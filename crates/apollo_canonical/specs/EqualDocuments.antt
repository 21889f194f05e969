-- Lists of definitions that are equal but for locations, and documents that are: GraphQL specification of
-- October 2021, sections 2.2, 2.3 and 2.8.
use Rattle.std.specs.Prelude.{◌≡◌, List, map, option_map}
use Rattle.graphql_nodes.specs.Comparing.{bare_name, bare_node}
use Rattle.graphql_nodes.specs.NameView.{NameView}
use Rattle.graphql_nodes.specs.NodeView.{NodeView}
use Rattle.graphql_ast.specs.BareDocuments.{bare_definition}
use Rattle.apollo_executable.specs.BareDocuments.{bare_document, bare_fragment, bare_operation}
use Rattle.apollo_executable.specs.declared.document.ExecutableDocument.{ExecutableDocument}
use Rattle.apollo_document.specs.BareErrors.{bare_build_error}
use Rattle.apollo_document.specs.Typable.{Fault}
use Rattle.apollo_document.specs.declared.build_error.BuildError.{BuildError}
pub use Rattle.apollo_document.specs.AddedDefinitions.{DocumentItem}

-- a definition without locations, and whether one of the type system was at fault when it was added
abbrev pub bare_item : DocumentItem → DocumentItem
bare_item x = (x.0, bare_definition x.1)

-- lists with the same definitions but for locations, in one order, added in the same way
abbrev pub AreEqualItems : List DocumentItem → List DocumentItem → Type 0
AreEqualItems xs ys = map bare_item xs ≡ map bare_item ys

-- documents that `==` calls equal: what stands under a name may stand in any order
abbrev pub AreEqualDocuments : ExecutableDocument → ExecutableDocument → Type 0
AreEqualDocuments a b = bare_document a ≡ bare_document b

-- an entry without the location of its name, and with what f leaves of what stands under it
abbrev pub bare_entry : {V B : Type 0} → (V → B) → NameView × NodeView V → NameView × NodeView B
bare_entry f e = (bare_name e.0, bare_node f e.1)

-- documents that are equal, with what stands under names in one order
pub record AreEqualInOrder (a b : ExecutableDocument) : Type 0 where
  pub anonymous : option_map (bare_node bare_operation) a.operations.anonymous
      ≡ option_map (bare_node bare_operation) b.operations.anonymous
  pub named : map (bare_entry bare_operation) a.operations.named
      ≡ map (bare_entry bare_operation) b.operations.named
  pub fragments : map (bare_entry bare_fragment) a.fragments ≡ map (bare_entry bare_fragment) b.fragments

-- what is wrong, in order, without locations
abbrev pub bare_faults : List Fault → List BuildError
bare_faults = map (λ fault. bare_build_error fault.1)
