-- Documents that are added under one setting of whether redefinitions of built-in types are ignored. GraphQL
-- specification of October 2021, section 3.
use Rattle.std.specs.Prelude.{Bool, List}
use Rattle.std.specs.List.{flat_map}
use Rattle.graphql_ast.specs.declared.definition.Definition.{Definition}
use Rattle.apollo_meaning.specs.Items.ListItems.{Added, added}

-- the definitions of documents
abbrev pub Documents : Type 0
Documents = List (List Definition)

-- what the definitions of documents add, one document after another
abbrev pub added_each : Bool → Documents → List Added
added_each ignores documents = flat_map (added ignores) documents

-- what one document of all these definitions adds
abbrev pub added_joined : Bool → Documents → List Added
added_joined ignores documents = added ignores (flat_map (λ document. document) documents)
