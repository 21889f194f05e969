-- Hints at documents that look like files of a schema: GraphQL specification of October 2021, section 2.2.
use Rattle.std.specs.Prelude.{ℕ, List, [], ◌∷◌, ◌++◌, codes, if◌then◌else◌}
use Rattle.std.specs.List.{flat_map, list_any}
use Rattle.graphql_nodes.specs.Sources.{Files}
use Rattle.graphql_nodes.specs.VisibleTexts.{visible}
use Rattle.graphql_ast.specs.DefinitionKinds.{is_executable}
use Rattle.graphql_ast.specs.declared.document.Document.{Document}

-- the hint at the file of this path, on a line, and an empty line
abbrev pub path_hint : List ℕ → List ℕ
path_hint path = codes "warning: `"
    ++ (visible path ++ codes "` has type definitions alone: did you mean `--schema`?\n\n")

-- the hint at the first of these files
abbrev pub file_hint : Files → List ℕ
file_hint [] = []
file_hint (file ∷ files) = path_hint file.1.path

-- the hint at the file of a document, where all definitions are of the type system
abbrev pub document_hint : Document → List ℕ
document_hint document =
    if list_any is_executable document.definitions then [] else file_hint document.sources

-- the hints at documents, in order
abbrev pub schema_hints : List Document → List ℕ
schema_hints documents = flat_map document_hint documents
