-- The texts of source files, and of what is kept of their lines.
use Rattle.std.specs.Prelude.{ℕ, List, map}
use Rattle.graphql_nodes.specs.Sources.{Files}
use Rattle.graphql_nodes.specs.Tables.{values_of}
use Rattle.graphql_nodes.specs.declared.line_index.LineIndex.{LineIndex}
use Rattle.graphql_nodes.specs.declared.source.SourceFile.{SourceFile}

-- the texts of these indexes
abbrev pub indexed_texts : List LineIndex → List (List ℕ)
indexed_texts indexes = map (λ (index : LineIndex). index.text.now) indexes

-- the texts of source files, in order
abbrev pub file_texts : Files → List (List ℕ)
file_texts files = map (λ (file : SourceFile). file.text) (values_of files)
