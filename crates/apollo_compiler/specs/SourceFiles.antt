-- A file more in the sources of a caller.
use Rattle.std.specs.Prelude.{ℕ, ◌+◌, List, length}
use Rattle.graphql_nodes.specs.Sources.{Files, same_file}
use Rattle.graphql_nodes.specs.Tables.{insert_entry}
use Rattle.graphql_nodes.specs.declared.source.FileId.{FileId}
use Rattle.graphql_nodes.specs.declared.source.SourceFile.{SourceFile}

-- the number of the next file: one more than how many files there are
abbrev pub next_file : Files → FileId
next_file files = record { 0 = length files + 1 }

-- a file of this path and text
abbrev pub file_of : List ℕ → List ℕ → SourceFile
file_of path text = record { path = path; text = text }

-- the sources with a file of this path and text more, under the next number
abbrev pub with_file : List ℕ → List ℕ → Files → Files
with_file path text files = insert_entry same_file files (next_file files) (file_of path text)
