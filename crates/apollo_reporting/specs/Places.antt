-- Lines and columns of faults.
use Rattle.std.specs.Prelude.{ℕ, Option, option_and_then}
use Rattle.graphql_nodes.specs.LineColumns.{end_of, line_column_of, start_of}
use Rattle.graphql_nodes.specs.Sources.{Files, same_file}
use Rattle.graphql_nodes.specs.Tables.{lookup}
use Rattle.graphql_nodes.specs.declared.line_column.LineColumn.{LineColumn}
use Rattle.graphql_nodes.specs.declared.source.FileId.{FileId}
use Rattle.graphql_nodes.specs.declared.source.SourceFile.{SourceFile}
use Rattle.graphql_nodes.specs.declared.source.SourceSpan.{SourceSpan}

-- the line and column of an offset in the file of this number, where there is such a place
abbrev pub line_column_in : FileId → ℕ → Files → Option LineColumn
line_column_in number offset files =
    option_and_then (λ (file : SourceFile). line_column_of file.text offset) (lookup (same_file number) files)

-- where a location starts, if there is one, and its file has the place
abbrev pub starts : Option SourceSpan → Files → Option LineColumn
starts location files = option_and_then (λ (span : SourceSpan). start_of span files) location

-- where it ends
abbrev pub ends : Option SourceSpan → Files → Option LineColumn
ends location files = option_and_then (λ (span : SourceSpan). end_of span files) location
