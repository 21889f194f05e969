-- Where something stands, as people and editors read it: the lines are those of the GraphQL specification of
-- October 2021, section 2.1.3.
use Rattle.std.specs.Prelude.{ℕ, List, ◌++◌, ◌==◌, Option, None, Some, codes, cond, decimal}
use Rattle.graphql_nodes.specs.LineColumns.{line_column_of}
use Rattle.graphql_nodes.specs.Tables.{lookup}
use Rattle.graphql_nodes.specs.Sources.{Files, same_file}
use Rattle.graphql_nodes.specs.VisibleTexts.{visible}
use Rattle.graphql_nodes.specs.declared.line_column.LineColumn.{LineColumn}
use Rattle.graphql_nodes.specs.declared.source.SourceFile.{SourceFile}
use Rattle.graphql_nodes.specs.declared.source.SourceSpan.{SourceSpan}

-- what stands behind the path: the line and column, or the offset, where the text ends before it
abbrev pub behind_path : Option LineColumn → ℕ → List ℕ
behind_path (Some at) start = codes ":" ++ decimal at.line ++ codes ":" ++ decimal at.column
behind_path None start = codes ", byte " ++ decimal start

-- where a span starts of whose file there is no text: in that of the built-in definitions, whose number is 0,
-- or in another
abbrev pub place_without_text : SourceSpan → List ℕ
place_without_text span =
    cond (span.file.0 == 0) (codes "built-in") (codes "file " ++ decimal span.file.0 ++ codes ", byte "
    ++ decimal span.start)

-- where a span starts in this file, as `shop.graphql:4:5`, or that the sources lack its file
abbrev pub place_in : SourceSpan → Option SourceFile → List ℕ
place_in span (Some file) = visible file.path ++ behind_path (line_column_of file.text span.start) span.start
place_in span None = place_without_text span

-- where a span starts, with the path of its file
abbrev pub place_text : SourceSpan → Files → List ℕ
place_text span files = place_in span (lookup (same_file span.file) files)
