-- The texts of reports.
use Rattle.std.specs.Prelude.{ℕ, Bool, List, [], ◌++◌, Option, None, Some, codes, cond, decimal, length}
use Rattle.std.specs.List.{repeat}
use Rattle.graphql_nodes.specs.LineColumns.{line_column_of, start_of}
use Rattle.graphql_nodes.specs.PlaceTexts.{place_text}
use Rattle.graphql_nodes.specs.Sources.{Files, same_file}
use Rattle.graphql_nodes.specs.Tables.{lookup}
use Rattle.graphql_nodes.specs.declared.line_column.LineColumn.{LineColumn}
use Rattle.graphql_nodes.specs.declared.source.SourceFile.{SourceFile}
use Rattle.graphql_nodes.specs.declared.source.SourceSpan.{SourceSpan}
use Rattle.apollo_reporting.specs.Places.{starts}
use Rattle.apollo_document.specs.PathTexts.{path_text}
use Rattle.apollo_reporting.specs.declared.about.Earlier.{Earlier}
use Rattle.apollo_document.specs.declared.selection_path.SelectionPath.{SelectionPath}
use Rattle.apollo_reporting.specs.Abouts.{AboutView}
use Rattle.graphql_nodes.specs.VisibleTexts.{visible}
use Rattle.apollo_reporting.specs.Excerpts.{marks, pad}
use Rattle.apollo_reporting.specs.Windows.{Shown, shown}

-- what a line without number begins with, beside numbers of so many digits
unfoldable pub line_begin : ℕ → List ℕ
line_begin width = codes " " ++ repeat width (codes " ")

-- how many digits the number of a line has; 1 where the line isn't known
abbrev pub gutter : Option LineColumn → ℕ
gutter None = 1
gutter (Some at) = length (decimal at.line)

-- dots where something of a line is left out
abbrev pub dots : Bool → List ℕ
dots cut = cond cut (codes "...") []

-- blanks under the dots before a line
abbrev pub under_dots : Bool → List ℕ
under_dots cut = cond cut (codes "   ") []

-- a line as it is shown, with dots where something of it is left out
unfoldable pub line_text : Shown → List ℕ
line_text it = dots it.cut_before ++ visible it.line ++ dots it.cut_behind

-- an empty line, and a line behind its number, which has so many digits
unfoldable pub numbered_line : ℕ → ℕ → Shown → List ℕ
numbered_line width number it =
    line_begin width ++ codes " |\n " ++ decimal number ++ codes " | " ++ line_text it ++ codes "\n"

-- the line under it, with the marks
unfoldable pub mark_line : ℕ → Shown → List ℕ
mark_line width it = line_begin width ++ codes " | " ++ under_dots it.cut_before ++ pad it.before
    ++ marks it.marks ++ codes "\n"

-- what is shown of the line where a span starts, and the marks under it
unfoldable pub excerpt_text : LineColumn → List ℕ → SourceSpan → List ℕ
excerpt_text at text span =
    numbered_line (gutter (Some at)) at.line (shown text span.start span.end)
    ++ mark_line (gutter (Some at)) (shown text span.start span.end)

-- the same in a text that doesn't end before, or else nothing
abbrev pub excerpt_at : Option LineColumn → List ℕ → SourceSpan → List ℕ
excerpt_at (Some at) text span = excerpt_text at text span
excerpt_at None text span = []

-- the same in a file, or nothing where the sources lack it
abbrev pub excerpt_in : Option SourceFile → SourceSpan → List ℕ
excerpt_in (Some file) span = excerpt_at (line_column_of file.text span.start) file.text span
excerpt_in None span = []

-- a place behind an arrow, as `--> shop.graphql:4:5`
unfoldable pub arrow_line : List ℕ → List ℕ
arrow_line place = codes "--> " ++ place ++ codes "\n"

-- where a span starts, and its line
unfoldable pub span_text : SourceSpan → Files → List ℕ
span_text span files =
    line_begin (gutter (start_of span files))
    ++ (arrow_line (place_text span files) ++ excerpt_in (lookup (same_file span.file) files) span)

-- where a fault starts, and its line, or nothing where it stands nowhere
abbrev pub location_text : Option SourceSpan → Files → List ℕ
location_text (Some span) files = span_text span files
location_text None files = []

-- how many digits the number of a fault's line has; 1 where the line isn't known
abbrev pub gutter_of : Option SourceSpan → Files → ℕ
gutter_of location files = gutter (starts location files)

-- the line of a path as it is shown, as ` = path: query Q → user → id`, or nothing where there is none
unfoldable pub path_line : ℕ → Option SelectionPath → List ℕ
path_line width (Some path) = line_begin width ++ codes " = path: " ++ visible (path_text path) ++ codes "\n"
path_line width None = []

-- an earlier place, and its line, or nothing where there is none
unfoldable pub note_text : Option Earlier → Files → List ℕ
note_text (Some earlier) files =
    codes "note: " ++ earlier.message ++ codes "\n" ++ span_text earlier.location files
note_text None files = []

-- what stands behind the first line of a report
unfoldable pub lines_behind : Files → Option SourceSpan → AboutView → List ℕ
lines_behind files location about =
    location_text location files
    ++ (path_line (gutter_of location files) about.path ++ note_text about.earlier files)

-- a report of a fault, of which this is said in a sentence
abbrev pub report_text : Files → Option SourceSpan → AboutView → List ℕ → List ℕ
report_text files location about said =
    codes "error: " ++ (said ++ (codes "\n" ++ lines_behind files location about))
