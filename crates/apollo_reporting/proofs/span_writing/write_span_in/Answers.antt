-- The place is that of the line and column, and its line is shown.
use Rattle.std.proofs.Common.{◌≡◌, ℕ, List, ◌++◌, Option, Some, sym, ap, ap₂, ◌∙◌, rules}
use Rattle.std.proofs.Output.{has_written_append, has_written_of_eq}
use Rattle.graphql_nodes.specs.LineColumns.{line_column_of}
use Rattle.graphql_nodes.specs.PlaceTexts.{behind_path}
use Rattle.graphql_nodes.specs.VisibleTexts.{visible}
use Rattle.graphql_nodes.specs.declared.line_column.LineColumn.{LineColumn}
use Rattle.graphql_nodes.specs.declared.source.SourceSpan.{SourceSpan}
use Rattle.apollo_reporting.specs.Reports.{arrow_line, excerpt_at, excerpt_text}
use Rattle.apollo_reporting.proofs.span_writing.write_span_in.Goals as goal

located : (p path t text : List ℕ) (at : LineColumn) (span : SourceSpan) → p ≡ path → t ≡ text
    → line_column_of text span.start ≡ Some at
    → arrow_line (visible p ++ behind_path (Some at) span.start) ++ excerpt_text at t span
    ≡ arrow_line (visible path ++ behind_path (line_column_of text span.start) span.start)
    ++ excerpt_at (line_column_of text span.start) text span
located p path t text at span e f is =
    ap₂ (λ (a b : List ℕ). arrow_line (visible a ++ behind_path (Some at) span.start)
    ++ excerpt_text at b span) e f ∙ ap (λ (l : Option LineColumn). arrow_line (visible path
    ++ behind_path l span.start) ++ excerpt_at l text span) (sym is)

pub returns : goal.returns
returns g c = λ plain done.
    let before = c.in_ok-write_arrow_line.ensures c.args.span.start plain (search rules) in
    has_written_of_eq _ _ _ _ _ (located c.as_str.result.now c.args.file.now.path c.as_str-2.result.now
    c.args.file.now.text c.args.at c.args.span c.as_str.ensures c.as_str-2.ensures c.requires)
    (has_written_append _ _ _ _ _ _ before (c.write_excerpt.ensures before.plain done))
