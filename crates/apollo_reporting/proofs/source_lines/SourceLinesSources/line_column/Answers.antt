-- The index at the place of the file is that of its text.
use Rattle.std.proofs.Common.{◌≡◌, ◌<◌, List, ℕ, Some, arith, length, option_and_then, option_map, slice_get}
use Rattle.std.proofs.Common.{subst, sym, ap, ◌∙◌}
use Rattle.std.proofs.lemmas.Option.{slice_get-get_or}
use Rattle.graphql_nodes.specs.LineColumns.{line_column_of}
use Rattle.graphql_nodes.specs.declared.line_index.LineIndex.{LineIndex}
use Rattle.graphql_nodes.specs.declared.source.SourceFile.{SourceFile}
use Rattle.apollo_reporting.proofs.SourceLemmas.{indexed_at}
use Rattle.apollo_reporting.proofs.source_lines.SourceLinesSources.line_column.Goals as goal

pub returns : goal.returns
returns c =
    let lines = c.args.self.now in
    let place = c.in_ok-place.place in
    let file = c.in_ok-place.field-0-2.now in
    let index = c.in_ok-get.field-0.now in
    let there = indexed_at lines.indexes.items lines.sources.now place c.in_ok-place.field-0-1.now file
    lines.indexed c.in_ok-place.ensures.entry in
    let indexes = c.as_slice.result.now in
    let less : place < length indexes = grind (arith, c.in_ok-get.ensures.lookup.0) in
    let got : slice_get indexes place ≡ Some index = slice_get-get_or indexes place index less
    ∙ ap (λ (i : LineIndex). Some i) (sym c.in_ok-get.ensures.lookup.1) in
    let found : slice_get lines.indexes.items place ≡ Some index =
    subst (λ (xs : List LineIndex). slice_get xs place ≡ Some index) c.as_slice.ensures.value got in
    let same : Some index.text.now ≡ Some file.text =
    sym (ap (option_map (λ (i : LineIndex). i.text.now)) found) ∙ there in
    let text : index.text.now ≡ file.text = cc in
    c.get_line_column.ensures ∙ ap (λ (t : List ℕ). line_column_of t c.args.offset) text
    ∙ ap (option_and_then (λ (f : SourceFile). line_column_of f.text c.args.offset))
    c.in_ok-place.ensures.value
