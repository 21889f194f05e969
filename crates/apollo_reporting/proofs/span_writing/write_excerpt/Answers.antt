-- What the excerpt shows is what is shown of the text.
use Rattle.std.proofs.Common.{◌≡◌, ℕ, ◌++◌, ap₂, rules}
use Rattle.std.proofs.Output.{has_written_append, has_written_of_eq}
use Rattle.apollo_reporting.specs.Reports.{excerpt_text, mark_line, numbered_line}
use Rattle.apollo_reporting.specs.Windows.{Shown, shown_by}
use Rattle.apollo_reporting.proofs.span_writing.write_excerpt.Goals as goal

pub returns : goal.returns
unfolding excerpt_text
returns g c = λ plain done.
    let at = c.args.at in
    let width = c.number_width-width.result in
    let it = shown_by c.new-excerpt.result in
    let first = c.in_ok-write_source_line.ensures plain (search rules) in
    let whole : numbered_line width at.line it ++ mark_line width it ≡ excerpt_text at c.args.text.now
    c.args.span = ap₂ (λ (n : ℕ) (s : Shown). numbered_line n at.line s ++ mark_line n s)
    c.number_width-width.ensures.width c.new-excerpt.ensures in
    has_written_of_eq _ _ _ _ _ whole (has_written_append _ _ _ _ _ _ first
    (c.write_mark_line.ensures first.plain done))
