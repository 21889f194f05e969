-- The blanks behind the first 64 are written behind them.
use Rattle.std.proofs.Common.{◌≡◌, ◌∙◌, ◌+◌, ◌-◌, ℕ, List, ◌∷◌, ◌++◌, replicate, ap, arith, rules}
use Rattle.std.proofs.Output.{has_written_append, has_written_of_eq}
use Rattle.std.proofs.lemmas.List.{replicate-append-replicate}
use Rattle.graphql_printing.specs.Layout.{line_end}
use Rattle.graphql_printing.proofs.LineEnds.{is_boundary, line_end_cut}
use Rattle.graphql_printing.proofs.layout.write_line_end.Goals as goal

pub range-requires-clause-end_boundary : goal.range-requires-clause-end_boundary
range-requires-clause-end_boundary g c = is_boundary c.min-first.result (omega arith)

pub returns : goal.returns
returns g c plain ok =
    let indent = c.args.indent in
    let first = c.min-first.result in
    let all : first + (indent - first) ≡ indent = omega arith in
    let text : c.range.result.now ≡ line_end first = c.range.ensures.value
    ∙ line_end_cut first (omega arith) in
    let start = c.write_str.ensures.writes plain (search rules) in
    has_written_of_eq _ _ _ _ _ (ap (λ (t : List ℕ). t ++ replicate (indent - first) 32) text
    ∙ ap (λ (t : List ℕ). 10 ∷ t) (replicate-append-replicate first _ 32)
    ∙ ap line_end all) (has_written_append _ _ _ _ _ _ start (c.write_blanks.ensures start.plain ok))
