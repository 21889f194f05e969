-- The line begins and ends where a text may be cut.
use Rattle.std.proofs.Common.{◌≡◌, ◌+◌, ℕ, List, length, drop, subst, sym, take, ap, ◌∙◌, length-drop, ◌-◌}
use Rattle.std.proofs.Common.{arith}
use Rattle.std.proofs.lemmas.List.{take_all}
use Rattle.std.specs.List.{position_or_len}
use Rattle.std.specs.Str.{IsCharBoundary}
use Rattle.apollo_reporting.specs.Excerpts.{begins_line_end, line_start}
use Rattle.apollo_reporting.proofs.Boundaries.{line_end_boundary, line_start_boundary}
use Rattle.apollo_reporting.proofs.excerpt.Excerpt.of_whole_line.Goals as goal

pub range-requires-clause-start_boundary : goal.range-requires-clause-start_boundary
range-requires-clause-start_boundary c =
    let text = c.args.text.now in
    let is : line_start text c.args.start ≡ c.line_start-from.result = sym (c.line_start-from.ensures.start
    ∙ ap (λ (t : List ℕ). line_start t c.args.start) c.as_bytes-bytes.ensures.value) in
    λ _. subst (IsCharBoundary text) is (line_start_boundary text c.args.start c.utf8.text c.requires)

pub range-requires-clause-end_boundary : goal.range-requires-clause-end_boundary
range-requires-clause-end_boundary c =
    let text = c.args.text.now in
    let at = c.line_start-from.result in
    let bytes = c.as_bytes-bytes.result.now in
    let rest : take (length bytes - at) (drop at bytes) ≡ drop at text =
    take_all (length bytes - at) (drop at bytes) (omega (arith, length-drop at bytes))
    ∙ ap (λ (t : List ℕ). drop at t) c.as_bytes-bytes.ensures.value in
    let is : at + position_or_len begins_line_end (drop at text) ≡ at + c.first_line_len.result =
    sym (ap (λ (n : ℕ). at + n) (c.first_line_len.ensures.len
    ∙ ap (λ (t : List ℕ). position_or_len begins_line_end t) rest)) in
    subst (IsCharBoundary text) is
    (line_end_boundary text at (omega (arith, c.line_start-from.ensures.within, c.requires)))
