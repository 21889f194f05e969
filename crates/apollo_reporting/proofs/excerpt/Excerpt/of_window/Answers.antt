-- The window begins and ends where a text may be cut.
use Rattle.std.proofs.Common.{◌≡◌, ◌+◌, ℕ, List, length, drop, subst, sym, take, ap, ◌∙◌, length-drop, ◌-◌}
use Rattle.std.proofs.Common.{arith}
use Rattle.std.proofs.lemmas.List.{take_all}
use Rattle.std.specs.Str.{IsCharBoundary}
use Rattle.apollo_reporting.specs.Windows.{ahead_by, back_by}
use Rattle.apollo_reporting.proofs.Boundaries.{ahead_boundary, back_boundary}
use Rattle.apollo_reporting.proofs.excerpt.Excerpt.of_window.Goals as goal

pub range-requires-clause-start_boundary : goal.range-requires-clause-start_boundary
range-requires-clause-start_boundary c =
    let text = c.args.text.now in
    let is : back_by text 60 c.args.start ≡ c.back_by-from.result = sym (c.back_by-from.ensures.start
    ∙ ap (λ (t : List ℕ). back_by t 60 c.args.start) c.as_bytes-bytes.ensures.value) in
    λ _. subst (IsCharBoundary text) is (back_boundary text 60 c.args.start c.utf8.text (omega arith)
    c.requires.within)

pub range-requires-clause-end_boundary : goal.range-requires-clause-end_boundary
range-requires-clause-end_boundary c =
    let text = c.args.text.now in
    let at = c.args.start in
    let bytes = c.as_bytes-bytes.result.now in
    let rest : take (length bytes - at) (drop at bytes) ≡ drop at text =
    take_all (length bytes - at) (drop at bytes) (omega (arith, length-drop at bytes))
    ∙ ap (λ (t : List ℕ). drop at t) c.as_bytes-bytes.ensures.value in
    let is : at + ahead_by 100 (drop at text) ≡ at + c.ahead_by-ahead.result =
    sym (ap (λ (n : ℕ). at + n) (c.ahead_by-ahead.ensures.len ∙ ap (ahead_by 100) rest)) in
    subst (IsCharBoundary text) is (ahead_boundary text at 100 c.requires.within)
