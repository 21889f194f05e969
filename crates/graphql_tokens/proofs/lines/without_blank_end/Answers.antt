use Rattle.std.proofs.Common.{◌-◌, ◌≤◌, ℕ, Bool, List, [], cond, length, take, sym, ap, ◌∙◌, arith}
use Rattle.std.specs.Borrow.{Bor}
use Rattle.std.proofs.lemmas.List.{length-take-le}
use Rattle.graphql_tokens.specs.BlockStringValues.{without_blank_end}
use Rattle.graphql_tokens.specs.Texts.{texts_of}
use Rattle.graphql_tokens.proofs.LineLemmas.{last_of_lines}
use Rattle.graphql_tokens.proofs.lines.without_blank_end.Goals as goal

pub returns-then-not-is_blank_line : goal.returns-then-not-is_blank_line
returns-then-not-is_blank_line c =
    let rest = c.lines.rest.now in
    let none : Bor (List ℕ) = record { ref_ptr = (0, 0); now = [] } in
    sym (last_of_lines rest none c.is_blank_line.result c.is_blank_line.ensures c.in-len1-up.len_at_least
    ∙ ap (λ (b : Bool). cond b (without_blank_end (texts_of (take (length rest - 1) rest)))
    (texts_of rest)) c.if-not-is_blank_line.true) ∙ c.lines.invariant.same

pub lines-preserved : goal.lines-preserved
lines-preserved c =
    let rest = c.lines.rest.now in
    let none : Bor (List ℕ) = record { ref_ptr = (0, 0); now = [] } in
    let less : length rest - 1 ≤ length rest = omega arith in
    let long = length-take-le (length rest - 1) rest less in
    record {
      within = omega (arith, c.lines.invariant.within);
      same = sym (last_of_lines rest none c.is_blank_line.result c.is_blank_line.ensures
          c.in-len1-up.len_at_least
          ∙ ap (λ (b : Bool). cond b (without_blank_end (texts_of (take (length rest - 1) rest)))
          (texts_of rest)) c.if-not-is_blank_line.false) ∙ c.lines.invariant.same;
    }
