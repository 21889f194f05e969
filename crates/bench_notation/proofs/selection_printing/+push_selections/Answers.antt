-- A field and an inline fragment have their selections one deeper.
use Rattle.std.proofs.Common.{◌≡◌, ◌+◌, ◌++◌, append_assoc, rules, codes, string_bytes}
use Rattle.bench_notation.specs.SelectionText.{head_text, last_text}
use Rattle.bench_notation.proofs.FoldedText.{field_says, inline_says}
use Rattle.bench_notation.proofs.selection_printing.+push_selections.Goals as goal

pub push_field-returns : goal.push_field-returns
push_field-returns t c =
    let line : string_bytes c.push_last.new.text
    ≡ ((string_bytes c.args.text.now ++ head_text c.args.depth (codes "field "))
    ++ c.args.field.now.name.text) ++ last_text c.args.field.now.alias = search rules in
    let set : c.as_slice.result.now ≡ c.args.field.now.selection_set = search rules in
    let next : c.in_ok-below.field-0 ≡ c.args.depth + 1 = search rules in
    simp (field_says, append_assoc) (simp (line, next, set, append_assoc) at c.push_selections.ensures)

pub push_inline-returns : goal.push_inline-returns
push_inline-returns t c =
    let line : string_bytes c.push_last.new.text ≡ (string_bytes c.args.text.now ++ head_text c.args.depth
    (codes "inline")) ++ last_text c.args.fragment.now.type_condition = search rules in
    let set : c.as_slice.result.now ≡ c.args.fragment.now.selection_set = search rules in
    let next : c.in_ok-below.field-0 ≡ c.args.depth + 1 = search rules in
    simp (inline_says, append_assoc) (simp (line, next, set, append_assoc) at c.push_selections.ensures)
