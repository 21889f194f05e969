-- A field and an inline fragment are written with what stands in them.
use Rattle.std.proofs.Common.{◌≡◌, ◌∙◌, ◌+◌, ◌-◌, ◌≤◌, List, ◌∷◌, ◌++◌, length, drop, take, sym, ap, rules}
use Rattle.std.proofs.Common.{arith, codes}
use Rattle.std.proofs.lemmas.List.{drop_more, length-drop, take_all, take_rest}
use Rattle.std.proofs.Output.{has_written_append, has_written_of_eq}
use Rattle.graphql_ast.specs.declared.selection.Selection.{Selection}
use Rattle.graphql_printing.specs.Fields.{field_head}
use Rattle.graphql_printing.specs.Layout.{each_behind, line_end}
use Rattle.graphql_printing.specs.Selections.{condition_text, selection_text, selections_behind}
use Rattle.graphql_printing.specs.Texts.{directives_text}
use Rattle.graphql_printing.proofs.FoldedSelections.{field_says, inline_says}
use Rattle.graphql_printing.proofs.selections.+write_selections.Goals as goal

pub write_field-returns : goal.write_field-returns
write_field-returns g t c plain ok =
    let field = c.args.field.now in
    let indent = c.args.indent in
    let arguments : c.as_slice-arguments.result.now ≡ field.arguments = search rules in
    let directives : c.as_slice.result.now ≡ field.directives.0 = search rules in
    let set : c.as_slice-2.result.now ≡ field.selection_set = search rules in
    let one = c.write_field_head.ensures plain (search rules) in
    let two = c.write_directives.ensures one.plain (search rules) in
    let three = c.write_selections.ensures two.plain ok in
    has_written_of_eq _ _ _ _ _ ((λ i. field_head indent field.alias field.name (arguments i)
    ++ directives_text (directives i) ++ selections_behind (codes " {") indent (set i))
    ∙ sym (field_says field indent)) (has_written_append _ _ _ _ _ _ (has_written_append _ _ _ _ _ _ one
    two) three)

pub write_inline-returns : goal.write_inline-returns
write_inline-returns g t c plain ok =
    let fragment = c.args.fragment.now in
    let indent = c.args.indent in
    let directives : c.as_slice.result.now ≡ fragment.directives.0 = search rules in
    let set : c.as_slice-2.result.now ≡ fragment.selection_set = search rules in
    let one = c.write_str.ensures.writes plain (search rules) in
    let two = c.write_condition.ensures one.plain (search rules) in
    let three = c.write_directives.ensures two.plain (search rules) in
    let four = c.write_selections.ensures three.plain ok in
    has_written_of_eq _ _ _ _ _ ((λ i. codes "..." ++ condition_text fragment.type_condition
    ++ directives_text (directives i) ++ selections_behind (codes " {") indent (set i))
    ∙ sym (inline_says fragment indent)) (has_written_append _ _ _ _ _ _ (has_written_append _ _ _ _ _ _
    (has_written_append _ _ _ _ _ _ one two) three) four)

pub write_selections-returns : goal.write_selections-returns
write_selections-returns g t c plain ok =
    let opening = c.args.opening.now in
    let indent = c.args.indent in
    let selections = c.args.selections.now in
    let first = c.first-item.result in
    let inner : c.in_ok-inner.inner ≡ indent + 2 = search rules in
    let all : first ∷ drop 1 selections ≡ selections =
    sym (drop_more selections 0 first c.in-len1-up.len_at_least
    ∙ ap (λ (x : Selection). x ∷ drop 1 selections) (sym c.first-item.is)) in
    let end : length selections - 1 ≤ c.loop-selection.selection-index = search rules in
    let rest : take c.loop-selection.selection-index (take (length selections - 1) (drop 1 selections))
    ≡ drop 1 selections = ap (take c.loop-selection.selection-index) (take_rest selections 1)
    ∙ take_all c.loop-selection.selection-index _ (omega (arith, end, length-drop 1 selections)) in
    let one = c.write_str.ensures.writes plain (search rules) in
    let two = c.write_line_end.ensures one.plain (search rules) in
    let three = c.write_selection.ensures two.plain (search rules) in
    let four = c.loop-selection.invariant three.plain in
    let five = c.write_line_end-2.ensures four.plain (search rules) in
    let six = c.write_str-2.ensures.writes five.plain ok in
    has_written_of_eq _ _ _ _ _ ((λ i. (opening ++ line_end (inner i)) ++ (selection_text first (inner i)
    ++ each_behind (line_end (inner i)) (λ (x : Selection). selection_text x (inner i)) (rest i))
    ++ (line_end indent ++ codes "}")) ∙ ap (λ (xs : List Selection). selections_behind opening indent xs)
    all) (has_written_append _ _ _ _ _ _ (has_written_append _ _ _ _ _ _ (has_written_append _ _ _ _ _ _
    one two) (has_written_append _ _ _ _ _ _ three four)) (has_written_append _ _ _ _ _ _ five six))
