-- A text that the form of its marks refuses is outside the grammar.
use Rattle.std.proofs.Common.{inr}
use Rattle.apollo_coordinate.proofs.GrammarLemmas.{cut_lacks, no_attribute, no_directive}
use Rattle.apollo_coordinate.proofs.GrammarLemmas.{no_directive_argument, no_field_argument, only_attribute}
use Rattle.apollo_coordinate.proofs.GrammarLemmas.{only_directive, only_directive_argument}
use Rattle.apollo_coordinate.proofs.GrammarLemmas.{only_field_argument, only_type}
use Rattle.apollo_coordinate.proofs.text_parts.Parts.by_marks.Goals as goal

pub returns-in_err-new-in-Some-Some-clause-complete : goal.returns-in_err-new-in-Some-Some-clause-complete
returns-in_err-new-in-Some-Some-clause-complete c text =
    let marks = c.in-Some-Some in
    let none = c.in_err-new-in-Some-Some.ensures.refused in
    let form = only_directive_argument _ (marks.field-0-0.now, marks.ensures)
    (cut_lacks 40 _ _ _ marks.ensures') text in
    absurd (no_directive_argument _ _ (inr (marks.directive.now, marks.argument.now, marks.ensures', none))
    form)

pub returns-in_err-name_part-in-Some-None-clause-complete :
    goal.returns-in_err-name_part-in-Some-None-clause-complete
returns-in_err-name_part-in-Some-None-clause-complete c text =
    let marks = c.in-Some-None in
    let none = c.in_err-name_part-in-Some-None.ensures.refused in
    let form = only_directive _ (marks.directive.now, marks.ensures) marks.ensures' text in
    absurd (no_directive _ _ (inr (marks.directive.now, marks.ensures, none)) form)

pub returns-in_err-new-in-None-Some-clause-complete : goal.returns-in_err-new-in-None-Some-clause-complete
returns-in_err-new-in-None-Some-clause-complete c text =
    let marks = c.in-None-Some in
    let none = c.in_err-new-in-None-Some.ensures.refused in
    let form = only_field_argument _ (λ at. marks.ensures at.0 at.1) (cut_lacks 40 _ _ _ marks.ensures')
    text in
    absurd (no_field_argument _ _ (inr (marks.field.now, marks.argument.now, marks.ensures', none)) form)

pub returns-in_err-new-in-Some-clause-complete : goal.returns-in_err-new-in-Some-clause-complete
returns-in_err-new-in-Some-clause-complete c text =
    let marks = c.in-None-None in
    let none = c.in_err-new-in-Some.ensures.refused in
    let form = only_attribute _ (λ at. marks.ensures at.0 at.1) marks.ensures'
    (cut_lacks 46 _ _ _ c.in-Some.ensures) text in
    absurd (no_attribute _ _ (inr (c.in-Some.ty.now, c.in-Some.attribute.now, c.in-Some.ensures, none)) form)

pub returns-in_err-name_part-in-None-clause-complete : goal.returns-in_err-name_part-in-None-clause-complete
returns-in_err-name_part-in-None-clause-complete c text =
    let marks = c.in-None-None in
    let none = c.in_err-name_part-in-None.ensures.refused in
    absurd (none.0 (only_type _ (λ at. marks.ensures at.0 at.1) marks.ensures' c.in-None.ensures text))
