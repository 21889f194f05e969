-- Where a field or an argument is refused, no other component begins with its word.
use Rattle.std.proofs.Common.{◌∙◌}
use Rattle.bench_notation.proofs.LineWords.{no_argument, no_field, no_selection, passes}
use Rattle.bench_notation.proofs.line.read_component.Goals as goal

pub returns-in_err-name-in-field-clause-refused : goal.returns-in_err-name-in-field-clause-refused
returns-in_err-name-in-field-clause-refused c = passes _ _ c.from_residual-in_err-name-in-field.ensures.1
    (λ none. rw c.in-field.is (no_field _ _ _ (λ name ty are may. none name ty are (c.has_fields.ensures
    ∙ may)))) c.in_err-name-in-field.ensures.refused

pub returns-in_err-name-in-arg-clause-refused : goal.returns-in_err-name-in-arg-clause-refused
returns-in_err-name-in-arg-clause-refused c = passes _ _ c.from_residual-in_err-name-in-arg.ensures.1
    (λ none. rw c.in-arg.is (no_argument _ _ _ (λ name ty are may. none name ty are (c.takes_arguments.ensures
    ∙ may)))) c.in_err-name-in-arg.ensures.refused

pub returns-in_err-depth-in-sel-clause-refused : goal.returns-in_err-depth-in-sel-clause-refused
returns-in_err-depth-in-sel-clause-refused c = passes _ _ c.from_residual-in_err-depth-in-sel.ensures.1
    (λ none. rw c.in-sel.is (no_selection _ _ _ none)) c.in_err-depth-in-sel.ensures.refused
