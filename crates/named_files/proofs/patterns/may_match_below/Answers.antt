use Rattle.std.proofs.Common.{ap, ◌∙◌}
use Rattle.named_files.specs.Patterns.{parts, parts_begin, texts}
use Rattle.named_files.proofs.BeginLemmas.{none-below, ok_then}
use Rattle.named_files.proofs.patterns.may_match_below.Goals as goal

pub returns-clause-none : goal.returns-clause-none
returns-clause-none c =
    let pattern = ap texts c.as_slice.ensures.value ∙ c.in_ok-wanted.ensures in
    let folder = ap texts c.as_slice-2.ensures.value ∙ c.in_ok-there.ensures in
    ok_then c.parts_begin.result
    (λ answer is e rest. none-below c.args.pattern.now c.args.folder.now answer
    (is ∙ ap (λ l. parts_begin l (texts c.as_slice-2.result.now)) pattern
    ∙ ap (λ l. parts_begin (parts c.args.pattern.now) l) folder) e rest) c.parts_begin.ensures
