use Rattle.std.proofs.Common.{ap, not, ◌∙◌}
use Rattle.named_files.specs.Patterns.{parts_begin, texts}
use Rattle.named_files.proofs.BeginLemmas.{begins-at_end}
use Rattle.named_files.proofs.patterns.parts_begin.Goals as goal

pub returns : goal.returns
returns c = ap not c.is_empty.ensures ∙ begins-at_end c.args.wanted.now c.loop-text.left.now c.args.there.now
    c.loop-text.text-index (parts_begin (texts c.args.wanted.now) (texts c.args.there.now))
    c.loop-text-test.false c.loop-text.invariant
