use Rattle.std.proofs.Common.{◌≡◌, drop}
use Rattle.named_files.specs.Patterns.{parts_begin, texts}
use Rattle.named_files.proofs.patterns.parts_begin.Given as goal

abbrev pub invariant-loop-text : goal.invariant-loop-text
invariant-loop-text l = parts_begin (texts l.left) (texts (drop l.text-index l.there))
    ≡ parts_begin (texts l.wanted) (texts l.there)
