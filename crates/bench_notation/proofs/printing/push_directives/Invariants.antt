-- What was added is the lines of the directives so far.
use Rattle.std.proofs.Common.{◌≡◌, ◌++◌, string_bytes, take}
use Rattle.bench_notation.specs.Text.{directives_text}
use Rattle.bench_notation.proofs.printing.push_directives.Given as goal

abbrev pub invariant-loop-directive : goal.invariant-loop-directive
invariant-loop-directive l = string_bytes l.text ≡ string_bytes l.initial.text ++ directives_text l.word
    (take l.directive-index l.directives)
