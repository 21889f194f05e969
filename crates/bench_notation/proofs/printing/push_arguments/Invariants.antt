-- What was added is the lines of the arguments so far.
use Rattle.std.proofs.Common.{◌≡◌, ◌++◌, string_bytes, take}
use Rattle.bench_notation.specs.Text.{arguments_text}
use Rattle.bench_notation.proofs.printing.push_arguments.Given as goal

abbrev pub invariant-loop-argument : goal.invariant-loop-argument
invariant-loop-argument l = string_bytes l.text ≡ string_bytes l.initial.text
    ++ arguments_text (take l.argument-index l.arguments)
