-- What was added is the lines of the values so far.
use Rattle.std.proofs.Common.{◌≡◌, ◌++◌, string_bytes, take}
use Rattle.bench_notation.specs.Text.{values_text}
use Rattle.bench_notation.proofs.printing.push_values.Given as goal

abbrev pub invariant-loop-value : goal.invariant-loop-value
invariant-loop-value l = string_bytes l.text ≡ string_bytes l.initial.text
    ++ values_text (take l.value-index l.values)
