-- The text is that of the definitions so far.
use Rattle.std.proofs.Common.{◌≡◌, string_bytes, take}
use Rattle.bench_notation.specs.Text.{printed_definitions}
use Rattle.bench_notation.proofs.printing.print.Given as goal

abbrev pub invariant-loop-definition : goal.invariant-loop-definition
invariant-loop-definition l = string_bytes l.text
    ≡ printed_definitions (take l.definition-index l.definitions)
