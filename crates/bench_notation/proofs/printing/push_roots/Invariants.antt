-- What was added is the lines of the roots so far.
use Rattle.std.proofs.Common.{◌≡◌, ◌++◌, string_bytes, take}
use Rattle.bench_notation.specs.Text.{roots_text}
use Rattle.bench_notation.proofs.printing.push_roots.Given as goal

abbrev pub invariant-loop-root : goal.invariant-loop-root
invariant-loop-root l = string_bytes l.text ≡ string_bytes l.initial.text
    ++ roots_text (take l.root-index l.roots)
