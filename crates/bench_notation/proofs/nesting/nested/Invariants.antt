-- The lines so far, and whatever lines follow, say what has become of the lines so far with those that
-- follow.
use Rattle.std.proofs.Common.{◌≡◌, ◌++◌, List}
use Rattle.bench_notation.specs.Nesting.{selections_at}
use Rattle.bench_notation.specs.OpenSelections.{combined}
use Rattle.bench_notation.specs.declared.selection_line.SelectionLine.{SelectionLine}
use Rattle.bench_notation.proofs.nesting.nested.Given as goal

abbrev pub invariant-loop-line : goal.invariant-loop-line
invariant-loop-line l = (lines : List SelectionLine) → combined l.nesting lines
    ≡ selections_at 0 (l.yielded ++ lines)
