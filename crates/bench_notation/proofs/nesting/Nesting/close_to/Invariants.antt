-- What was open and is closed now is as it was for lines that are less deep.
use Rattle.std.proofs.Common.{◌≡◌, ℕ, ◌<◌, List, [], length}
use Rattle.bench_notation.specs.Nesting.{selections_at}
use Rattle.bench_notation.specs.OpenSelections.{combined}
use Rattle.bench_notation.specs.declared.selection_line.SelectionLine.{SelectionLine}
use Rattle.bench_notation.proofs.nesting.Nesting.close_to.Given as goal

abbrev pub invariant-loop-alloc : goal.invariant-loop-alloc
invariant-loop-alloc l = (lines : List SelectionLine) → ((depth : ℕ) → l.most < depth
    → selections_at depth lines ≡ []) → combined l.self lines ≡ combined l.initial.self lines

abbrev pub decreases-loop-alloc : goal.decreases-loop-alloc
decreases-loop-alloc l = length l.self.path.items
