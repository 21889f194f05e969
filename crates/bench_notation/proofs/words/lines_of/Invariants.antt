-- The lines so far and those of what is left are all.
use Rattle.std.proofs.Common.{◌≡◌, ◌++◌}
use Rattle.bench_notation.specs.Line.{bytes_left, lines_of, pieces_left, texts_of}
use Rattle.bench_notation.proofs.words.lines_of.Given as goal

abbrev pub invariant-loop-left : goal.invariant-loop-left
invariant-loop-left l = texts_of l.lines.items ++ pieces_left 10 l.left ≡ lines_of l.text

abbrev pub decreases-loop-left : goal.decreases-loop-left
decreases-loop-left l = bytes_left l.left
