-- No byte so far ends the line.
use Rattle.bench_notation.proofs.PieceWords.{HasNone}
use Rattle.bench_notation.proofs.words.first_line.Given as goal

abbrev pub invariant-loop-at : goal.invariant-loop-at
invariant-loop-at l = HasNone 10 l.text l.at
