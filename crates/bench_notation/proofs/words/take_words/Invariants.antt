-- The words so far are those before the one that goes on.
use Rattle.bench_notation.specs.Line.{texts_of}
use Rattle.bench_notation.proofs.PieceWords.{HasWords}
use Rattle.bench_notation.proofs.words.take_words.Given as goal

abbrev pub invariant-loop-at : goal.invariant-loop-at
invariant-loop-at l = HasWords l.text (texts_of l.words.items) l.from l.at
