-- Each line so far says something, the lines so far lead to the state, and what is left has the others.
use Rattle.std.proofs.Common.{ℕ, ◌≡◌, ◌+◌, ◌≤◌, List, Bor, Option, take, drop, length, All}
use Rattle.bench_notation.specs.Line.{IsLine, bytes_left, lines_of, pieces_left}
use Rattle.bench_notation.specs.Documents.{LeadTo}
use Rattle.bench_notation.specs.declared.documents.DocumentReader.{DocumentReader}
use Rattle.bench_notation.proofs.documents.take_lines.Given as goal

pub record HasRead (text : List ℕ) (start : DocumentReader) (number : ℕ) (left : Option (Bor (List ℕ)))
    (reader : DocumentReader) : Type 0 where
  pub read : All IsLine (take number (lines_of text))
  pub led : LeadTo 1 (take number (lines_of text)) start reader
  pub rest : drop number (lines_of text) ≡ pieces_left 10 left
  pub fits : number + bytes_left left ≤ length text + 1

abbrev pub invariant-loop-left : goal.invariant-loop-left
invariant-loop-left l = HasRead l.text l.initial.reader l.number l.left l.reader

abbrev pub decreases-loop-left : goal.decreases-loop-left
decreases-loop-left l = bytes_left l.left
