-- A word that begins as a number and is read is that number; one that is not read is no depth.
use Rattle.std.proofs.Common.{◌≡◌, arith, lit<, lit≤}
use Rattle.bench_notation.proofs.DepthWords.{no_plus_first, no_zero_first, not_first, not_read, number_word}
use Rattle.bench_notation.proofs.DepthWords.{read_word, zero_word}
use Rattle.bench_notation.proofs.executable_line.depth_of_word.Goals as goal

pub returns-then-is_empty : goal.returns-then-is_empty
returns-then-is_empty c =
    (lit≤ tt, zero_word c.args.word.now c.in-Some.rest.now c.in-Some.ensures c.if-is_empty.ensures)

pub returns-in-Some : goal.returns-in-Some
returns-in-Some c = no_zero_first c.args.word.now c.in-Some.rest.now c.in-Some.ensures c.if-is_empty.ensures

pub returns-in_default-after : goal.returns-in_default-after
returns-in_default-after c = no_plus_first c.args.word.now c.in_default-after.field-0.now
    c.in_default-after.ensures

pub returns-in-Ok : goal.returns-in-Ok
returns-in-Ok c = (
  c.if-depth-le-MOST_DEPTH.true,
  number_word c.args.word.now c.in-Ok.depth c.in-Ok.ensures.value.0
      (not_first c.args.word.now 43 (lit< tt) c.in-None.ensures)
      (λ zero. absurd (not_first c.args.word.now 48 (lit< tt) c.in_default.ensures zero)),
)

pub returns-in_default-parse : goal.returns-in_default-parse
returns-in_default-parse c = λ depth small same.
    let is : c.in-Ok.depth ≡ depth = read_word c.args.word.now c.in-Ok.depth depth c.in-Ok.ensures.value.0
    small same in
    omega (arith, is, small, c.if-depth-le-MOST_DEPTH.false)

pub returns-in_default-parse-2 : goal.returns-in_default-parse-2
returns-in_default-parse-2 c = not_read c.args.word.now c.in_default-parse.field-0
    c.in_default-parse.ensures.value.0
