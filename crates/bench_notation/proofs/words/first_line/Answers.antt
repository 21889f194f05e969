-- The first line feed ends the line; where there is none, the text is one line.
use Rattle.std.proofs.Common.{◌∙◌, arith}
use Rattle.bench_notation.proofs.PieceWords.{behind_feed, byte_at, line_ended, none_more, line_whole}
use Rattle.bench_notation.proofs.words.first_line.Goals as goal

pub loop-at-preserved : goal.loop-at-preserved
loop-at-preserved c =
    let byte = byte_at c.as_bytes-byte-items.ensures.value c.loop-at.at in
    none_more 10 c.args.text.now c.loop-at.at c.loop-at.invariant (λ is. c.if-byte-eq10.false (byte ∙ is))

pub range_from-requires : goal.range_from-requires
range_from-requires c = λ _. behind_feed c.as_bytes-byte-items.ensures.value c.loop-at.at c.utf8.text
    c.loop-at-test.true c.if-byte-eq10.true

pub returns-then-byte-eq10-clause-lines : goal.returns-then-byte-eq10-clause-lines
returns-then-byte-eq10-clause-lines c =
    rw c.range.ensures.value (rw c.range_from.ensures.value (line_ended c.as_bytes-byte-items.ensures.value
    c.loop-at.at c.loop-at-test.true c.loop-at.invariant c.if-byte-eq10.true))

pub returns-clause-lines : goal.returns-clause-lines
returns-clause-lines c = line_whole c.as_bytes-byte-items.ensures.value c.loop-at.at
    (omega (arith, c.loop-at-test.false, c.loop-at.auto.at-end)) c.loop-at.invariant
