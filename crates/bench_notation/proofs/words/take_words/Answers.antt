-- A line feed ends the line, and the last of its words; a space ends a word.
use Rattle.std.proofs.Common.{◌≡◌, ◌∙◌, ◌++◌, ◌∷◌, [], ℕ, List, ap, arith, drop, length, slice_range, sym}
use Rattle.std.proofs.Common.{take}
use Rattle.std.proofs.lemmas.Grind.{common_steps}
use Rattle.bench_notation.specs.Line.{texts_of, words_of}
use Rattle.bench_notation.proofs.PieceWords.{behind_feed, byte_at, line_ended, line_ends, no_words_yet}
use Rattle.bench_notation.proofs.PieceWords.{line_whole, texts_of_pushed, within_text, word_ends}
use Rattle.bench_notation.proofs.PieceWords.{word_goes_on}
use Rattle.bench_notation.proofs.words.take_words.Goals as goal

pub loop-at-init : goal.loop-at-init
loop-at-init c = no_words_yet c.args.text.now _ c.utf8.text (ap texts_of c.clear.ensures.items)

pub range_from-requires : goal.range_from-requires
range_from-requires c = λ _. behind_feed c.as_bytes-byte-items.ensures.value c.loop-at.at c.utf8.text
    c.loop-at-test.true c.if-byte-eq10.true

pub returns-then-byte-eq10-clause-lines : goal.returns-then-byte-eq10-clause-lines
returns-then-byte-eq10-clause-lines c =
    rw c.range-then-byte-eq10.ensures.value (rw c.range_from.ensures.value
    (line_ended c.as_bytes-byte-items.ensures.value c.loop-at.at c.loop-at-test.true
    c.loop-at.invariant.feedless c.if-byte-eq10.true))

pub returns-then-byte-eq10-clause-words : goal.returns-then-byte-eq10-clause-words
returns-then-byte-eq10-clause-words c =
    let within = within_text c.as_bytes-byte-items.ensures.value c.loop-at.at c.loop-at-test.true in
    let front : slice_range c.args.text.now 0 c.loop-at.at ≡ take c.loop-at.at c.args.text.now =
    grind (arith, common_steps) in
    ap texts_of c.in_ok-push.ensures.items ∙ texts_of_pushed c.loop-at.words.items c.range.result
    ∙ ap (λ (l : List ℕ). texts_of c.loop-at.words.items ++ l ∷ []) c.range.ensures.value
    ∙ sym (line_ends c.args.text.now (texts_of c.loop-at.words.items) c.loop-at.from c.loop-at.at
    (omega (arith, within)) c.loop-at.invariant) ∙ ap words_of (sym (c.range-then-byte-eq10.ensures.value
    ∙ front))

pub loop-at-preserved : goal.loop-at-preserved
loop-at-preserved c =
    let byte = byte_at c.as_bytes-byte-items.ensures.value c.loop-at.at in
    let within = within_text c.as_bytes-byte-items.ensures.value c.loop-at.at c.loop-at-test.true in
    let words : List (List ℕ) = texts_of c.loop-at.words.items in
    elim c.if-byte-le32.branch [
      | goal.then-byte-le32+else-byte-eq10+then-byte-eq32+in_ok-push-2 w
          ↦ rw w.words-is (rw w.from-is (rw w.in_ok-push-2.ensures.items
          (rw (texts_of_pushed c.loop-at.words.items w.range-then-byte-eq32.result)
          (rw w.range-then-byte-eq32.ensures.value
          (word_ends c.args.text.now words c.loop-at.from c.loop-at.at c.utf8.text within c.loop-at.invariant
          (sym byte ∙ w.if-byte-eq32.true))))))
      | goal.then-byte-le32+else-byte-eq10+else-byte-eq32 w ↦ rw w.words-is (rw w.from-is
          (word_goes_on c.args.text.now words c.loop-at.from c.loop-at.at within c.loop-at.invariant
          (λ is. w.if-byte-eq10.false (byte ∙ is)) (λ is. w.if-byte-eq32.false (byte ∙ is))))
      | goal.else-byte-le32 w ↦ rw w.words-is (rw w.from-is
          (word_goes_on c.args.text.now words c.loop-at.from c.loop-at.at within c.loop-at.invariant
          (λ is. absurd (omega (arith, byte, is, w.if-byte-le32.false)))
          (λ is. absurd (omega (arith, byte, is, w.if-byte-le32.false)))))
    ]

pub returns-clause-lines : goal.returns-clause-lines
returns-clause-lines c = line_whole c.as_bytes-byte-items.ensures.value c.loop-at.at
    (omega (arith, c.loop-at-test.false, c.loop-at.auto.at-end)) c.loop-at.invariant.feedless

pub returns-clause-words : goal.returns-clause-words
returns-clause-words c =
    let bytes : length c.as_bytes-byte-items.result.now ≡ length c.args.text.now =
    ap length c.as_bytes-byte-items.ensures.value in
    let end : c.loop-at.at ≡ length c.args.text.now =
    omega (arith, bytes, c.loop-at-test.false, c.loop-at.auto.at-end) in
    let last : drop c.loop-at.from c.args.text.now ≡ slice_range c.args.text.now c.loop-at.from c.loop-at.at =
    grind (arith, common_steps, end) in
    let all : take c.loop-at.at c.args.text.now ≡ c.args.text.now = grind (arith, common_steps, end) in
    ap texts_of c.in_ok-push-3.ensures.items ∙ texts_of_pushed c.loop-at.words.items c.range_from-2.result
    ∙ ap (λ (l : List ℕ). texts_of c.loop-at.words.items ++ l ∷ []) (c.range_from-2.ensures.value ∙ last)
    ∙ sym (line_ends c.args.text.now (texts_of c.loop-at.words.items) c.loop-at.from c.loop-at.at
    (omega (arith, end)) c.loop-at.invariant) ∙ ap words_of all
