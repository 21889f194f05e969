-- The test decides whether a block string is read as its text again.
use Rattle.std.proofs.Common.{◌≡◌, ◌<◌, ◌&&◌, ◌||◌, ℕ, suc, Bool, true, false, List, [], ◌∷◌, length, nat_eq}
use Rattle.std.proofs.Common.{refl, sym, ap, subst, ◌∙◌, arith}
use Rattle.std.specs.Prelude.{not, if◌then◌else◌}
use Rattle.std.specs.Bool.{Decides}
use Rattle.std.proofs.lemmas.Bool.{and_parts, and_right, false≢true, ne_eqb, not-true}
use Rattle.std.proofs.lemmas.Bool.Decides.{same_from_decides}
use Rattle.graphql_tokens.specs.Bytes.{begins}
use Rattle.graphql_tokens.specs.BlockStringValues.{is_blank_line, is_white, joined, lines}
use Rattle.graphql_printing.specs.BlockTest.{passes_test}
use Rattle.graphql_printing.specs.Descriptions.{begins_at_once, fits_one_line, has_line_feed, has_unprintable}
use Rattle.graphql_printing.specs.Descriptions.{is_block, reads_back}
use Rattle.graphql_printing.proofs.BlockLines.{HasLines, has_lines, is_one_line, kept, lines_of}
use Rattle.graphql_printing.proofs.BlockStay.{outer_not_blank, stay, stay_decides}
use Rattle.graphql_printing.proofs.BlockValue.{alone, block_says, said_by_block}
use Rattle.std.proofs.lemmas.List.{append-nil}
use lib.Pointwise.{bytes_decides, pointwise}

-- whether a text is what was said
abbrev Same : List ℕ → List ℕ → Bool
Same said text = pointwise nat_eq said text

same_itself : (text : List ℕ) → Same text text ≡ true
same_itself text = (bytes_decides text text).1 refl

-- ---- one line

alone_is : (text : List ℕ)
    → Same (alone text) text ≡ (nat_eq (length text) 0 || (not (is_blank_line text) && true))
alone_is [] = refl
alone_is (c ∷ cs) = rw (ne_eqb (suc (length cs)) 0 (λ e. omega (arith, e))) (by (is_blank_line (c ∷ cs)))
  where
    by : (b : Bool) → Same (if b then [] else c ∷ cs) (c ∷ cs) ≡ (not b && true)
    by true = refl
    by false = same_itself (c ∷ cs)

module _ (text : List ℕ) (printable : has_unprintable text ≡ false) (none : has_line_feed text ≡ false) where
  one_line : lines text ≡ text ∷ []
  one_line = ap lines (sym (append-nil text)) ∙ lines_of text [] (is_one_line text printable none) tt

  one_line_test : passes_test text ≡ (nat_eq (length text) 0 || (not (is_blank_line text) && true))
  one_line_test = simp (one_line, none)

  one_line_stays : fits_one_line text ≡ false → begins_at_once text ≡ false
      → passes_test text ≡ stay (lines text)
  one_line_stays long other = one_line_test ∙ by text long (rw none at other) ∙ sym (ap stay one_line)
    where
      by : (text : List ℕ) → fits_one_line text ≡ false → begins is_white text ≡ false
          → (nat_eq (length text) 0 || (not (is_blank_line text) && true)) ≡ stay (text ∷ [])
      by [] long other = absurd (false≢true (sym long))
      by (c ∷ cs) long other = rw (
        ne_eqb (suc (length cs)) 0 (λ e. omega (arith, e)),
        outer_not_blank (c ∷ cs) (ap not other),
        other,
      ) refl

-- ---- several lines, or one that is long

feed_length : (text : List ℕ) → has_line_feed text ≡ true → 0 < length text
feed_length [] h = absurd (false≢true h)
feed_length (c ∷ cs) h = omega arith

lines_test : (text : List ℕ) → has_line_feed text ≡ true → passes_test text ≡ stay (lines text)
lines_test text some =
    let long = feed_length text some in
    rw (ne_eqb (length text) 0 (λ e. omega (arith, e, long)), some) refl

long_length : (text : List ℕ) → fits_one_line text ≡ false → 0 < length text
long_length [] long = absurd (false≢true (sym long))
long_length (c ∷ cs) long = omega arith

kept_passes : (text : List ℕ) → HasLines text → 0 < length text
    → Same (kept (lines text)) text ≡ stay (lines text)
kept_passes text has some =
    let whole : text ≡ joined (lines text) = has.text_is ∙ ap joined (sym has.lines_are) in
    same_from_decides (Same (kept (lines text)) text) (stay (lines text))
    (subst (λ (t : List ℕ). Decides (Same (kept (lines text)) t) (kept (lines text)
    ≡ joined (lines text))) (sym whole) (bytes_decides (kept (lines text)) (joined (lines text))))
    (stay_decides (lines text) (subst (λ (t : List ℕ). 0 < length t) whole some))

-- ---- both

reads_back_is : (text : List ℕ) → has_unprintable text ≡ false
    → reads_back text ≡ Same (said_by_block text) text
unfolding reads_back
reads_back_is text printable = ap (λ (t : List ℕ). Same t text) (block_says 0 text printable)

test_decides : (text : List ℕ) → has_unprintable text ≡ false → reads_back text ≡ passes_test text
test_decides text printable = reads_back_is text printable ∙ by (fits_one_line text) (begins_at_once text)
    refl refl
  where
    no_feed : (b : Bool) → (not (has_line_feed text) && b) ≡ true → has_line_feed text ≡ false
    no_feed b h = not-true (has_line_feed text) (and_parts (not (has_line_feed text)) b h).0

    stays : fits_one_line text ≡ false → begins_at_once text ≡ false → (b : Bool) → has_line_feed text ≡ b
        → passes_test text ≡ stay (lines text)
    stays long other true some = lines_test text some
    stays long other false none = one_line_stays text printable none long other

    by : (f b : Bool) → fits_one_line text ≡ f → begins_at_once text ≡ b
        → Same (if f || b then alone text else kept (lines text)) text ≡ passes_test text
    by true b fits at_once = alone_is text ∙ sym (one_line_test text printable (no_feed _ fits))
    by false true fits at_once = alone_is text ∙ sym (one_line_test text printable (no_feed _ at_once))
    by false false fits at_once = kept_passes text (has_lines text printable) (long_length text fits)
        ∙ sym (stays fits at_once (has_line_feed text) refl)

-- so the test and a look at each byte decide whether a description is a block string
pub is_block_is : (text : List ℕ) → is_block text ≡ (passes_test text && not (has_unprintable text))
is_block_is text = by (has_unprintable text) refl
  where
    by : (u : Bool) → has_unprintable text ≡ u → (reads_back text && not u) ≡ (passes_test text && not u)
    by true is = and_right _ false refl ∙ sym (and_right _ false refl)
    by false is = ap (λ (b : Bool). b && true) (test_decides text is)
