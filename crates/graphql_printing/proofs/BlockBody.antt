-- What the characters of a description's block string say: the text further in, with the line ends of the
-- layout.
use Rattle.std.proofs.Common.{◌≡◌, ℕ, zero, suc, Bool, true, false, List, [], ◌∷◌, ◌++◌, cond, nat_eq}
use Rattle.std.proofs.Common.{replicate, refl, sym, ap, subst, ◌∙◌, arith, append_assoc}
use Rattle.std.specs.Prelude.{codes, if◌then◌else◌}
use Rattle.std.proofs.lemmas.Bool.{and_parts, eqb-true, not-true, or_parts}
use Rattle.std.proofs.lemmas.List.{append-nil}
use Rattle.graphql_tokens.specs.Bytes.{is_control}
use Rattle.graphql_tokens.specs.BlockStringValues.{block_string_value, dedented}
use Rattle.graphql_tokens.specs.Strings.{begins_with_quotes}
use Rattle.graphql_printing.specs.Descriptions.{begins_at_once, block, ends, fits_one_line, further_in}
use Rattle.graphql_printing.specs.Descriptions.{has_unprintable, inside, is_mark, is_unprintable, with_marks}
use Rattle.graphql_printing.specs.Layout.{line_end}
use Rattle.graphql_printing.proofs.BlockCharacters.{IsAllowed, Spelled, begins_quote, other_first}
use Rattle.graphql_printing.proofs.BlockCharacters.{other_second, other_third, quote_or_other, spelled}
use Rattle.graphql_printing.proofs.BlockCharacters.{three_quotes}
use Rattle.graphql_printing.proofs.BlockLines.{same_further_in}

-- a text between the line ends of the layout: with none where it fits in one line, or the last alone where it
-- begins at once
abbrev pub framed : Bool → Bool → ℕ → List ℕ → List ℕ
framed true at_once indent text = text
framed false true indent text = text ++ line_end indent
framed false false indent text = line_end indent ++ text ++ line_end indent

-- what the characters of a description's block string say
abbrev pub body : ℕ → List ℕ → List ℕ
body indent text = framed (fits_one_line text) (begins_at_once text) indent (further_in indent text)

-- ---- no mark is added with the layout, and none goes

marks_of_other : (c : ℕ) (cs : List ℕ) → nat_eq c 34 ≡ false → with_marks 0 (c ∷ cs) ≡ c ∷ with_marks 0 cs
marks_of_other c cs h = rw (other_first (c ∷ cs) h) refl

marks_of_blanks : (n : ℕ) (rest : List ℕ)
    → with_marks 0 (replicate n 32 ++ rest) ≡ replicate n 32 ++ with_marks 0 rest
marks_of_blanks zero rest = refl
marks_of_blanks (suc n) rest = rw (marks_of_other 32 (replicate n 32 ++ rest) refl, marks_of_blanks n rest)

marks_of_line_end : (n : ℕ) (rest : List ℕ)
    → with_marks 0 (line_end n ++ rest) ≡ line_end n ++ with_marks 0 rest
marks_of_line_end n rest = rw (marks_of_other 10 (replicate n 32 ++ rest) refl, marks_of_blanks n rest)

module _ (indent : ℕ) (tail : List ℕ) (no_quote : begins_quote tail ≡ false) where
  first_further_in : (c : ℕ) (cs : List ℕ) → nat_eq c 34 ≡ false
      → begins_quote (further_in indent (c ∷ cs) ++ tail) ≡ false
  first_further_in c cs other = grind arith

  third_further_in : (cs : List ℕ) → begins_with_quotes (34 ∷ 34 ∷ cs) ≡ false
      → begins_with_quotes (34 ∷ 34 ∷ further_in indent cs ++ tail) ≡ false
  third_further_in [] h = other_third tail no_quote
  third_further_in (e ∷ es) h = other_third (further_in indent (e ∷ es) ++ tail) (first_further_in e es h)

  second_further_in : (cs : List ℕ) → begins_with_quotes (34 ∷ cs) ≡ false
      → begins_with_quotes (34 ∷ further_in indent cs ++ tail) ≡ false
  second_further_in [] h = other_second tail no_quote
  second_further_in (d ∷ ds) h = quote_or_other (λ (e : ℕ). begins_with_quotes (34 ∷ e ∷ ds) ≡ false
      → begins_with_quotes (34 ∷ further_in indent (e ∷ ds) ++ tail) ≡ false) d (third_further_in ds)
      (λ other _. other_second (further_in indent (d ∷ ds) ++ tail) (first_further_in d ds other)) h

  quotes_further_in : (c : ℕ) (cs : List ℕ) → begins_with_quotes (c ∷ cs) ≡ false
      → begins_with_quotes (further_in indent (c ∷ cs) ++ tail) ≡ false
  quotes_further_in c cs = quote_or_other (λ (e : ℕ). begins_with_quotes (e ∷ cs) ≡ false
      → begins_with_quotes (further_in indent (e ∷ cs) ++ tail) ≡ false) c (second_further_in cs)
      (λ other _. other_first (further_in indent (c ∷ cs) ++ tail) (first_further_in c cs other))

  -- marks are set first, or last
  abbrev MarkedFurtherIn : List ℕ → Type 0
  MarkedFurtherIn text = with_marks 0 (further_in indent text ++ tail) ≡ further_in indent (with_marks 0 text)
      ++ with_marks 0 tail

  feed_marked : (cs : List ℕ) → MarkedFurtherIn cs
      → with_marks 0 (further_in indent (10 ∷ cs) ++ tail) ≡ further_in indent (10 ∷ with_marks 0 cs)
      ++ with_marks 0 tail
  feed_marked cs more = ap (with_marks 0) (append_assoc (line_end indent) _ tail) ∙ marks_of_line_end indent _
      ∙ ap (λ (t : List ℕ). line_end indent ++ t) more ∙ sym (append_assoc (line_end indent) _ _)

  other_marked : (c : ℕ) (cs : List ℕ) → begins_with_quotes (c ∷ cs) ≡ false → MarkedFurtherIn cs
      → MarkedFurtherIn (c ∷ cs)
  other_marked c cs plain more = rw plain (by (nat_eq c 10) refl)
    where
      by : (b : Bool) → nat_eq c 10 ≡ b
          → with_marks 0 (further_in indent (c ∷ cs) ++ tail) ≡ further_in indent (c ∷ with_marks 0 cs)
          ++ with_marks 0 tail
      by true is = subst (λ (d : ℕ). with_marks 0 (further_in indent (d ∷ cs) ++ tail) ≡ further_in indent
          (d ∷ with_marks 0 cs) ++ with_marks 0 tail) (sym (eqb-true c 10 is)) (feed_marked cs more)
      by false is =
          let quotes = rw is at (quotes_further_in c cs plain) in
          rw (is, quotes) (ap (λ (t : List ℕ). c ∷ t) more)

  quotes_marked : (cs : List ℕ) → MarkedFurtherIn cs → MarkedFurtherIn (34 ∷ 34 ∷ 34 ∷ cs)
  quotes_marked cs more = ap (λ (t : List ℕ). 92 ∷ 34 ∷ 34 ∷ 34 ∷ t) more

  marked_further_in : (text : List ℕ) → MarkedFurtherIn text
  marked_further_in [] = refl
  marked_further_in (a ∷ []) = other_marked a [] refl (marked_further_in [])
  marked_further_in (a ∷ b ∷ []) = other_marked a (b ∷ []) refl (marked_further_in (b ∷ []))
  marked_further_in (a ∷ b ∷ c ∷ rest) = by (begins_with_quotes (a ∷ b ∷ c ∷ [])) refl
      (marked_further_in (b ∷ c ∷ rest)) (marked_further_in rest)
    where
      by : (t : Bool) → begins_with_quotes (a ∷ b ∷ c ∷ []) ≡ t → MarkedFurtherIn (b ∷ c ∷ rest)
          → MarkedFurtherIn rest → MarkedFurtherIn (a ∷ b ∷ c ∷ rest)
      by true is _ behind = three_quotes a b c is (λ x y z. MarkedFurtherIn (x ∷ y ∷ z ∷ rest)) (quotes_marked
          rest behind)
      by false is next _ = other_marked a (b ∷ c ∷ rest) is next

-- ---- the block string is its body with marks, between quotes

marks_of_inside : (indent : ℕ) (text : List ℕ) → with_marks 0 (further_in indent text) ≡ inside indent text
marks_of_inside indent text = simp append-nil at (marked_further_in indent [] refl text)

marks_of_end : (n : ℕ) → with_marks 0 (line_end n) ≡ line_end n
marks_of_end n = ap (with_marks 0) (sym (append-nil (line_end n))) ∙ marks_of_line_end n [] ∙ append-nil _

marks_of_lines : (indent : ℕ) (text : List ℕ)
    → with_marks 0 (further_in indent text ++ line_end indent) ≡ inside indent text ++ line_end indent
marks_of_lines indent text = simp (marked_further_in, marks_of_end)

marks_of_framed : (fits at_once : Bool) (indent : ℕ) (text : List ℕ)
    → with_marks 0 (framed fits at_once indent (further_in indent text)) ≡ framed fits at_once indent
    (inside indent text)
marks_of_framed true at_once indent text = marks_of_inside indent text
marks_of_framed false true indent text = marks_of_lines indent text
marks_of_framed false false indent text =
    ap (with_marks 0) (append_assoc (line_end indent) (further_in indent text) (line_end indent))
    ∙ marks_of_line_end indent (further_in indent text ++ line_end indent)
    ∙ ap (λ (t : List ℕ). line_end indent ++ t) (marks_of_lines indent text)
    ∙ sym (append_assoc (line_end indent) (inside indent text) (line_end indent))

-- a text between quotes
abbrev Quoted : List ℕ → List ℕ
Quoted text = 34 ∷ 34 ∷ 34 ∷ text ++ 34 ∷ 34 ∷ 34 ∷ []

block_of_framed : (fits at_once : Bool) (indent : ℕ) (text : List ℕ)
    → (if fits then codes "\"\"\"" ++ inside indent text ++ codes "\"\"\"" else codes
    "\"\"\"" ++ (if at_once then [] else line_end indent) ++ inside indent text ++ line_end indent
    ++ codes "\"\"\"") ≡ Quoted (framed fits at_once indent (inside indent text))
block_of_framed true at_once indent text = refl
block_of_framed false true indent text = refl
block_of_framed false false indent text = refl

pub block_is : (indent : ℕ) (text : List ℕ) → block indent text ≡ Quoted (with_marks 0 (body indent text))
block_is indent text = simp (block_of_framed, marks_of_framed)

-- ---- so the characters are read

allowed_append : (xs ys : List ℕ) → IsAllowed xs → IsAllowed ys → IsAllowed (xs ++ ys)
allowed_append [] ys h g = g
allowed_append (x ∷ xs) ys h g = (h.0, allowed_append xs ys h.1 g)

allowed_blanks : (n : ℕ) → IsAllowed (replicate n 32)
allowed_blanks zero = tt
allowed_blanks (suc n) = (refl, allowed_blanks n)

allowed_end : (n : ℕ) → IsAllowed (line_end n)
allowed_end n = (refl, allowed_blanks n)

allowed_further_in : (indent : ℕ) (text : List ℕ) → IsAllowed text → IsAllowed (further_in indent text)
allowed_further_in indent [] h = tt
allowed_further_in indent (c ∷ cs) h = by (nat_eq c 10) (allowed_further_in indent cs h.1)
  where
    by : (b : Bool) → IsAllowed (further_in indent cs)
        → IsAllowed (cond b (line_end indent) (c ∷ []) ++ further_in indent cs)
    by true more = allowed_append (line_end indent) _ (allowed_end indent) more
    by false more = (h.0, more)

allowed_framed : (fits at_once : Bool) (indent : ℕ) (text : List ℕ) → IsAllowed text
    → IsAllowed (framed fits at_once indent text)
allowed_framed true at_once indent text h = h
allowed_framed false true indent text h = allowed_append text _ h (allowed_end indent)
allowed_framed false false indent text h = allowed_append (line_end indent ++ text) _
    (allowed_append (line_end indent) text (allowed_end indent) h) (allowed_end indent)

-- a text without control characters
printable_is_allowed : (text : List ℕ) → has_unprintable text ≡ false → IsAllowed text
printable_is_allowed [] h = tt
printable_is_allowed (c ∷ cs) h =
    let parts = or_parts _ _ h in
    let first = or_parts _ _ parts.0 in
    (byte c first.0, printable_is_allowed cs parts.1)
  where
    byte : (c : ℕ) → is_unprintable c ≡ false → is_control c ≡ false
    byte c h = grind (arith, h)

ends_append : (p : ℕ → Bool) (xs : List ℕ) (y : ℕ) (ys : List ℕ) → ends p (xs ++ y ∷ ys) ≡ ends p (y ∷ ys)
ends_append p [] y ys = refl
ends_append p (x ∷ []) y ys = refl
ends_append p (x ∷ z ∷ zs) y ys = ends_append p (z ∷ zs) y ys

ends_blank : (p : ℕ → Bool) (n c : ℕ) → p c ≡ false → p 32 ≡ false → ends p (c ∷ replicate n 32) ≡ false
ends_blank p zero c first other = first
ends_blank p (suc n) c first other = ends_blank p n 32 other other

lines_end : (xs : List ℕ) (n : ℕ) → ends is_mark (xs ++ line_end n) ≡ false
lines_end xs n = simp (ends_append, ends_blank)

framed_ends : (fits at_once : Bool) (indent : ℕ) (text : List ℕ) → (fits ≡ true → ends is_mark text ≡ false)
    → ends is_mark (framed fits at_once indent text) ≡ false
framed_ends true at_once indent text short = short refl
framed_ends false true indent text short = lines_end text indent
framed_ends false false indent text short = lines_end (line_end indent ++ text) indent

-- what fits in one line ends in no mark
short_ends : (indent : ℕ) (text : List ℕ) → has_unprintable text ≡ false → fits_one_line text ≡ true
    → ends is_mark (further_in indent text) ≡ false
short_ends indent text printable fits =
    let parts = and_parts _ _ fits in
    let short = and_parts _ _ parts.1 in
    rw (same_further_in indent text printable (not-true _ parts.0)) (not-true _ short.1)

-- a block string's characters are those of its body, and say it
pub body_spelled : (indent : ℕ) (text rest : List ℕ) → has_unprintable text ≡ false
    → Spelled (body indent text) (34 ∷ 34 ∷ 34 ∷ rest)
body_spelled indent text rest printable =
    spelled (body indent text) (34 ∷ 34 ∷ 34 ∷ rest) (allowed_framed (fits_one_line text)
    (begins_at_once text) indent (further_in indent text) (allowed_further_in indent text
    (printable_is_allowed text printable))) (framed_ends (fits_one_line text) (begins_at_once text) indent
    (further_in indent text) (short_ends indent text printable))

-- so what the block string says is its body without the common indent
pub value_is : (indent : ℕ) (text : List ℕ) → has_unprintable text ≡ false
    → block_string_value (block indent text) ≡ dedented (body indent text)
value_is indent text printable = simp (block_is, (body_spelled indent text [] printable).says, append-nil)
