-- A text may be cut where a line of it begins, and where its characters end.
use Rattle.std.proofs.Common.{◌≡◌, ◌⊎◌, ◌+◌, ◌-◌, ◌<◌, ◌≤◌, ◌||◌, ℕ, zero, suc, Bool, true, false, not, cond}
use Rattle.std.proofs.Common.{List, [], ◌∷◌, length, drop, get_or, slice_index, inl, inr, refl, sym}
use Rattle.std.proofs.Common.{subst, arith, nat_eq, nat_lt}
use Rattle.std.specs.List.{position_or_len}
use Rattle.std.specs.Str.{IsCharBoundary, IsUtf8}
use Rattle.std.proofs.lemmas.List.Sums.{prefix_len-le-length, prefix_len_stops}
use Rattle.std.proofs.lemmas.Str.{IsCharBoundary-after_ascii, IsCharBoundary-before_ascii, IsCharBoundary-end}
use Rattle.std.proofs.lemmas.Str.{IsCharBoundary-from_rest, IsCharBoundary-start}
use Rattle.graphql_nodes.specs.LineColumns.{begins_char, ends_line}
use Rattle.apollo_reporting.specs.Excerpts.{begins_line_end, line_start}
use Rattle.apollo_reporting.specs.Windows.{ahead_by, back_by, left_beside, stops_at}

line_end_is_ascii : (text : List ℕ) (n : ℕ) → ends_line text n ≡ true → get_or text n 0 < 128
line_end_is_ascii text n h = grind (arith, h)

pub line_start_boundary : (text : List ℕ) (n : ℕ) → IsUtf8 text → n ≤ length text
    → IsCharBoundary text (line_start text n)
line_start_boundary text zero utf8 within = IsCharBoundary-start text utf8
line_start_boundary text (suc n) utf8 within =
    by (ends_line text n) refl (line_start_boundary text n utf8 (omega (arith, within)))
  where
    by : (b : Bool) → ends_line text n ≡ b → IsCharBoundary text (line_start text n)
        → IsCharBoundary text (cond b (suc n) (line_start text n))
    by true is before =
        let next : n + 1 ≡ suc n = omega arith in
        subst (IsCharBoundary text) next (IsCharBoundary-after_ascii text n utf8 (omega (arith, within))
        (line_end_is_ascii text n is))
    by false is before = before

stop_is_ascii : (b : ℕ) → not (begins_line_end b) ≡ false → b < 128
stop_is_ascii b h = grind (arith, h)

first_line_boundary : (text : List ℕ) → IsCharBoundary text (position_or_len begins_line_end text)
first_line_boundary text = by (nat_lt (position_or_len begins_line_end text) (length text)) refl
    (prefix_len-le-length (λ b. not (begins_line_end b)) text)
  where
    by : (b : Bool) → nat_lt (position_or_len begins_line_end text) (length text) ≡ b
        → position_or_len begins_line_end text ≤ length text
        → IsCharBoundary text (position_or_len begins_line_end text)
    by true is within =
        let end = position_or_len begins_line_end text in
        let less : end < length text = grind (arith, is) in
        IsCharBoundary-before_ascii text end less (stop_is_ascii (get_or text end 0)
        (prefix_len_stops (λ b. not (begins_line_end b)) text 0 less))
    by false is within =
        let end = position_or_len begins_line_end text in
        let over : length text ≤ end = grind (arith, is) in
        let same : length text ≡ end = omega (arith, over, within) in
        subst (IsCharBoundary text) same (IsCharBoundary-end text)

pub line_end_boundary : (text : List ℕ) (at : ℕ) → at ≤ length text
    → IsCharBoundary text (at + position_or_len begins_line_end (drop at text))
line_end_boundary text at within = IsCharBoundary-from_rest text at (position_or_len begins_line_end
    (drop at text)) within (first_line_boundary (drop at text))

-- a byte that begins a character begins none in the middle of one
lead : (b : ℕ) → begins_char b ≡ true → 128 ≤ b → 192 ≤ b
lead b begins high = grind (arith, begins, high)

stopped : (left : ℕ) (ends : Bool) → 0 < left → (nat_eq left 0 || ends) ≡ true → ends ≡ true
stopped left ends some is = grind (arith, some, is)

back_none : (text : List ℕ) (n : ℕ) → back_by text 0 n ≡ n
back_none text zero = refl
back_none text (suc n) = refl

one_less : (left : ℕ) → (0 < left - 1) ⊎ (left - 1 ≡ 0)
one_less zero = inr (omega arith)
one_less (suc zero) = inr (omega arith)
one_less (suc (suc n)) = inl (omega arith)

-- characters are left beside a byte, or it begins the last
beside : (left b : ℕ) → 0 < left
    → (0 < left_beside left b) ⊎ ((left_beside left b ≡ 0) × (begins_char b ≡ true))
beside left b some = by (begins_char b) refl
  where
    by : (y : Bool) → begins_char b ≡ y
        → (0 < cond y (left - 1) left) ⊎ ((cond y (left - 1) left ≡ 0) × (begins_char b ≡ true))
    by true is = elim (one_less left) [ inl more ↦ inl more | inr none ↦ inr (none, is) ]
    by false is = inl some

pub back_boundary : (text : List ℕ) (left n : ℕ) → IsUtf8 text → 0 < left → n ≤ length text
    → IsCharBoundary text (back_by text left n)
back_boundary text left zero utf8 some within = IsCharBoundary-start text utf8
back_boundary text left (suc n) utf8 some within = by (nat_eq left 0 || ends_line text n) refl
    (λ more. back_boundary text (left_beside left (slice_index text n)) n utf8 more (omega (arith, within)))
  where
    by : (b : Bool) → (nat_eq left 0 || ends_line text n) ≡ b
        → (0 < left_beside left (slice_index text n)
        → IsCharBoundary text (back_by text (left_beside left (slice_index text n)) n))
        → IsCharBoundary text (cond b (suc n) (back_by text (left_beside left (slice_index text n)) n))
    by true is before =
        let next : n + 1 ≡ suc n = omega arith in
        let ends : ends_line text n ≡ true = stopped left (ends_line text n) some is in
        subst (IsCharBoundary text) next (IsCharBoundary-after_ascii text n utf8 (omega (arith, within))
        (line_end_is_ascii text n ends))
    by false is before = elim (beside left (slice_index text n) some) [
      | inl more ↦ before more
      | inr (none, begins) ↦
          let here : IsCharBoundary text n =
          (omega (arith, within), λ _ high. lead (slice_index text n) begins high) in
          subst (λ (k : ℕ). IsCharBoundary text (back_by text k n)) (sym none)
          (subst (IsCharBoundary text) (sym (back_none text n)) here)
    ]

stop_begins : (left b : ℕ) → stops_at left b ≡ true → begins_char b ≡ true
stop_begins left b is = grind (arith, is)

ahead_stops : (left : ℕ) (bs : List ℕ) → ahead_by left bs < length bs
    → begins_char (get_or bs (ahead_by left bs) 0) ≡ true
ahead_stops left [] less = absurd (omega (arith, less))
ahead_stops left (b ∷ bs) less = by (stops_at left b) refl (ahead_stops (left_beside left b) bs) less
  where
    by : (y : Bool) → stops_at left b ≡ y
        → (ahead_by (left_beside left b) bs < length bs
        → begins_char (get_or bs (ahead_by (left_beside left b) bs) 0) ≡ true)
        → cond y zero (suc (ahead_by (left_beside left b) bs)) < length (b ∷ bs)
        → begins_char (get_or (b ∷ bs) (cond y zero (suc (ahead_by (left_beside left b) bs))) 0) ≡ true
    by true is rest less = stop_begins left b is
    by false is rest less = rest (omega (arith, less))

ahead_short : (left : ℕ) (bs : List ℕ) → ahead_by left bs ≤ length bs
ahead_short left [] = omega arith
ahead_short left (b ∷ bs) = by (stops_at left b) (ahead_short (left_beside left b) bs)
  where
    by : (y : Bool) → ahead_by (left_beside left b) bs ≤ length bs
        → cond y zero (suc (ahead_by (left_beside left b) bs)) ≤ length (b ∷ bs)
    by true short = omega arith
    by false short = omega (arith, short)

pub ahead_boundary : (text : List ℕ) (at left : ℕ) → at ≤ length text
    → IsCharBoundary text (at + ahead_by left (drop at text))
ahead_boundary text at left within =
    let rest = drop at text in
    let there : IsCharBoundary rest (ahead_by left rest) = (
      ahead_short left rest,
      λ less high. lead (get_or rest (ahead_by left rest) 0) (ahead_stops left rest less) high,
    ) in
    IsCharBoundary-from_rest text at (ahead_by left rest) within there
