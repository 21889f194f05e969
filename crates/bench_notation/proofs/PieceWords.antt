-- The pieces of a text between bytes of one value.
use Rattle.std.proofs.Common.{ℕ, Bor, ◌≡◌, ◌∙◌, ◌==◌, ◌+◌, ◌-◌, ◌<◌, ◌≤◌, ◌≢◌, List, [], ◌∷◌, ◌++◌, false}
use Rattle.std.proofs.Common.{All, ap, append_assoc, append-nil, arith, drop, get_or, inl, inr, length, refl}
use Rattle.std.proofs.Common.{slice_range, subst, sym, take}
use Rattle.std.specs.Str.{IsCharBoundary, IsUtf8}
use Rattle.std.proofs.lemmas.Str.{IsCharBoundary-after_ascii, IsCharBoundary-start}
use Rattle.std.specs.List.{slice_split}
use Rattle.std.proofs.lemmas.Bool.{cases_lt}
use Rattle.std.proofs.lemmas.Bool.Decides.{nat_tests}
use Rattle.std.proofs.lemmas.Grind.{common_steps}
use Rattle.std.proofs.lemmas.List.{drop_more, take-append-drop, take_more}
use Rattle.std.proofs.lemmas.List.Splits.{slice_split_at, slice_split_none}
use Rattle.bench_notation.specs.Line.{lines_of, texts_of, words_of}

-- no byte of this value stands before a place
abbrev pub HasNone : ℕ → List ℕ → ℕ → Type 0
HasNone between text at = (i : ℕ) → i < at → (get_or text i 0 == between) ≡ false

-- one byte more is another
pub none_more : (between : ℕ) (text : List ℕ) (at : ℕ) → HasNone between text at → get_or text at 0 ≢ between
    → HasNone between text (at + 1)
none_more between text at none other = λ i to. elim (cases_lt i at) [
  | inl old ↦ none i old
  | inr new ↦ let here : i ≡ at = omega (arith, to, new) in ap (λ (n : ℕ). get_or text n 0 == between) here
      ∙ grind (arith, nat_tests, other)
]

-- a text, cut at a place
cut_at : (text : List ℕ) (at : ℕ) → at < length text
    → text ≡ take at text ++ get_or text at 0 ∷ drop (at + 1) text
cut_at text at within = sym (take-append-drop at text)
    ∙ ap (λ (l : List ℕ). take at text ++ l) (drop_more text at 0 within)

-- the first byte of the value ends the first piece
pub piece_ends : (between : ℕ) (text : List ℕ) (at : ℕ) → at < length text → HasNone between text at
    → get_or text at 0 ≡ between
    → slice_split (λ b. b == between) text ≡ take at text ∷ slice_split (λ b. b == between)
    (drop (at + 1) text)
piece_ends between text at within none ends =
    let other : All (λ b. (b == between) ≡ false) (take at text) = λ i d lt.
    let place : get_or (take at text) i d ≡ get_or text i 0 = grind (arith, common_steps) in
    ap (λ (b : ℕ). b == between) place ∙ none i (grind (arith, common_steps)) in
    ap (slice_split (λ b. b == between)) (cut_at text at within)
    ∙ slice_split_at _ _ _ _ other (grind (arith, nat_tests, ends))

-- where there is none, the text is one piece
one_piece : (between : ℕ) (text : List ℕ) → HasNone between text (length text)
    → slice_split (λ b. b == between) text ≡ text ∷ []
one_piece between text none = slice_split_none _ text (λ i d lt.
    let place : get_or text i d ≡ get_or text i 0 = grind (arith, common_steps) in
    ap (λ (b : ℕ). b == between) place ∙ none i lt)

-- a place of a text, of which these are the bytes
module _ {text bytes : List ℕ} (same : bytes ≡ text) (at : ℕ) where
  pub byte_at : get_or bytes at 0 ≡ get_or text at 0
  byte_at = ap (λ (l : List ℕ). get_or l at 0) same

  pub within_text : at < length bytes → at < length text
  within_text within = subst (λ (l : List ℕ). at < length l) same within

  -- behind a line feed a character begins
  pub behind_feed : IsUtf8 text → at < length bytes → get_or bytes at 0 ≡ 10 → IsCharBoundary text (at + 1)
  behind_feed utf8 within feed = IsCharBoundary-after_ascii text at utf8 (within_text within)
      (omega (arith, sym byte_at ∙ feed))

  -- the first line feed ends the first line
  pub line_ended : at < length bytes → HasNone 10 text at → get_or bytes at 0 ≡ 10
      → lines_of text ≡ slice_range text 0 at ∷ lines_of (drop (at + 1) text)
  line_ended within none feed =
      let front : slice_range text 0 at ≡ take at text = grind (arith, common_steps) in
      rw front (piece_ends 10 text at (within_text within) none (sym byte_at ∙ feed))

  -- where there is none, the text is one line
  pub line_whole : at ≡ length bytes → HasNone 10 text at → lines_of text ≡ text ∷ []
  line_whole end none = one_piece 10 text (subst (HasNone 10 text) (end ∙ ap length same) none)

-- no line feed stands before a place, and these are the words before the one that begins at `from` and goes
-- on there
pub record HasWords (text : List ℕ) (words : List (List ℕ)) (from at : ℕ) : Type 0 where
  pub starts : IsCharBoundary text from
  pub order : from ≤ at
  pub feedless : HasNone 10 text at
  pub spaceless : (i : ℕ) → from ≤ i → i < at → (get_or text i 0 == 32) ≡ false
  pub split : (rest : List ℕ) → words_of (take at text ++ rest) ≡ words
      ++ words_of (slice_range text from at ++ rest)

-- at first there is no word
pub no_words_yet : (text : List ℕ) (words : List (List ℕ)) → IsUtf8 text → words ≡ []
    → HasWords text words 0 0
no_words_yet text words utf8 none = record {
  starts = IsCharBoundary-start text utf8;
  order = omega arith;
  feedless = λ i to. absurd (omega (arith, to));
  spaceless = λ i after to. absurd (omega (arith, to));
  split = λ rest. ap (λ (l : List (List ℕ)). l ++ words_of rest) (sym none);
}

-- the texts of words, and one more
pub texts_of_pushed : (words : List (Bor (List ℕ))) (word : Bor (List ℕ))
    → texts_of (words ++ word ∷ []) ≡ texts_of words ++ word.now ∷ []
texts_of_pushed [] word = refl
texts_of_pushed (first ∷ words) word = ap (λ (l : List (List ℕ)). first.now ∷ l) (texts_of_pushed words word)

-- a text up to a place, and the byte there
one_longer : (text : List ℕ) (from at : ℕ) → from ≤ at → at < length text
    → slice_range text from (at + 1) ≡ slice_range text from at ++ get_or text at 0 ∷ []
one_longer text from at order within =
    let count : at + 1 - from ≡ at - from + 1 = omega (arith, order) in
    let here : get_or (drop from text) (at - from) 0 ≡ get_or text at 0 =
    grind (arith, common_steps, order, within) in
    let short : at - from < length (drop from text) = grind (arith, common_steps, order, within) in
    ap (λ (n : ℕ). take n (drop from text)) count ∙ take_more _ _ 0 short
    ∙ ap (λ (n : ℕ). slice_range text from at ++ n ∷ []) here

one_longer_front : (text : List ℕ) (at : ℕ) → at < length text
    → take (at + 1) text ≡ take at text ++ get_or text at 0 ∷ []
one_longer_front text at within = take_more text at 0 within

-- a byte that ends no word and no line
pub word_goes_on : (text : List ℕ) (words : List (List ℕ)) (from at : ℕ) → at < length text
    → HasWords text words from at → get_or text at 0 ≢ 10 → get_or text at 0 ≢ 32
    → HasWords text words from (at + 1)
word_goes_on text words from at within so_far no_feed no_space = record {
  starts = so_far.starts;
  order = omega (arith, so_far.order);
  feedless = none_more 10 text at so_far.feedless no_feed;
  spaceless = λ i after to. elim (cases_lt i at) [
    | inl old ↦ so_far.spaceless i after old
    | inr new ↦ let here : i ≡ at = omega (arith, to, new) in ap (λ (n : ℕ). get_or text n 0 == 32) here
        ∙ grind (arith, nat_tests, no_space)
  ];
  split = λ rest. ap (λ (l : List ℕ). words_of (l ++ rest)) (one_longer_front text at within)
      ∙ ap words_of (append_assoc (take at text) _ rest)
      ∙ so_far.split (get_or text at 0 ∷ rest) ∙ ap (λ (l : List ℕ). words ++ words_of l)
      (sym (append_assoc _ (get_or text at 0 ∷ []) rest)
      ∙ ap (λ (l : List ℕ). l ++ rest) (sym (one_longer text from at so_far.order within)));
}

-- no space stands in the word that goes on
no_space_within : (text : List ℕ) (words : List (List ℕ)) (from at : ℕ) → at ≤ length text
    → HasWords text words from at → All (λ b. (b == 32) ≡ false) (slice_range text from at)
no_space_within text words from at within so_far = λ i d lt.
    let short : from + i < at = grind (arith, common_steps, lt, within, so_far.order) in
    let place : get_or (slice_range text from at) i d ≡ get_or text (from + i) 0 =
    grind (arith, common_steps, short, within, so_far.order) in
    ap (λ (b : ℕ). b == 32) place ∙ so_far.spaceless (from + i) (omega arith) short

-- a space ends a word
pub word_ends : (text : List ℕ) (words : List (List ℕ)) (from at : ℕ) → IsUtf8 text → at < length text
    → HasWords text words from at → get_or text at 0 ≡ 32
    → HasWords text (words ++ slice_range text from at ∷ []) (at + 1) (at + 1)
word_ends text words from at utf8 within so_far space = record {
  starts = IsCharBoundary-after_ascii text at utf8 within (omega (arith, space));
  order = omega arith;
  feedless = none_more 10 text at so_far.feedless (λ is. absurd (omega (arith, is, space)));
  spaceless = λ i after to. absurd (omega (arith, after, to));
  split = λ rest.
      let word : List ℕ = slice_range text from at in
      let none : slice_range text (at + 1) (at + 1) ≡ [] = grind (arith, common_steps) in
      ap (λ (l : List ℕ). words_of (l ++ rest)) (one_longer_front text at within)
      ∙ ap words_of (append_assoc (take at text) _ rest) ∙ so_far.split (get_or text at 0 ∷ rest)
      ∙ ap (λ (l : List (List ℕ)). words ++ l) (slice_split_at _ word _ rest
      (no_space_within text words from at (omega (arith, within)) so_far) (grind (arith, nat_tests, space)))
      ∙ sym (append_assoc words _ _)
      ∙ ap (λ (l : List ℕ). (words ++ word ∷ []) ++ words_of (l ++ rest)) (sym none);
}

-- where the line ends, the word that goes on is its last
pub line_ends : (text : List ℕ) (words : List (List ℕ)) (from at : ℕ) → at ≤ length text
    → HasWords text words from at → words_of (take at text) ≡ words ++ slice_range text from at ∷ []
line_ends text words from at within so_far = ap words_of (sym (append-nil (take at text))) ∙ so_far.split []
    ∙ ap (λ (l : List ℕ). words ++ words_of l) (append-nil (slice_range text from at))
    ∙ ap (λ (l : List (List ℕ)). words ++ l) (slice_split_none _ _ (no_space_within text words from at within
    so_far))
