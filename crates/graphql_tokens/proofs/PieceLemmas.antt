-- Pieces of a text, the first one and those behind it.
use Rattle.std.proofs.Common.{◌≡◌, ◌+◌, ◌-◌, ◌<◌, ◌≤◌, ℕ, zero, suc, List, [], ◌∷◌, length, take, drop, cond}
use Rattle.std.proofs.Common.{refl, sym, ap, ◌∙◌, arith, Bool, true, false}
use Rattle.std.proofs.lemmas.List.{take_all, drop_all, length-drop, drop-drop}
use Rattle.std.specs.Prelude.{nat_eq}
use Rattle.std.specs.List.{prefix_len}
use Rattle.std.proofs.lemmas.Bool.{ne_eqb}
use Rattle.graphql_tokens.specs.Pieces.{pieces}

module _ (size : List ℕ → ℕ) where
  -- what is still of the piece before is passed over
  passed : (k : ℕ) (xs : List ℕ) → k ≤ length xs → pieces size k xs ≡ k + pieces size 0 (drop k xs)
  passed zero xs within = omega arith
  passed (suc k) [] within = absurd (omega arith)
  passed (suc k) (c ∷ cs) within = omega (arith, passed k cs (omega arith))

  -- it is counted
  pub pieces_of_before : (k : ℕ) (xs : List ℕ) → k ≤ length xs → k ≤ pieces size k xs
  pieces_of_before k xs within = omega (arith, passed k xs within)

  -- a piece, and those behind it
  pub first_piece : (xs : List ℕ) → 0 < size xs → size xs ≤ length xs
      → pieces size 0 xs ≡ size xs + pieces size 0 (drop (size xs) xs)
  first_piece [] some within = absurd (omega arith)
  first_piece (c ∷ cs) some within = by (size (c ∷ cs)) some within
    where
      by : (n : ℕ) → 0 < n → n ≤ length (c ∷ cs)
          → cond (nat_eq n 0) 0 (pieces size (n - 1) cs + 1) ≡ n + pieces size 0 (drop n (c ∷ cs))
      by zero some within = absurd (omega arith)
      by (suc n) some within =
          let here : cond (nat_eq (suc n) 0) 0 (pieces size (suc n - 1) cs + 1) ≡ pieces size n cs + 1 =
          let one : suc n - 1 ≡ n = omega arith in
          rw (ne_eqb (suc n) 0 (λ e. omega arith)) (ap (λ (k : ℕ). pieces size k cs + 1) one) in
          omega (arith, passed n cs (omega arith))

  -- there is none
  pub no_piece : (xs : List ℕ) → size xs ≡ 0 → pieces size 0 xs ≡ 0
  no_piece [] none = refl
  no_piece (c ∷ cs) none = rw none

  -- of a piece at the front, or of none
  pub some_of_pieces : (n : ℕ) (xs : List ℕ) → n ≡ size xs → n ≤ length xs
      → pieces size 0 xs ≡ n + pieces size 0 (drop n xs)
  some_of_pieces zero xs is within = omega arith
  some_of_pieces (suc n) xs is within =
      let first = first_piece xs (omega arith) (omega arith) in
      first ∙ ap (λ (k : ℕ). k + pieces size 0 (drop k xs)) (sym is)

  -- of bytes that are a piece each
  module _ (p : ℕ → Bool) (alone : (c : ℕ) (cs : List ℕ) → p c ≡ true → size (c ∷ cs) ≡ 1) where
    one_alone : (c : ℕ) (cs : List ℕ) → p c ≡ true → pieces size 0 (c ∷ cs) ≡ pieces size 0 cs + 1
    one_alone c cs h = rw (alone c cs h) refl

    pub pieces_alone : (xs : List ℕ)
        → pieces size 0 xs ≡ prefix_len p xs + pieces size 0 (drop (prefix_len p xs) xs)
    pieces_alone [] = refl
    pieces_alone (c ∷ cs) = by (p c) refl (pieces_alone cs)
      where
        by : (b : Bool) → p c ≡ b
            → pieces size 0 cs ≡ prefix_len p cs + pieces size 0 (drop (prefix_len p cs) cs)
            → pieces size 0 (c ∷ cs) ≡ cond b (1 + prefix_len p cs) 0
            + pieces size 0 (drop (cond b (1 + prefix_len p cs) 0) (c ∷ cs))
        by true h more =
            let one : suc (prefix_len p cs) ≡ 1 + prefix_len p cs = omega arith in
            let behind : pieces size 0 (drop (prefix_len p cs) cs)
            ≡ pieces size 0 (drop (1 + prefix_len p cs) (c ∷ cs)) =
            ap (λ (k : ℕ). pieces size 0 (drop k (c ∷ cs))) one in
            omega (arith, one_alone c cs h)
        by false h more = omega arith

-- pieces lie within the text
pub pieces_within : (size : List ℕ → ℕ) (left : ℕ) (xs : List ℕ) → pieces size left xs ≤ length xs
pieces_within size left [] = omega arith
pieces_within size (suc left) (c ∷ cs) = omega (arith, pieces_within size left cs)
pieces_within size zero (c ∷ cs) = grind (arith, pieces_within size (size (c ∷ cs) - 1) cs)

-- the rest of a text, as a slice of it is seen
abbrev pub rest_at : ℕ → List ℕ → List ℕ
rest_at at text = take (length text - at) (drop at text)

pub rest-is : (at : ℕ) (text : List ℕ) → rest_at at text ≡ drop at text
rest-is at text = take_all _ (drop at text) (omega (arith, length-drop at text))

pub length-rest_at : (at : ℕ) (text : List ℕ) → length (rest_at at text) ≡ length text - at
length-rest_at at text = rw rest-is (length-drop at text)

module _ (size : List ℕ → ℕ) (text : List ℕ) (at : ℕ) (whole : at + pieces size 0 (drop at text)
    ≡ pieces size 0 text) where
  -- behind some of them
  pub behind_pieces : (n : ℕ)
      → pieces size 0 (rest_at at text) ≡ n + pieces size 0 (drop n (rest_at at text))
      → (at + n) + pieces size 0 (drop (at + n) text) ≡ pieces size 0 text
  behind_pieces n some =
      let here : pieces size 0 (drop at text) ≡ n + pieces size 0 (drop n (drop at text)) =
      rw (← rest-is at text) some in
      let behind : pieces size 0 (drop n (drop at text)) ≡ pieces size 0 (drop (at + n) text) =
      ap (pieces size 0) (drop-drop n at text) in
      omega arith

  -- where no piece stands
  pub end_of_pieces : pieces size 0 (rest_at at text) ≡ 0 → at ≡ pieces size 0 text
  end_of_pieces none =
      let here : pieces size 0 (drop at text) ≡ 0 = rw (← rest-is at text) none in
      omega arith

  -- where the text ends
  pub ends_with_text : length text ≤ at → at ≡ pieces size 0 text
  ends_with_text over =
      let ends : pieces size 0 (drop at text) ≡ 0 = ap (pieces size 0) (drop_all at text over) in
      omega arith
