-- Runs of bytes of a sort: of a text that is looked at piece by piece, and of pieces that are wholly of it.
use Rattle.std.proofs.Common.{◌≡◌, ◌+◌, ◌-◌, ◌≤◌, ◌&&◌, ℕ, Bool, true, cond, not, arith}
use Rattle.std.proofs.Common.{List, [], ◌∷◌, length, map, take, drop, replicate, refl, sym, ap, ◌∙◌, eqb}
use Rattle.std.proofs.Common.{◌%◌, ◌^◌, w8, eqb-true}
use Rattle.std.specs.Prelude.{nat_eq, nat_lt}
use Rattle.std.specs.Simd.Lanes.{mask_l, top, zip2}
use Rattle.std.specs.List.{prefix_len}
use Rattle.std.proofs.lemmas.List.{take-append-drop, length-take, length-drop, drop-drop}
use Rattle.std.proofs.lemmas.List.Folds.{prefix_len-append}
use Rattle.std.proofs.lemmas.List.Sums.{prefix_len-le-length}
use Rattle.std.proofs.lemmas.Simd.{bitmask_splat, leading_from_mask_l}
use Rattle.graphql_tokens.specs.BlockStringValues.{is_in_line, is_plain_in_block}
use Rattle.graphql_tokens.specs.Ignored.{is_of_comment}
use Rattle.graphql_tokens.specs.StringValues.{is_plain}
use Rattle.graphql_tokens.proofs.PieceLemmas.{rest_at, rest-is}

-- bytes of two sorts are of both
pub whole_both : (p q : ℕ → Bool) (xs : List ℕ) → prefix_len p xs ≡ length xs → prefix_len q xs ≡ length xs
    → prefix_len (λ c. p c && q c) xs ≡ length xs
whole_both p q [] h k = refl
whole_both p q (x ∷ xs) h k = grind (arith, whole_both p q xs)

-- bytes of a sort are of one that has more
pub whole_of : (p q : ℕ → Bool) → ((c : ℕ) → p c ≡ true → q c ≡ true) → (xs : List ℕ)
    → prefix_len p xs ≡ length xs → prefix_len q xs ≡ length xs
whole_of p q more [] h = refl
whole_of p q more (x ∷ xs) h = grind (arith, more x, whole_of p q more xs)

-- sixteen bytes of which a comparison with a byte marks none
pub none_marked : (t : ℕ → ℕ → Bool) (xs : List ℕ) (y : ℕ) → length xs ≡ 16
    → nat_eq (mask_l (map (top 7) (zip2 (λ a b. cond (t a b) 255 0) xs (replicate 16 y))) % 2 ^ 64) 0 ≡ true
    → prefix_len (λ c. not (t c y)) xs ≡ length xs
none_marked t xs y long none = leading_from_mask_l (λ c. t c y) xs
    (sym (bitmask_splat w8 t xs 16 y long (omega arith)) ∙ eqb-true _ _ none)

module _ (p : ℕ → Bool) (n : ℕ) (xs : List ℕ) (long : n ≤ length xs) where
  -- the front of a text, and what stands behind it
  parts : prefix_len p xs ≡ cond (eqb (prefix_len p (take n xs)) (length (take n xs)))
      (length (take n xs) + prefix_len p (drop n xs)) (prefix_len p (take n xs))
  parts = ap (prefix_len p) (sym (take-append-drop n xs)) ∙ prefix_len-append p (take n xs) (drop n xs)

  -- a front that is wholly of the sort
  pub whole_front : prefix_len p (take n xs) ≡ n → prefix_len p xs ≡ n + prefix_len p (drop n xs)
  whole_front whole = grind (arith, parts, length-take n xs)

-- behind sixteen bytes of the sort
pub behind_chunk : (p : ℕ → Bool) (text : List ℕ) (at found : ℕ) → 16 ≤ length text - at
    → found ≡ prefix_len p (take 16 (rest_at at text)) → 16 ≤ found
    → prefix_len p text ≡ at + prefix_len p (drop at text)
    → prefix_len p text ≡ (at + 16) + prefix_len p (drop (at + 16) text)
behind_chunk p text at found room is all so_far =
    let here : found ≡ prefix_len p (take 16 (drop at text)) =
    is ∙ ap (λ r. prefix_len p (take 16 r)) (rest-is at text) in
    let long : 16 ≤ length (drop at text) = omega (arith, length-drop at text) in
    let most : prefix_len p (take 16 (drop at text)) ≤ 16 =
    omega (arith, prefix_len-le-length p (take 16 (drop at text)), length-take 16 (drop at text)) in
    let step = whole_front p 16 (drop at text) long (omega arith) in
    let behind : prefix_len p (drop 16 (drop at text)) ≡ prefix_len p (drop (at + 16) text) =
    ap (prefix_len p) (drop-drop 16 at text) in
    omega arith

-- a byte that is no control character, tab or line end, and one that is neither a quote nor `\` besides
abbrev is_shown : ℕ → Bool
is_shown c = not (nat_lt c 32)

abbrev says_itself : ℕ → Bool
says_itself c = is_shown c && (not (nat_eq c 34) && not (nat_eq c 92))

-- such bytes are of a comment, of a line, of a string and of a block string
of_comment : (c : ℕ) → is_shown c ≡ true → is_of_comment c ≡ true
of_comment c h = grind arith

in_line : (c : ℕ) → is_shown c ≡ true → is_in_line c ≡ true
in_line c h = grind arith

in_string : (c : ℕ) → says_itself c ≡ true → is_plain c ≡ true
in_string c h = grind arith

in_block : (c : ℕ) → says_itself c ≡ true → is_plain_in_block c ≡ true
in_block c h = grind arith

module _ (xs : List ℕ) (shown : prefix_len is_shown xs ≡ length xs) where
  pub whole_comment : prefix_len is_of_comment xs ≡ length xs
  whole_comment = whole_of is_shown is_of_comment of_comment xs shown

  pub whole_line : prefix_len is_in_line xs ≡ length xs
  whole_line = whole_of is_shown is_in_line in_line xs shown

  module _ (quoted : prefix_len (λ c. not (nat_eq c 34)) xs ≡ length xs)
      (escaped : prefix_len (λ c. not (nat_eq c 92)) xs ≡ length xs) where
    each : prefix_len says_itself xs ≡ length xs
    each = whole_both is_shown (λ c. not (nat_eq c 34) && not (nat_eq c 92)) xs shown
        (whole_both (λ c. not (nat_eq c 34)) (λ c. not (nat_eq c 92)) xs quoted escaped)

    pub whole_string : prefix_len is_plain xs ≡ length xs
    whole_string = whole_of says_itself is_plain in_string xs each

    pub whole_block : prefix_len is_plain_in_block xs ≡ length xs
    whole_block = whole_of says_itself is_plain_in_block in_block xs each
