-- What characters say, the first one and those behind it.
use Rattle.std.proofs.Common.{◌≡◌, ◌+◌, ◌-◌, ◌<◌, ◌≤◌, ℕ, zero, suc, Bool, true, false, List, [], ◌∷◌, ◌++◌}
use Rattle.std.proofs.Common.{length, take, drop, cond, refl, ap, ◌∙◌, arith}
use Rattle.std.specs.Prelude.{nat_eq}
use Rattle.std.specs.List.{prefix_len}
use Rattle.std.proofs.lemmas.Bool.{ne_eqb}
use Rattle.std.proofs.lemmas.List.{append_assoc}
use Rattle.graphql_tokens.specs.StringValues.{said}

module _ (size : List ℕ → ℕ) (says : List ℕ → List ℕ) where
  -- what is still of the character before is passed over
  passed : (k : ℕ) (xs : List ℕ) → k ≤ length xs → said size says k xs ≡ said size says 0 (drop k xs)
  passed zero xs within = refl
  passed (suc k) [] within = absurd (omega arith)
  passed (suc k) (c ∷ cs) within = passed k cs (omega arith)

  -- a character, and those behind it
  pub one_said : (xs : List ℕ) → 0 < size xs → size xs ≤ length xs
      → said size says 0 xs ≡ says xs ++ said size says 0 (drop (size xs) xs)
  one_said [] some within = absurd (omega arith)
  one_said (c ∷ cs) some within = by (size (c ∷ cs)) some within
    where
      by : (n : ℕ) → 0 < n → n ≤ length (c ∷ cs)
          → cond (nat_eq n 0) [] (says (c ∷ cs) ++ said size says (n - 1) cs) ≡ says (c ∷ cs) ++ said size
          says 0 (drop n (c ∷ cs))
      by zero some within = absurd (omega arith)
      by (suc n) some within =
          let one : suc n - 1 ≡ n = omega arith in
          rw (ne_eqb (suc n) 0 (λ e. omega arith)) (ap (λ (k : ℕ). says (c ∷ cs) ++ said size says k cs) one
          ∙ ap (λ (r : List ℕ). says (c ∷ cs) ++ r) (passed n cs (omega arith)))

  -- where there is no character
  pub none_said : (xs : List ℕ) → size xs ≡ 0 → said size says 0 xs ≡ []
  none_said [] none = refl
  none_said (c ∷ cs) none = rw none

  -- bytes that say themselves
  module _ (p : ℕ → Bool) (itself : (c : ℕ) (cs : List ℕ) → p c ≡ true → size (c ∷ cs) ≡ 1)
      (says_itself : (c : ℕ) (cs : List ℕ) → p c ≡ true → says (c ∷ cs) ≡ c ∷ []) where
    one_plain : (c : ℕ) (cs : List ℕ) → p c ≡ true → said size says 0 (c ∷ cs) ≡ c ∷ said size says 0 cs
    one_plain c cs h = rw (itself c cs h) (ap (λ (r : List ℕ). r ++ said size says 0 cs) (says_itself c cs h))

    pub plain_said : (xs : List ℕ)
        → said size says 0 xs ≡ take (prefix_len p xs) xs ++ said size says 0 (drop (prefix_len p xs) xs)
    plain_said [] = refl
    plain_said (c ∷ cs) = by (p c) refl (plain_said cs)
      where
        by : (b : Bool) → p c ≡ b
            → said size says 0 cs ≡ take (prefix_len p cs) cs ++ said size says 0 (drop (prefix_len p cs) cs)
            → said size says 0 (c ∷ cs) ≡ take (cond b (1 + prefix_len p cs) 0) (c ∷ cs) ++ said size says 0
            (drop (cond b (1 + prefix_len p cs) 0) (c ∷ cs))
        by true h more =
            let one : suc (prefix_len p cs) ≡ 1 + prefix_len p cs = omega arith in
            one_plain c cs h ∙ ap (λ (r : List ℕ). c ∷ r) more
            ∙ ap (λ (k : ℕ). take k (c ∷ cs) ++ said size says 0 (drop k (c ∷ cs))) one
        by false h more = refl

-- where no byte of a sort comes first
pub none_first : (p : ℕ → Bool) (c : ℕ) (cs : List ℕ) → prefix_len p (c ∷ cs) ≡ 0 → p c ≡ false
none_first p c cs none = grind arith

-- what was said before stays in front
pub said_more : (say : List ℕ → List ℕ) (text old new front rest : List ℕ) → say text ≡ front ++ say rest
    → new ≡ old ++ front → old ++ say text ≡ new ++ say rest
said_more say text old new front rest is more = rw (is, more, append_assoc)

-- the same, of the first bytes of a text, which say themselves
pub run_said : (say : List ℕ → List ℕ) (text old new rest : List ℕ) (n m : ℕ)
    → say text ≡ take m text ++ say (drop m text) → n ≡ m → new ≡ old ++ take n text → rest ≡ drop n text
    → old ++ say text ≡ new ++ say rest
run_said say text old new rest n m is same more behind =
    said_more say text old new (take n text) rest (rw (behind, same) is) more
