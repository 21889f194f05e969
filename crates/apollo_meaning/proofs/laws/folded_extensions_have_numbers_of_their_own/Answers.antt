use Rattle.apollo_meaning.proofs.Prelude.{◌≡◌, ◌∙◌, ℕ, ◌+◌, ◌<◌, Bool, true, false, refl, List, [], ◌∷◌}
use Rattle.apollo_meaning.proofs.Prelude.{keys_of, arith, AllByRecursion, key_of, Folding, OfType, OfSchema}
use Rattle.apollo_meaning.proofs.Prelude.{same, extension_part, extensions_with_origin, ◌⊎◌, inl, inr}
use Rattle.apollo_meaning.proofs.Prelude.{enumerate_from, nat_eq, ne_eqb, schema_extension_source}
use Rattle.apollo_meaning.proofs.Prelude.{schema_sourced, folding_order}
use Rattle.std.specs.List.{IsDistinct}
use Rattle.apollo_component.specs.Extensions.{same_origin}
use Rattle.apollo_meaning.proofs.laws.folded_extensions_have_numbers_of_their_own.Goals as goal

-- the element at a number gives what has the key of that number, or nothing
abbrev GivesOne : {X P K : Type 0} → (ℕ × P → K × P) → (ℕ → List X → List (K × P)) → ℕ → X → List X → Type 0
GivesOne {P = P} keyed chosen n x xs = (chosen n (x ∷ xs) ≡ chosen (n + 1) xs)
    ⊎ ((p : P) × (chosen n (x ∷ xs) ≡ keyed (n, p) ∷ chosen (n + 1) xs))

-- so no two of what all give have one key
module _ {X P K : Type 0} (eq : K → K → Bool) (keyed : ℕ × P → K × P) (alike : (e f : ℕ × P)
    → eq (keyed e).0 (keyed f).0 ≡ nat_eq e.0 f.0) (chosen : ℕ → List X → List (K × P)) (none : (n : ℕ)
    → chosen n [] ≡ []) (step : (n : ℕ) (x : X) (xs : List X) → GivesOne keyed chosen n x xs) where
  abbrev Lacks : ℕ × P → List (K × P) → Type 0
  Lacks e es = AllByRecursion (λ k. eq (keyed e).0 k ≡ false) (keys_of es)

  keys-lack : (e : ℕ × P) (n : ℕ) → e.0 < n → (xs : List X) → Lacks e (chosen n xs)
  keys-lack e n lt [] = rw (none n) tt
  keys-lack e n lt (x ∷ xs) = by (step n x xs) (keys-lack e (n + 1) (omega (arith, lt)) xs)
    where
      by : GivesOne keyed chosen n x xs → Lacks e (chosen (n + 1) xs) → Lacks e (chosen n (x ∷ xs))
      by (inl is) rest = rw is rest
      by (inr (p, is)) rest = rw is (alike e (n, p) ∙ ne_eqb e.0 n (λ one. omega (arith, lt, one)), rest)

  keys-distinct : (n : ℕ) (xs : List X) → IsDistinct eq (keys_of (chosen n xs))
  unfolding IsDistinct
  keys-distinct n [] = rw (none n) tt
  keys-distinct n (x ∷ xs) = by (step n x xs) (keys-distinct (n + 1) xs)
    where
      by : GivesOne keyed chosen n x xs → IsDistinct eq (keys_of (chosen (n + 1) xs))
          → IsDistinct eq (keys_of (chosen n (x ∷ xs)))
      by (inl is) rest = rw is rest
      by (inr (p, is)) rest = rw is (keys-lack (n, p) (n + 1) (omega arith) xs, rest)

pub returns-clause-numbers : goal.returns-clause-numbers
returns-clause-numbers c = λ start xs. keys-distinct nat_eq (λ e. e) (λ _ _. refl) enumerate_from (λ _. refl)
    (λ n x fs. inr (x, refl)) start (folding_order xs)

pub returns-clause-of_a_type : goal.returns-clause-of_a_type
returns-clause-of_a_type c = λ start xs n. keys-distinct same_origin extension_part (λ _ _. refl)
    (extensions_with_origin n) (λ _. refl) (step n) start (folding_order xs)
  where
    step : (n : List ℕ) (i : ℕ) (x : Folding) (fs : List Folding)
        → GivesOne extension_part (extensions_with_origin n) i x fs
    step n i (OfSchema s) fs = inl refl
    step n i (OfType p) fs = by (same n (key_of p)) refl
      where
        by : (b : Bool) → same n (key_of p) ≡ b
            → GivesOne extension_part (extensions_with_origin n) i (OfType p) fs
        by true e = inr (p, rw e)
        by false e = inl (rw e)

pub returns-clause-of_the_schema : goal.returns-clause-of_the_schema
returns-clause-of_the_schema c = λ start xs. keys-distinct same_origin schema_extension_source (λ _ _. refl)
    schema_sourced (λ _. refl) step start (folding_order xs)
  where
    step : (i : ℕ) (x : Folding) (fs : List Folding) → GivesOne schema_extension_source schema_sourced i x fs
    step i (OfType p) fs = inl refl
    step i (OfSchema s) fs = inr (s, refl)
