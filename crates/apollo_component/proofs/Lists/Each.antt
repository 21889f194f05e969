-- What holds of each element of a list, and of each moment of one.
use Rattle.std.proofs.Common.{◌≡◌, ℕ, ◌+◌, ◌<◌, Bool, true, false, List, [], ◌∷◌, ◌++◌, length, zero, suc}
use Rattle.std.proofs.Common.{map, filter, refl, ap, ◌∙◌, append_assoc, length-append, arith}
use Rattle.std.specs.List.{AllByRecursion, flat_map, range_with_len}
use Rattle.std.proofs.lemmas.Grind.{flat_map-append}
use Rattle.std.proofs.lemmas.List.{append-nil}
use Rattle.apollo_component.proofs.Lists.Cases.{bool_cases}

module _ {X : Type 0} (P : X → Type 0) where
  pub each-append : (xs ys : List X) → AllByRecursion P xs → AllByRecursion P ys → AllByRecursion P (xs ++ ys)
  each-append [] ys a b = b
  each-append (x ∷ xs) ys a b = (a.0, each-append xs ys a.1 b)

  pub each-weaken : (Q : X → Type 0) → ((x : X) → P x → Q x) → (xs : List X) → AllByRecursion P xs
      → AllByRecursion Q xs
  each-weaken Q weaker [] a = tt
  each-weaken Q weaker (x ∷ xs) a = (weaker x a.0, each-weaken Q weaker xs a.1)

  -- what passes a test holds and passes
  pub each-filter : (q : X → Bool) (xs : List X) → AllByRecursion P xs
      → AllByRecursion (λ x. P x × (q x ≡ true)) (filter q xs)
  each-filter q [] a = tt
  each-filter q (x ∷ xs) a =
      let rest = each-filter q xs a.1 in bool_cases (q x) (λ e. rw e ((a.0, e), rest)) (λ e. rw e rest)

  -- tests that agree there keep the same
  pub filter-each : (q r : X → Bool) → ((x : X) → P x → q x ≡ r x) → (xs : List X) → AllByRecursion P xs
      → filter q xs ≡ filter r xs
  filter-each q r agree [] a = refl
  filter-each q r agree (x ∷ xs) a = rw (agree x a.0, filter-each q r agree xs a.1)

  -- a test that fails there keeps nothing
  pub filter-fails : (q : X → Bool) → ((x : X) → P x → q x ≡ false) → (xs : List X) → AllByRecursion P xs
      → filter q xs ≡ []
  filter-fails q fails [] a = refl
  filter-fails q fails (x ∷ xs) a = rw (fails x a.0) (filter-fails q fails xs a.1)

  -- functions that agree there give the same
  pub flat_map-each : {Y : Type 0} (f g : X → List Y) → ((x : X) → P x → f x ≡ g x) → (xs : List X)
      → AllByRecursion P xs → flat_map f xs ≡ flat_map g xs
  flat_map-each f g agree [] a = refl
  flat_map-each f g agree (x ∷ xs) a = rw (agree x a.0, flat_map-each f g agree xs a.1)

-- what passes a test among what a function gives
pub filter-map : {X Y : Type 0} (p : Y → Bool) (f : X → Y) (xs : List X)
    → filter p (map f xs) ≡ map f (filter (λ x. p (f x)) xs)
filter-map p f [] = refl
filter-map p f (x ∷ xs) = grind (arith, filter-map p f xs)

range-push : (a n : ℕ) → range_with_len a (suc n) ≡ range_with_len a n ++ (a + n) ∷ []
range-push a zero = ap (λ (i : ℕ). i ∷ []) (omega arith)
range-push a (suc n) = ap (λ l. a ∷ l) (range-push (a + 1) n ∙ ap (λ (i : ℕ). range_with_len (a + 1) n
    ++ i ∷ []) (omega arith))

flat_map-range : {Y : Type 0} (f g : ℕ → List Y) (a n : ℕ) → ((i : ℕ) → i < a + n → f i ≡ g i)
    → flat_map f (range_with_len a n) ≡ flat_map g (range_with_len a n)
flat_map-range f g a zero agree = refl
flat_map-range f g a (suc n) agree =
    rw (agree a (omega arith), flat_map-range f g (a + 1) n (λ i lt. agree i (omega (arith, lt))))

-- one more element leaves what was at each moment, and adds its own: seen from a place on, and from the first
-- one
pub moments-on : {X Y : Type 0} (at : List X → ℕ → List Y) (before xs : List X) (x : X)
    → ((i : ℕ) → i < length (before ++ xs) → at ((before ++ xs) ++ x ∷ []) i ≡ at (before ++ xs) i)
    → flat_map (at (before ++ (xs ++ x ∷ []))) (range_with_len (length before) (length (xs ++ x ∷ [])))
    ≡ flat_map (at (before ++ xs)) (range_with_len (length before) (length xs))
    ++ at ((before ++ xs) ++ x ∷ []) (length (before ++ xs))
moments-on at before xs x earlier =
    let ys = (before ++ xs) ++ x ∷ [] in
    let a = length before in
    let n = length xs in
    let count : length (xs ++ x ∷ []) ≡ suc n = length-append xs _ ∙ omega arith in
    let all = length-append before xs in
    rw (
      ← append_assoc before xs (x ∷ []),
      ap (range_with_len a) count ∙ range-push a n,
      flat_map-append,
      flat_map-range (at ys) (at (before ++ xs)) a n (λ i lt. earlier i (omega (arith, lt, all))),
      append-nil,
      all,
    )

pub moments-push : {X Y : Type 0} (at : List X → ℕ → List Y) (xs : List X) (x : X)
    → ((i : ℕ) → i < length xs → at (xs ++ x ∷ []) i ≡ at xs i)
    → flat_map (at (xs ++ x ∷ [])) (range_with_len 0 (length (xs ++ x ∷ []))) ≡ flat_map (at xs)
    (range_with_len 0 (length xs)) ++ at (xs ++ x ∷ []) (length xs)
moments-push at = moments-on at []
