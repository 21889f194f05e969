-- Lists with the same elements in another order: what holds of each, where they have one element, parts that
-- change places, and what is made of each element.
use Rattle.std.proofs.Common.{◌≡◌, Bool, List, [], ◌∷◌, ◌++◌, length, map, filter, Option, refl, sym, subst, ◌∙◌}
use Rattle.std.proofs.Common.{append_assoc, arith, get_or, set, suc, swap, zero, ℕ, ◌<◌}
use Rattle.std.specs.List.{AllByRecursion, filter_map, flat_map}
use Rattle.std.specs.List.Sorted.{IsPermutation}
use Rattle.std.proofs.lemmas.List.{map-append}
use Rattle.std.proofs.lemmas.List.Edits.{swap_is}
use Rattle.std.proofs.lemmas.List.Elements.{All-from_recursion, recursion_from_All}
use Rattle.std.proofs.lemmas.List.Sorted.{All-permutation, length_permutation, IsPermutation-append_comm}
use Rattle.std.proofs.lemmas.List.Sorted.{IsPermutation-append_left, IsPermutation-append_right}
use Rattle.std.proofs.lemmas.List.Sorted.{IsPermutation-keeps, IsPermutation-refl, IsPermutation-trans}

-- what holds of each element holds of each in another order
pub each-permutation : {X : Type 0} (P : X → Type 0) (xs ys : List X) → IsPermutation xs ys
    → AllByRecursion P xs → AllByRecursion P ys
each-permutation P xs ys s a = recursion_from_All P ys (All-permutation P xs ys s (All-from_recursion P xs a))

-- lists of one element, as often as it may be, are one where they are as long
one-element : {X : Type 0} (c : List X) (xs ys : List X) → AllByRecursion (λ z. c ≡ z ∷ []) xs
    → AllByRecursion (λ z. c ≡ z ∷ []) ys → length xs ≡ length ys → xs ≡ ys
one-element c [] [] a b e = refl
one-element c [] (y ∷ ys) a b e = absurd (omega (arith, e))
one-element c (x ∷ xs) [] a b e = absurd (omega (arith, e))
one-element c (x ∷ xs) (y ∷ ys) a b e =
    (λ i. (sym a.0 ∙ b.0) i ++ one-element c xs ys a.1 b.1 (omega (arith, e)) i)

-- so are two orders of it
pub one-element-permutation : {X : Type 0} (c : List X) (xs ys : List X) → IsPermutation xs ys
    → AllByRecursion (λ z. c ≡ z ∷ []) xs → xs ≡ ys
one-element-permutation c xs ys s a = one-element c xs ys a (each-permutation _ xs ys s a)
    (sym (length_permutation xs ys s))

-- the first two of three parts in each other's place
pub exchange : {X : Type 0} (p q r : List X) → IsPermutation (p ++ (q ++ r)) (q ++ (p ++ r))
exchange p q r = rw (append_assoc, append_assoc) at (IsPermutation-append_left r (p ++ q) (q
    ++ p) (IsPermutation-append_comm p q))

module _ {X Y : Type 0} (f : X → List Y) where
  -- an element in another's place
  flat_map-set : (l : List X) (j : ℕ) (x d : X) → j < length l
      → IsPermutation (f x ++ flat_map f l) (f (get_or l j d) ++ flat_map f (set l j x))
  flat_map-set [] j x d lt = absurd (omega (arith, lt))
  flat_map-set (y ∷ l) zero x d lt = exchange (f x) (f y) _
  flat_map-set (y ∷ l) (suc j) x d lt =
      let z = f (get_or l j d) in
      let rest = flat_map f (set l j x) in
      IsPermutation-trans _ _ _ (exchange (f x) (f y) _)
      (IsPermutation-trans _ _ _ (IsPermutation-append_right (f y) _ _
      (flat_map-set l j x d (omega (arith, lt)))) (exchange (f y) z rest))

  -- two elements in each other's place
  flat_map-swap : (l : List X) (i j : ℕ) (d : X) → i < length l → j < length l
      → IsPermutation (flat_map f l) (flat_map f (set (set l i (get_or l j d)) j (get_or l i d)))
  flat_map-swap [] i j d a b = absurd (omega (arith, a))
  flat_map-swap (y ∷ l) zero zero d a b = IsPermutation-refl _
  flat_map-swap (y ∷ l) zero (suc j) d a b = flat_map-set l j y d (omega (arith, b))
  flat_map-swap (y ∷ l) (suc i) zero d a b = flat_map-set l i y d (omega (arith, a))
  flat_map-swap (y ∷ l) (suc i) (suc j) d a b =
      IsPermutation-append_right (f y) _ _ (flat_map-swap l i j d (omega (arith, a)) (omega (arith, b)))

  pub flat_map-permutation : (xs ys : List X) → IsPermutation xs ys
      → IsPermutation (flat_map f xs) (flat_map f ys)
  flat_map-permutation xs ys = IsPermutation-keeps xs (λ l. IsPermutation (flat_map f xs) (flat_map f l))
      (IsPermutation-refl _) (λ l i j a b so_far. IsPermutation-trans _ _ _ so_far (step l i j a b)) ys
    where
      step : (l : List X) (i j : ℕ) → i < length l → j < length l
          → IsPermutation (flat_map f l) (flat_map f (swap l i j))
      step [] i j a b = absurd (omega (arith, a))
      step (d ∷ l) i j a b = subst (λ m. IsPermutation (flat_map f (d ∷ l)) (flat_map f m))
          (swap_is (d ∷ l) i j d a b) (flat_map-swap (d ∷ l) i j d a b)

-- where functions agree
pub alike-permutation : {X Y : Type 0} (f g : X → List Y) → ((x : X) → f x ≡ g x) → (xs ys : List X)
    → IsPermutation xs ys → IsPermutation (flat_map f xs) (flat_map g ys)
alike-permutation {X} {Y} f g same xs ys p = subst (λ (h : X → List Y). IsPermutation (flat_map f xs)
    (flat_map h ys)) (λ i x. same x i) (flat_map-permutation f xs ys p)

-- what is made of each element of joined lists
pub map-flat_map : {X Y Z : Type 0} (f : Y → Z) (g : X → List Y) (xs : List X)
    → map f (flat_map g xs) ≡ flat_map (λ x. map f (g x)) xs
map-flat_map f g [] = refl
map-flat_map f g (x ∷ xs) = simp (map-append, map-flat_map f g xs)

-- what is made of a list one element after another, as of those that pass a test and of a choice
module _ {X Y : Type 0} (make : List X → List Y) (none : [] ≡ make []) (each : (x : X) (xs : List X)
    → make (x ∷ []) ++ make xs ≡ make (x ∷ xs)) where
  made-flat : (xs : List X) → flat_map (λ x. make (x ∷ [])) xs ≡ make xs
  made-flat [] = none
  made-flat (x ∷ xs) = rw (made-flat xs) (each x xs)

  made-permutation : (xs ys : List X) → IsPermutation xs ys → IsPermutation (make xs) (make ys)
  made-permutation xs ys s = rw (made-flat xs, made-flat ys) at (flat_map-permutation (λ x. make (x ∷ [])) xs
      ys s)

pub filter-permutation : {X : Type 0} (p : X → Bool) (xs ys : List X) → IsPermutation xs ys
    → IsPermutation (filter p xs) (filter p ys)
filter-permutation p = made-permutation (filter p) refl (λ x xs. grind arith)

pub filter_map-permutation : {X Y : Type 0} (which : X → Option Y) (xs ys : List X) → IsPermutation xs ys
    → IsPermutation (filter_map which xs) (filter_map which ys)
filter_map-permutation which = made-permutation (filter_map which) refl (λ x xs. grind arith)
