-- What becomes of a list with more elements at its end.
use Rattle.std.proofs.Common.{◌≡◌, ℕ, ◌+◌, ◌<◌, Bool, true, false, List, [], ◌∷◌, ◌++◌, length, zero, suc}
use Rattle.std.proofs.Common.{Option, Some, None, filter, slice_get, map, refl, sym, ap, subst, append_assoc}
use Rattle.std.proofs.Common.{arith}
use Rattle.std.specs.List.{AllByRecursion, filter_map, enumerate_from}
use Rattle.std.specs.Option.{option_map, option_or}
use Rattle.std.specs.Map.{lookup}
use Rattle.std.proofs.lemmas.List.{append-nil}
use Rattle.std.proofs.lemmas.List.Elements.{filter-append, filter_map-append}

-- what holds of the empty list, and of a list with one more element if it holds of the list, holds of each
-- list
pub snoc_ind : {X : Type 0} (P : List X → Type 0) → P [] → ((xs : List X) (x : X) → P xs → P (xs ++ x ∷ []))
    → (xs : List X) → P xs
snoc_ind {X} P base step xs = go [] xs base
  where
    go : (before ys : List X) → P before → P (before ++ ys)
    go before [] h = subst P (sym (append-nil before)) h
    go before (y ∷ ys) h = subst P (append_assoc before _ ys) (go (before ++ y ∷ []) ys (step before y h))

-- numbers go on
pub enumerate_from-append : {X : Type 0} (n : ℕ) (xs ys : List X)
    → enumerate_from n (xs ++ ys) ≡ enumerate_from n xs ++ enumerate_from (n + length xs) ys
enumerate_from-append n [] ys = grind arith
enumerate_from-append n (x ∷ xs) ys = grind (arith, enumerate_from-append (n + 1) xs ys)

-- what is left out adds nothing
pub filter_map-push_none : {X Y : Type 0} (which : X → Option Y) (xs : List X) (x : X) → which x ≡ None
    → filter_map which (xs ++ x ∷ []) ≡ filter_map which xs
filter_map-push_none which xs x none =
    grind (arith, none, filter_map-append which xs (x ∷ []), append-nil (filter_map which xs))

-- what is chosen, with its number and without
pub filter_map-numbered : {X Y : Type 0} (which : X → Option Y) (n : ℕ) (xs : List X)
    → map (λ (e : ℕ × Y). e.1) (filter_map (λ (e : ℕ × X). option_map (λ (y : Y). (e.0, y)) (which e.1))
    (enumerate_from n xs)) ≡ filter_map which xs
filter_map-numbered which n [] = refl
filter_map-numbered which n (x ∷ xs) = grind (arith, filter_map-numbered which (n + 1) xs)

-- an element that passes a test, and one that doesn't
pub filter-push_kept : {X : Type 0} (p : X → Bool) (xs : List X) (x : X) → p x ≡ true
    → filter p (xs ++ x ∷ []) ≡ filter p xs ++ x ∷ []
filter-push_kept p xs x e = grind (arith, e, filter-append p xs (x ∷ []))

pub filter-push_dropped : {X : Type 0} (p : X → Bool) (xs : List X) (x : X) → p x ≡ false
    → filter p (xs ++ x ∷ []) ≡ filter p xs
filter-push_dropped p xs x e = grind (arith, e, filter-append p xs (x ∷ []), append-nil (filter p xs))

-- all is chosen of what is made to be chosen
pub filter_map-made : {X Y : Type 0} (which : X → Option Y) (make : Y → X)
    → ((y : Y) → which (make y) ≡ Some y) → (ys : List Y) → filter_map which (map make ys) ≡ ys
filter_map-made which make is [] = refl
filter_map-made which make is (y ∷ ys) = simp (is y, filter_map-made which make is ys)

-- and nothing of what is made to be left out
pub filter_map-unmade : {X Y Z : Type 0} (which : X → Option Y) (make : Z → X)
    → ((z : Z) → which (make z) ≡ None) → (zs : List Z) → filter_map which (map make zs) ≡ []
filter_map-unmade which make none [] = refl
filter_map-unmade which make none (z ∷ zs) = rw (none z) (filter_map-unmade which make none zs)

-- a test that all pass keeps all
pub filter-all : {X : Type 0} (p : X → Bool) (xs : List X) → AllByRecursion (λ x. p x ≡ true) xs
    → filter p xs ≡ xs
filter-all p [] a = refl
filter-all p (x ∷ xs) a = rw a.0 (ap (λ l. x ∷ l) (filter-all p xs a.1))

pub all-kept : {X : Type 0} (xs : List X) → xs ≡ filter (λ _. true) xs
all-kept [] = refl
all-kept (x ∷ xs) = ap (λ l. x ∷ l) (all-kept xs)

-- nothing else
pub or-none : {X : Type 0} (o : Option X) → option_or o None ≡ o
or-none None = refl
or-none (Some x) = refl

-- what stands under a key in a front, or else in the rest
pub lookup-append : {K V : Type 0} (test : K → Bool) (es fs : List (K × V))
    → lookup test (es ++ fs) ≡ option_or (lookup test es) (lookup test fs)
lookup-append test [] fs = refl
lookup-append test (e ∷ es) fs = grind (arith, lookup-append test es fs)

-- the first element of two lists; the elements of a front; and the last one
pub slice_get-append : {X : Type 0} (xs ys : List X)
    → slice_get (xs ++ ys) 0 ≡ option_or (slice_get xs 0) (slice_get ys 0)
slice_get-append [] ys = refl
slice_get-append (x ∷ xs) ys = refl

pub slice_get-front : {X : Type 0} (xs ys : List X) (i : ℕ) → i < length xs
    → slice_get (xs ++ ys) i ≡ slice_get xs i
slice_get-front [] ys i lt = absurd (omega (arith, lt))
slice_get-front (x ∷ xs) ys zero lt = refl
slice_get-front (x ∷ xs) ys (suc i) lt = slice_get-front xs ys i (omega (arith, lt))

pub slice_get-last : {X : Type 0} (xs : List X) (x : X) → slice_get (xs ++ x ∷ []) (length xs) ≡ Some x
slice_get-last [] x = refl
slice_get-last (y ∷ ys) x = slice_get-last ys x
