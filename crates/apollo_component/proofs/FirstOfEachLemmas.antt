-- What `first_of_each` leaves of a list, with one more element and seen through a function.
use Rattle.std.proofs.Common.{◌≡◌, Bool, true, false, cond, not, List, [], ◌∷◌, ◌++◌, Some, is_some, map}
use Rattle.std.proofs.Common.{filter, refl, sym, ap, ◌∙◌, arith}
use Rattle.std.proofs.lemmas.List.{append-nil}
use Rattle.std.proofs.lemmas.List.Elements.{filter-append}
use Rattle.std.specs.Cmp.{IsEquivalence, on_equiv}
use Rattle.std.specs.Cmp.Lexicographic.{nat_list_eq_equiv}
use Rattle.std.specs.List.{AllByRecursion, find, list_any}
use Rattle.std.specs.Map.{keys_of, lookup, lookup_key}
use Rattle.indexmap.specs.IndexMap.{insert_entry}
use Rattle.graphql_nodes.specs.NameView.{NameView}
use Rattle.graphql_nodes.specs.SameText.{same_text}
use Rattle.apollo_component.specs.FirstOfEach.{first_of_each, same_key}
use Rattle.apollo_component.proofs.Lists.Each.{each-filter, each-weaken, filter-map}

-- something is found where something passes
pub found-any : {X : Type 0} (test : X → Bool) (xs : List X) → is_some (find test xs) ≡ list_any test xs
found-any test [] = refl
found-any test (x ∷ xs) = grind (arith, found-any test xs)

-- names are the same by their texts, and entries by their names
pub name_laws : IsEquivalence same_text
name_laws = on_equiv (λ (n : NameView). n.text) nat_list_eq_equiv

pub entry_laws : {V : Type 0} → IsEquivalence (same_key {V = V} same_text)
entry_laws = on_equiv (λ e. e.0) name_laws

-- what holds of each element holds of the first ones
pub each-first : {X : Type 0} (P : X → Type 0) (same : X → X → Bool) (xs : List X) → AllByRecursion P xs
    → AllByRecursion P (first_of_each same xs)
each-first P same [] a = tt
each-first P same (x ∷ xs) a = (
  a.0,
  each-weaken _ P (λ y h. h.0) _ (each-filter P _ _ (each-first P same xs a.1)),
)

-- the first of each, seen through the function that they are told apart by
pub first_of_each-map : {X Y : Type 0} (same : Y → Y → Bool) (f : X → Y) (xs : List X)
    → map f (first_of_each (λ x y. same (f x) (f y)) xs) ≡ first_of_each same (map f xs)
first_of_each-map same f [] = refl
first_of_each-map same f (x ∷ xs) = ap (λ l. f x ∷ l) (sym (filter-map (λ y. not (same (f x) y)) f _)
    ∙ ap (filter (λ y. not (same (f x) y))) (first_of_each-map same f xs))

module _ {X : Type 0} (same : X → X → Bool) (laws : IsEquivalence same) where
  -- those that are not the same as one
  abbrev but : X → List X → List X
  but m = filter (λ x. not (same m x))

  -- what is the same as one of two that differ is not the same as the other
  other : (n m x : X) → same n m ≡ false → same n x ≡ true → same m x ≡ false
  other n m x apart e = grind (arith, laws.congr n x m, laws.symm m x, laws.symm x m)

  -- taking out what is the same as one thing leaves what is the same as another
  find-but_other : (n m : X) (xs : List X) → same n m ≡ false → find (same n) (but m xs) ≡ find (same n) xs
  find-but_other n m [] apart = refl
  find-but_other n m (x ∷ xs) apart = grind (arith, other n m x, find-but_other n m xs apart)

  -- what is found first is left
  pub find-first_of_each : (n : X) (xs : List X) → find (same n) (first_of_each same xs) ≡ find (same n) xs
  find-first_of_each n [] = refl
  find-first_of_each n (x ∷ xs) =
      grind (arith, find-but_other n x (first_of_each same xs), find-first_of_each n xs)

  -- so what is left has the same things
  pub list_any-first_of_each : (n : X) (xs : List X)
      → list_any (same n) (first_of_each same xs) ≡ list_any (same n) xs
  list_any-first_of_each n xs = rw (← found-any (same n) (first_of_each same xs), find-first_of_each n xs)
      (found-any _ xs)

  -- a new thing is left, last
  pub first_of_each-push_new : (xs : List X) (n : X) → list_any (same n) xs ≡ false
      → first_of_each same (xs ++ n ∷ []) ≡ first_of_each same xs ++ n ∷ []
  first_of_each-push_new [] n none = refl
  first_of_each-push_new (x ∷ xs) n none = grind (
    arith,
    first_of_each-push_new xs n,
    laws.symm x n,
    filter-append (λ y. not (same x y)) (first_of_each same xs) (n ∷ []),
  )

  -- an old one is not
  pub first_of_each-push_old : (xs : List X) (n : X) → list_any (same n) xs ≡ true
      → first_of_each same (xs ++ n ∷ []) ≡ first_of_each same xs
  first_of_each-push_old [] n there = cc
  first_of_each-push_old (x ∷ xs) n there = grind (
    arith,
    first_of_each-push_new xs n,
    first_of_each-push_old xs n,
    laws.symm x n,
    filter-append (λ y. not (same x y)) (first_of_each same xs) (n ∷ []),
    append-nil (but x (first_of_each same xs)),
  )

-- the keys that are left are the first of each key
pub keys_of-first_of_each : {K V : Type 0} (eq : K → K → Bool) (es : List (K × V))
    → keys_of (first_of_each (same_key eq) es) ≡ first_of_each eq (keys_of es)
keys_of-first_of_each eq es = first_of_each-map eq _ es

-- a key that is looked up is the first of the keys that passes the test
pub lookup_key-find : {K V : Type 0} (test : K → Bool) (es : List (K × V))
    → lookup_key test es ≡ find test (keys_of es)
lookup_key-find test [] = refl
lookup_key-find test (e ∷ es) = ap (cond (test e.0) (Some e.0)) (lookup_key-find test es)

-- a look-up finds something where some key passes the test
pub is_some-lookup : {K V : Type 0} (test : K → Bool) (es : List (K × V))
    → is_some (lookup test es) ≡ list_any (λ e. test e.0) es
is_some-lookup test [] = refl
is_some-lookup test (e ∷ es) = grind (arith, is_some-lookup test es)

-- an entry of a new key goes last
pub insert_entry-last : {K V : Type 0} (eq : K → K → Bool) (es : List (K × V)) (k : K) (v : V)
    → list_any (λ e. eq k e.0) es ≡ false → insert_entry eq es k v ≡ es ++ (k, v) ∷ []
insert_entry-last eq [] k v none = refl
insert_entry-last eq (e ∷ es) k v none = grind (arith, insert_entry-last eq es k v)
