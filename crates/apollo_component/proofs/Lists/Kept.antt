-- Lists: what holds of each element, what tests keep and choose, what is found, and groups of elements by
-- keys that differ.
use Rattle.std.proofs.Common.{◌≡◌, Bool, true, false, cond, ◌&&◌, List, [], ◌∷◌, ◌++◌, None, Option, Some, map}
use Rattle.std.proofs.Common.{option_map, filter, find, refl, sym, ap, ◌∙◌, arith, not, subst, true≢false, ◌+◌}
use Rattle.std.proofs.Common.{is_some, length, length-append, map-id, slice_get, ◌≤◌}
use Rattle.std.specs.Cmp.{IsEquivalence}
unfoldable use Rattle.std.specs.List.{IsDistinct}
use Rattle.std.specs.List.{flat_map, AllByRecursion, filter_map, list_any}
use Rattle.std.specs.List.Sorted.{IsPermutation}
use Rattle.std.specs.Option.{IfSome, option_map_or}
use Rattle.std.proofs.lemmas.List.Elements.{filter-append, filter_passes, recursion_from_All}
use Rattle.std.proofs.lemmas.List.Sorted.{IsPermutation-append_right, IsPermutation-filter_both}
use Rattle.std.proofs.lemmas.List.Sorted.{IsPermutation-refl, IsPermutation-trans}
use Rattle.apollo_component.specs.FirstOfEach.{first_of_each}
use Rattle.apollo_component.proofs.FirstOfEachLemmas.{first_of_each-map}
use Rattle.apollo_component.proofs.Lists.BySubject.{filter-wider}
use Rattle.apollo_component.proofs.Lists.Cases.{find-first}
use Rattle.apollo_component.proofs.Lists.Each.{each-append, each-filter, each-weaken, filter-fails, flat_map-each}
use Rattle.apollo_component.proofs.Lists.Ends.{filter-all}
use Rattle.apollo_component.proofs.Lists.Reordered.{filter-permutation, one-element-permutation}
use Rattle.apollo_component.proofs.Tabled.{first_of_each-distinct}

pub filter-filter : {X : Type 0} (p q : X → Bool) (xs : List X)
    → filter p (filter q xs) ≡ filter (λ x. q x && p x) xs
filter-filter p q [] = refl
filter-filter p q (x ∷ xs) = grind (arith, filter-filter p q xs)

-- a test that answers the same at all keeps all or none
pub filter-alike : {X : Type 0} (p : X → Bool) (b : Bool) (xs : List X) → AllByRecursion (λ x. p x ≡ b) xs
    → filter p xs ≡ cond b xs []
filter-alike p true xs a = filter-all p xs a
filter-alike p false xs a = filter-fails _ p (λ x e. e) xs a

pub each-of : {X : Type 0} (P : X → Type 0) → ((x : X) → P x) → (xs : List X) → AllByRecursion P xs
each-of P all [] = tt
each-of P all (x ∷ xs) = (all x, each-of P all xs)

-- two facts at each element
pub each-both : {X : Type 0} (P Q R : X → Type 0) → ((x : X) → P x → Q x → R x) → (xs : List X)
    → AllByRecursion P xs → AllByRecursion Q xs → AllByRecursion R xs
each-both P Q R both [] p q = tt
each-both P Q R both (x ∷ xs) p q = (both x p.0 q.0, each-both P Q R both xs p.1 q.1)

pub each-split : {X : Type 0} (P : X → Type 0) (xs ys : List X) → AllByRecursion P (xs ++ ys)
    → AllByRecursion P xs × AllByRecursion P ys
each-split P [] ys a = (tt, a)
each-split P (x ∷ xs) ys a = let rest = each-split P xs ys a.1 in ((a.0, rest.0), rest.1)

pub each-map : {X Y : Type 0} (P : Y → Type 0) (f : X → Y) (xs : List X) → AllByRecursion (λ x. P (f x)) xs
    → AllByRecursion P (map f xs)
each-map P f [] a = tt
each-map P f (x ∷ xs) a = (a.0, each-map P f xs a.1)

pub each-from_map : {X Y : Type 0} (P : Y → Type 0) (f : X → Y) (xs : List X) → AllByRecursion P (map f xs)
    → AllByRecursion (λ x. P (f x)) xs
each-from_map P f [] a = tt
each-from_map P f (x ∷ xs) a = (a.0, each-from_map P f xs a.1)

-- what holds of all that is made of each
pub each-made : {X Y : Type 0} (P : Y → Type 0) (make : X → Y) → ((x : X) → P (make x)) → (xs : List X)
    → AllByRecursion P (map make xs)
each-made P make each xs = each-map P make xs (each-of _ each xs)

pub each-flat_map : {X Y : Type 0} (P : Y → Type 0) (f : X → List Y) (xs : List X)
    → AllByRecursion (λ x. AllByRecursion P (f x)) xs → AllByRecursion P (flat_map f xs)
each-flat_map P f [] a = tt
each-flat_map P f (x ∷ xs) a = each-append P (f x) _ a.0 (each-flat_map P f xs a.1)

pub each-flat_map_back : {X Y : Type 0} (P : Y → Type 0) (f : X → List Y) (xs : List X)
    → AllByRecursion P (flat_map f xs) → AllByRecursion (λ x. AllByRecursion P (f x)) xs
each-flat_map_back P f [] a = tt
each-flat_map_back P f (x ∷ xs) a =
    let both = each-split P (f x) _ a in
    (both.0, each-flat_map_back P f xs both.1)

pub map-each : {X Y : Type 0} (f g : X → Y) (xs : List X) → AllByRecursion (λ x. f x ≡ g x) xs
    → map f xs ≡ map g xs
map-each f g [] a = refl
map-each f g (x ∷ xs) a = λ i. a.0 i ∷ map-each f g xs a.1 i

-- what is made alike of all is made alike of each
pub map-same : {X Y : Type 0} (f g : X → Y) (xs : List X) → map f xs ≡ map g xs
    → AllByRecursion (λ x. f x ≡ g x) xs
map-same f g [] h = tt
map-same f g (x ∷ xs) h = (cc, map-same f g xs (cc))

pub filter-flat_map : {X Y : Type 0} (p : Y → Bool) (f : X → List Y) (xs : List X)
    → filter p (flat_map f xs) ≡ flat_map (λ x. filter p (f x)) xs
filter-flat_map p f [] = refl
filter-flat_map p f (x ∷ xs) = rw (filter-append, filter-flat_map p f xs)

-- what makes nothing of each makes nothing of all
pub flat_map-nothing : {X Y : Type 0} (f : X → List Y) (xs : List X) → AllByRecursion (λ x. f x ≡ []) xs
    → flat_map f xs ≡ []
flat_map-nothing f [] a = refl
flat_map-nothing f (x ∷ xs) a = rw a.0 (flat_map-nothing f xs a.1)

pub flat_map-none : {X Y : Type 0} (f : X → List Y) → ((x : X) → f x ≡ []) → (xs : List X)
    → flat_map f xs ≡ []
flat_map-none f none xs = flat_map-nothing f xs (each-of _ none xs)

-- a choice that takes all, and one that takes nothing
pub filter_map-some : {X : Type 0} (xs : List X) → filter_map (λ x. Some x) xs ≡ xs
filter_map-some [] = refl
filter_map-some (x ∷ xs) = ap (λ l. x ∷ l) (filter_map-some xs)

pub filter_map-none : {X Y : Type 0} (xs : List X) → filter_map {Y = Y} (λ x. None) xs ≡ []
filter_map-none [] = refl
filter_map-none {X} {Y} (x ∷ xs) = filter_map-none {Y = Y} xs

-- what a test keeps passes it
pub passes : {X : Type 0} (p : X → Bool) (xs : List X) → AllByRecursion (λ x. p x ≡ true) (filter p xs)
passes p xs = recursion_from_All _ _ (filter_passes p xs)

-- what holds of all holds of what is found
pub if-found : {X : Type 0} (P : X → Type 0) (p : X → Bool) (xs : List X) → AllByRecursion P xs
    → IfSome (find p xs) P
if-found P p [] a = tt
if-found P p (x ∷ xs) a = grind (arith, a.0, if-found P p xs a.1)

pub found-holds : {X : Type 0} (P : X → Type 0) (p : X → Bool) (xs : List X) (y : X) → AllByRecursion P xs
    → find p xs ≡ Some y → P y
found-holds P p xs y a e = rw e at (if-found P p xs a)

pub option_map-twice : {X Y Z : Type 0} (g : Y → Z) (f : X → Y) (o : Option X)
    → option_map g (option_map f o) ≡ option_map (λ x. g (f x)) o
option_map-twice g f o = grind arith

-- lists that are empty when something is made of each element, and when joined
pub map-empty : {X Y : Type 0} (f : X → Y) (xs : List X) → map f xs ≡ [] → xs ≡ []
map-empty f [] h = refl
map-empty f (x ∷ xs) h = absurd (grind (arith, h))

pub both-empty : {X : Type 0} (xs ys : List X) → xs ++ ys ≡ [] → (xs ≡ []) × (ys ≡ [])
both-empty [] ys h = (refl, h)
both-empty (x ∷ xs) ys h = absurd (grind (arith, h))

-- where all keys differ the first of each are all
pub all-first : {K X : Type 0} (same : K → K → Bool) (key : X → K) (xs : List X)
    → IsDistinct same (map key xs) → first_of_each (λ a b. same (key a) (key b)) xs ≡ xs
unfolding IsDistinct
all-first same key [] d = refl
all-first same key (x ∷ xs) d = simp (
  all-first same key xs d.1,
  filter-all _ xs (each-weaken _ _ (λ y e. ap not e) xs (each-from_map _ key xs d.0)),
)

-- things differ where they are the first of each
pub distinct-from_first : {K : Type 0} (same : K → K → Bool) (ks : List K) → first_of_each same ks ≡ ks
    → IsDistinct same ks
distinct-from_first same ks e = subst (IsDistinct same) e (first_of_each-distinct same ks)

-- where their keys differ they differ by these, and the other way round
pub distinct-by_keys : {K X : Type 0} (same : K → K → Bool) (key : X → K) (xs : List X)
    → IsDistinct same (map key xs) → IsDistinct (λ a b. same (key a) (key b)) xs
distinct-by_keys same key xs d = distinct-from_first _ xs (all-first same key xs d)

pub keys-distinct : {K X : Type 0} (same : K → K → Bool) (key : X → K) (xs : List X)
    → IsDistinct (λ a b. same (key a) (key b)) xs → IsDistinct same (map key xs)
keys-distinct same key xs d = distinct-from_first same _ (sym (first_of_each-map same key xs)
    ∙ ap (map key) (all-first _ _ xs (subst (IsDistinct (λ a b. same (key a) (key b))) (sym (map-id xs)) d)))

module _ {K X : Type 0} (same : K → K → Bool) (laws : IsEquivalence same) (key : X → K) where
  -- where all keys differ each element is alone of its key
  pub own-group : (xs : List X) → IsDistinct same (map key xs)
      → AllByRecursion (λ x. filter (λ y. same (key x) (key y)) xs ≡ x ∷ []) xs
  unfolding IsDistinct
  own-group [] d = tt
  own-group (x ∷ xs) d =
      let apart = each-from_map _ key xs d.0 in (
        rw laws.refl (ap (λ l. x ∷ l) (filter-fails _ _ (λ y e. e) xs apart)),
        each-both _ _ _ (λ y e own. rw (laws.symm, e) own) xs apart (own-group xs d.1),
      )

  module _ (k : K) where
    abbrev has : X → Bool
    has x = same k (key x)

    pub found-permuted : (xs ys : List X) → IsPermutation xs ys → IsDistinct same (map key xs)
        → find has ys ≡ find has xs
    found-permuted xs ys p d = simp (
      find-first,
      one-element-permutation _ _ _ (filter-permutation has xs ys p)
          (each-weaken _ _ (λ x h. (λ i. filter (λ y. laws.congr k (key x) (key y) h.1 i) xs)
          ∙ h.0) _ (each-filter _ has xs (own-group xs d))),
    )

module _ {K X : Type 0} (same : K → K → Bool) (laws : IsEquivalence same) (key : X → K) where
  -- those of a key
  abbrev of_key : K → List X → List X
  of_key k = filter (λ x. same k (key x))

  -- groups by distinct keys that leave out nothing have the elements of the list
  pub groups : (ks : List K) (xs : List X) → IsDistinct same ks
      → AllByRecursion (λ x. list_any (λ k. same k (key x)) ks ≡ true) xs
      → IsPermutation xs (flat_map (λ k. of_key k xs) ks)
  unfolding IsDistinct
  groups [] [] d there = IsPermutation-refl []
  groups [] (x ∷ xs) d there = absurd (true≢false (sym there.0))
  groups (k ∷ ks) xs d there = IsPermutation-trans xs _ _ (IsPermutation-filter_both _ other (λ x. refl) xs)
      (IsPermutation-append_right _ others _ (subst (IsPermutation others) (flat_map-each _ _ _ stay ks d.0)
      (groups ks others d.1 (each-weaken _ _ (λ x h. grind (arith, h.0, h.1)) others
      (each-filter _ other xs there)))))
    where
      other : X → Bool
      other x = not (same k (key x))

      others : List X
      others = filter other xs

      stay : (j : K) → same k j ≡ false → of_key j others ≡ of_key j xs
      stay j apart = filter-wider other _ (λ x h. grind (arith, apart, laws.symm, laws.congr)) xs

module _ {I X : Type 0} (test : I → X → Bool) where
  -- what passes each of these tests, one test after another
  abbrev grouped : List I → List X → List X
  grouped is xs = flat_map (λ i. filter (test i) xs) is

  -- the tests that an element passes
  abbrev pub passed : List I → X → List I
  passed is x = filter (λ i. test i x) is

  grouped-nil : (is : List I) → length (grouped is []) ≡ 0
  grouped-nil [] = refl
  grouped-nil (i ∷ is) = grouped-nil is

  -- an element stands in as many groups as it passes tests
  grouped-cons : (x : X) (xs : List X) (is : List I)
      → length (grouped is (x ∷ xs)) ≡ length (passed is x) + length (grouped is xs)
  grouped-cons x xs [] = omega arith
  grouped-cons x xs (i ∷ is) = grind (arith, grouped-cons x xs is, length-append)

  pub grouped-few : (is : List I) (xs : List X) → AllByRecursion (λ x. length (passed is x) ≤ 1) xs
      → length (grouped is xs) ≤ length xs
  grouped-few is [] a = omega (arith, grouped-nil is)
  grouped-few is (x ∷ xs) a = omega (arith, grouped-cons x xs is, grouped-few is xs a.1, a.0)

-- of things that differ at most one is the same as another thing
pub same-once : {K : Type 0} (same : K → K → Bool) → IsEquivalence same → (ks : List K) → IsDistinct same ks
    → (k : K) → length (filter (λ j. same j k) ks) ≤ 1
unfolding IsDistinct
same-once same laws [] d k = omega arith
same-once same laws (j ∷ ks) d k =
    let none : same j k ≡ true → filter (λ i. same i k) ks ≡ [] = λ e. filter-fails (λ i. same j i ≡ false) _
    (λ i apart. laws.symm i k ∙ sym (laws.congr j k i e) ∙ apart) ks d.0 in
    grind (arith, none, same-once same laws ks d.1 k)

-- what is added by those that pass a test
pub flat_map-filter : {X Y : Type 0} (g : X → List Y) (t : X → Bool) (xs : List X)
    → flat_map g (filter t xs) ≡ flat_map (λ x. cond (t x) (g x) []) xs
flat_map-filter g t [] = refl
flat_map-filter g t (x ∷ xs) = grind (arith, flat_map-filter g t xs)

-- what is found among what is made of those that pass a test
pub find-among : {X Y : Type 0} (p : Y → Bool) (f : X → Y) (q : X → Bool) (xs : List X)
    → find p (map f (filter q xs)) ≡ option_map f (find (λ x. q x && p (f x)) xs)
find-among p f q [] = refl
find-among p f q (x ∷ xs) = grind (arith, find-among p f q xs)

-- an element passes a test where those that pass add something
pub any-given : {X : Type 0} (p : X → Bool) (xs : List X)
    → list_any p xs ≡ is_some (slice_get (flat_map (λ x. cond (p x) (true ∷ []) []) xs) 0)
any-given p [] = refl
any-given p (x ∷ xs) = grind (arith, any-given p xs)

-- nothing is given, whether there is something or not
pub nothing : {X Y : Type 0} (o : Option X) → option_map_or {U = List Y} (λ _. []) o [] ≡ []
nothing o = grind arith
