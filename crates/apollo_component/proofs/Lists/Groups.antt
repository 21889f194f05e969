-- The first of each: among joined lists, in the order in which tests take their elements, and of groups by
-- their keys.
use Rattle.std.proofs.Common.{◌≡◌, Bool, true, false, cond, ◌&&◌, List, [], ◌∷◌, ◌++◌, Some, map, filter, find}
use Rattle.std.proofs.Common.{is_some, map-id, not, refl, slice_get, subst, sym, ap, ◌∙◌, arith, true≢false}
use Rattle.std.specs.Cmp.{IsEquivalence}
unfoldable use Rattle.std.specs.List.{IsDistinct}
use Rattle.std.specs.List.{flat_map, AllByRecursion, list_any}
use Rattle.std.specs.List.Sorted.{IsPermutation}
use Rattle.std.proofs.lemmas.Bool.{and_parts, not-true, or_right}
use Rattle.std.proofs.lemmas.List.{map-append}
use Rattle.std.proofs.lemmas.List.Elements.{filter-append, filter_agree}
use Rattle.std.proofs.lemmas.List.Folds.{list_any-append}
use Rattle.std.proofs.lemmas.Simd.{map-map}
use Rattle.apollo_component.specs.FirstOfEach.{first_of_each}
use Rattle.apollo_component.proofs.FirstOfEachLemmas.{find-first_of_each, found-any, list_any-first_of_each}
use Rattle.apollo_component.proofs.Lists.BySubject.{IsTest}
use Rattle.apollo_component.proofs.Lists.Cases.{find-first}
use Rattle.apollo_component.proofs.Lists.Each.{each-filter, each-weaken, filter-each, filter-fails, filter-map}
use Rattle.apollo_component.proofs.Lists.Ends.{all-kept, filter-all}
use Rattle.apollo_component.proofs.Lists.Kept.{all-first, each-from_map, each-map, filter-filter, filter-flat_map}
use Rattle.apollo_component.proofs.Lists.Kept.{groups, own-group, passes}
use Rattle.apollo_component.proofs.Tabled.{first_of_each-distinct}

-- whether no element that fails comes before one that passes
abbrev pub leads : List Bool → Bool
leads [] = true
leads (b ∷ bs) = cond b (leads bs) (not (list_any (λ b. b) bs))

abbrev pub is_nothing : {X : Type 0} → List X → Bool
is_nothing [] = true
is_nothing (x ∷ xs) = false

-- first those that the first test takes, then those that the second takes of the rest, and so on, until
-- nothing is left
abbrev pub in_order : {X : Type 0} → List (X → Bool) → List X → Bool
in_order [] xs = is_nothing xs
in_order (t ∷ ts) xs = leads (map t xs) && in_order ts (filter (λ x. not (t x)) xs)

none-pass : {X : Type 0} (t : X → Bool) (xs : List X) → AllByRecursion (λ x. t x ≡ false) xs
    → list_any (λ b. b) (map t xs) ≡ false
none-pass t [] a = refl
none-pass t (x ∷ xs) a = rw a.0 (none-pass t xs a.1)

leads-append : {X : Type 0} (t : X → Bool) (xs ys : List X) → AllByRecursion (λ x. t x ≡ true) xs
    → AllByRecursion (λ x. t x ≡ false) ys → leads (map t (xs ++ ys)) ≡ true
leads-append t [] [] a b = refl
leads-append t [] (y ∷ ys) a b = rw b.0 (ap not (none-pass t ys b.1))
leads-append t (x ∷ xs) ys a b = rw a.0 (leads-append t xs ys a.1 b)

-- the order is one of what the tests see
pub in_order-map : {X Y : Type 0} (f : X → Y) (ts : List (Y → Bool)) (xs : List X)
    → in_order ts (map f xs) ≡ in_order (map (λ t x. t (f x)) ts) xs
in_order-map f [] [] = refl
in_order-map f [] (x ∷ xs) = refl
in_order-map f (t ∷ ts) xs = rw (map-map, filter-map, in_order-map f ts _)

-- those that pass, then the others, are all in order
module _ {X : Type 0} (t : X → Bool) where
  none-taken : (xs : List X) → list_any (λ b. b) (map t xs) ≡ false → filter t xs ≡ []
  none-taken [] h = refl
  none-taken (x ∷ xs) h = grind (arith, none-taken xs)

  all-left : (xs : List X) → list_any (λ b. b) (map t xs) ≡ false → filter (λ x. not (t x)) xs ≡ xs
  all-left [] h = refl
  all-left (x ∷ xs) h = grind (arith, all-left xs)

  pub leads-filter : (xs : List X) → leads (map t xs) ≡ true → filter t xs ++ filter (λ x. not (t x)) xs ≡ xs
  leads-filter [] h = refl
  leads-filter (x ∷ xs) h = grind (arith, leads-filter xs, none-taken xs, all-left xs)

-- each of the first is found by itself
pub each-found : {X : Type 0} (same : X → X → Bool) → IsEquivalence same → (xs : List X)
    → AllByRecursion (λ x. find (same x) xs ≡ Some x) (first_of_each same xs)
each-found same laws xs = each-weaken _ _ (λ x alone. sym (find-first_of_each same laws x xs)
    ∙ find-first (same x) _ ∙ ap (λ l. slice_get l 0) alone) _
    (own-group same laws _ _ (subst (IsDistinct same) (sym (map-id _)) (first_of_each-distinct same xs)))

-- whether it is the same as none of these
abbrev pub new_to_these : {X : Type 0} → (X → X → Bool) → List X → X → Bool
new_to_these same xs y = not (list_any (same y) xs)

module _ {X : Type 0} (same : X → X → Bool) (laws : IsEquivalence same) where
  abbrev new_to : List X → X → Bool
  new_to = new_to_these same

  new_to-more : (x : X) (xs ys : List X)
      → filter (λ y. not (same x y)) (filter (new_to xs) ys) ≡ filter (new_to (x ∷ xs)) ys
  new_to-more x xs [] = refl
  new_to-more x xs (y ∷ ys) = grind (arith, laws.symm, new_to-more x xs ys)

  pub first_of_each-append : (xs ys : List X)
      → first_of_each same (xs ++ ys) ≡ first_of_each same xs ++ filter (new_to xs) (first_of_each same ys)
  first_of_each-append [] ys = all-kept _
  first_of_each-append (x ∷ xs) ys = simp (first_of_each-append xs ys, filter-append, new_to-more)

  pub new_to-same : (zs : List X) (a b : X) → same a b ≡ true → new_to zs a ≡ new_to zs b
  new_to-same zs a b e = grind (arith, e)

  module _ (p : X → Bool) (respects : (a b : X) → same a b ≡ true → p a ≡ p b) where
    others : (x : X) → p x ≡ false → (ys : List X) → filter p (filter (λ y. not (same x y)) ys) ≡ filter p ys
    others x fails [] = refl
    others x fails (y ∷ ys) = grind (arith, respects, others x fails ys)

    swapped : (q : X → Bool) (ys : List X) → filter p (filter q ys) ≡ filter q (filter p ys)
    swapped q ys = filter-filter p q ys ∙ filter_agree _ _ (λ y. grind arith) ys ∙ sym (filter-filter q p ys)

    -- a test that doesn't tell apart what is the same
    pub first_of_each-filter : (xs : List X)
        → filter p (first_of_each same xs) ≡ first_of_each same (filter p xs)
    first_of_each-filter [] = refl
    first_of_each-filter (x ∷ xs) = grind (arith, swapped, others x, first_of_each-filter xs)

  -- each of the first is there
  first-there : (xs : List X) → AllByRecursion (λ x. list_any (same x) xs ≡ true) (first_of_each same xs)
  first-there xs = each-weaken _ _ (λ x e. sym (found-any _ xs) ∙ ap is_some e) _ (each-found same laws xs)

  -- what leaves the same new things after these, in order, leaves the same
  module _ (known more : List X) where
    abbrev new : X → Bool
    new = new_to known

    -- what is new in the first of each
    new-left : filter new (first_of_each same (known ++ more)) ≡ filter new (first_of_each same more)
    new-left = simp (
      first_of_each-append,
      filter-append,
      filter-fails _ new (λ k e. ap not e) _ (first-there known),
      filter-all new _ (passes new (first_of_each same more)),
    )

    pub first_of_each-again : (others : List X)
        → filter new others ≡ filter new (first_of_each same (known ++ more))
        → first_of_each same (known ++ others) ≡ first_of_each same (known ++ more)
    first_of_each-again others alike =
        let by = first_of_each-filter new (new_to-same known) in
        first_of_each-append known others ∙ ap (λ l. first_of_each same known ++ l) (by others
        ∙ ap (first_of_each same) (alike ∙ new-left ∙ by more)
        ∙ all-first same _ _ (subst (IsDistinct same) (sym (map-id _)) (first_of_each-distinct same _))
        ∙ sym (by more)) ∙ sym (first_of_each-append known more)

  module _ (p : X → Bool) (xs : List X) (later : List X) where
    abbrev there : X → Bool
    there x = list_any (same x) xs

    abbrev front : List X
    front = filter p (first_of_each same xs)

    abbrev back : List X
    back = filter p (filter (new_to xs) later)

    abbrev kept : X → Bool
    kept x = (new_to xs x && p x) && new_to xs x

    front-there : AllByRecursion (λ x. there x ≡ true) front
    front-there = each-weaken _ _ (λ x h. h.0) front (each-filter _ p _ (first-there xs))

    back-absent : AllByRecursion (λ x. there x ≡ false) back
    back-absent = each-weaken _ _ (λ x h. not-true _ h.0) back (each-filter _ p _ (passes _ later))

    left : filter (new_to xs) (front ++ back) ≡ filter kept later
    left = simp (filter-append, filter-fails _ _ (λ x e. ap not e) front front-there, filter-filter)

  -- the first of each of joined lists come in the order of the lists
  first-kept_in_order : (p : X → Bool) (xss : List (List X))
      → in_order (map (λ xs x. list_any (same x) xs) xss)
      (filter p (first_of_each same (flat_map (λ xs. xs) xss))) ≡ true
  first-kept_in_order p [] = refl
  first-kept_in_order p (xs ∷ xss) =
      let rest = first_of_each same (flat_map (λ xs. xs) xss) in
      rw (first_of_each-append, filter-append) (simp (
        leads-append _ _ _ (front-there p xs rest) (back-absent p xs rest),
        left p xs rest,
        first-kept_in_order (kept p xs rest) xss,
      ))

  pub first-in_order : (xss : List (List X))
      → in_order (map (λ xs x. list_any (same x) xs) xss) (first_of_each same (flat_map (λ xs. xs) xss))
      ≡ true
  first-in_order xss = ap (in_order (map (λ xs x. list_any (same x) xs) xss)) (all-kept _)
      ∙ first-kept_in_order (λ _. true) xss

-- Groups with distinct keys: what is found of each key, and the order in which the keys appear again.

-- each group's key, as often as the group has marks
abbrev pub shown : {X G : Type 0} → (G → X) → (G → List (Unit {0})) → List G → List X
shown key marks = flat_map (λ g. map (λ _. key g) (marks g))

-- whether the group has marks
abbrev pub marked : {G : Type 0} → (G → List (Unit {0})) → G → Bool
marked marks g = not (is_nothing (marks g))

module _ {X : Type 0} (same : X → X → Bool) (laws : IsEquivalence same) where
  -- one thing several times is the first of itself once
  repeated : {A : Type 0} (x : X) (us : List A) (ys : List X)
      → first_of_each same (x ∷ (map (λ _. x) us ++ ys)) ≡ x ∷ filter (λ y. not (same x y))
      (first_of_each same ys)
  repeated x [] ys = refl
  repeated x (u ∷ us) ys =
      let left = filter (λ y. not (same x y)) (first_of_each same ys) in
      grind (arith, repeated x us ys, laws.refl x, (filter-all _ left (passes _ (first_of_each same ys))))

  module _ {G : Type 0} (key : G → X) where
    apart-filter : (k : X) (t : G → Bool) (gs : List G) → AllByRecursion (λ x. same k x ≡ false) (map key gs)
        → AllByRecursion (λ x. same k x ≡ false) (map key (filter t gs))
    apart-filter k t gs a =
        each-map _ key _ (each-weaken _ _ (λ g h. h.0) _ (each-filter _ t gs (each-from_map _ key gs a)))

    pub distinct-filter : (t : G → Bool) (gs : List G) → IsDistinct same (map key gs)
        → IsDistinct same (map key (filter t gs))
    unfolding IsDistinct
    distinct-filter t [] d = tt
    distinct-filter t (g ∷ gs) d =
        elim (t g) as (λ b. IsDistinct same (map key (cond b (g ∷ filter t gs) (filter t gs)))) [
          | true ↦ (apart-filter (key g) t gs d.0, distinct-filter t gs d.1)
          | false ↦ distinct-filter t gs d.1
        ]

    pub first-shown : (marks : G → List (Unit {0})) (gs : List G) → IsDistinct same (map key gs)
        → first_of_each same (shown key marks gs) ≡ map key (filter (marked marks) gs)
    unfolding IsDistinct
    first-shown marks [] d = refl
    first-shown marks (g ∷ gs) d =
        let rest = first-shown marks gs d.1 in
        let new = filter-all _ _ (each-weaken _ _ (λ k e. ap not e) _ (apart-filter (key g) (marked marks) gs
        d.0)) in
        elim (marks g) as (λ us. first_of_each same (map (λ _. key g) us ++ shown key marks gs)
        ≡ map key (cond (not (is_nothing us)) (g ∷ filter (marked marks) gs) (filter (marked marks) gs)))
        [ [] ↦ rest | u ∷ us ↦ repeated (key g) us _ ∙ simp (rest, new) ]

    any-repeated : {A : Type 0} (k x : X) (us : List A)
        → list_any (same k) (map (λ _. x) us) ≡ (not (is_nothing us) && same k x)
    any-repeated k x [] = refl
    any-repeated k x (u ∷ us) = grind (arith, any-repeated k x us)

    -- a key is shown where a group of that key is marked
    any-shown : (marks : G → List (Unit {0})) (k : X) (gs : List G)
        → list_any (same k) (shown key marks gs) ≡ list_any (marked marks) (filter (λ h. same k (key h)) gs)
    any-shown marks k [] = refl
    any-shown marks k (g ∷ gs) =
        grind (arith, list_any-append, any-repeated k (key g) (marks g), any-shown marks k gs)

    -- what is left of what is shown, without what these marks show
    shown-others : (marks more : G → List (Unit {0})) (gs : List G) → IsDistinct same (map key gs)
        → filter (new_to_these same (shown key marks gs)) (shown key more gs)
        ≡ shown key more (filter (λ g. not (marked marks g)) gs)
    shown-others marks more gs d =
        rw (filter-shown, filter-each _ _ _ unmarked gs (own-group same laws key gs d))
      where
        filter-shown : (p : X → Bool) (hs : List G)
            → filter p (shown key more hs) ≡ shown key more (filter (λ g. p (key g)) hs)
        filter-shown p [] = refl
        filter-shown p (h ∷ hs) = grind (arith, filter-append, filter-repeated, filter-shown p hs)
          where
            filter-repeated : (us : List (Unit {0}))
                → filter p (map (λ _. key h) us) ≡ cond (p (key h)) (map (λ _. key h) us) []
            filter-repeated [] = grind arith
            filter-repeated (u ∷ us) = grind (arith, filter-repeated us)

        unmarked : (g : G) → filter (λ h. same (key g) (key h)) gs ≡ g ∷ []
            → new_to_these same (shown key marks gs) (key g) ≡ not (marked marks g)
        unmarked g own = grind (arith, any-shown, own)

    -- groups in the order of these marks show their keys in that order
    pub first-shown_again : (marks : List (G → List (Unit {0}))) (gs : List G) → IsDistinct same (map key gs)
        → in_order (map marked marks) gs ≡ true
        → first_of_each same (flat_map (λ m. shown key m gs) marks) ≡ map key gs
    first-shown_again [] [] d h = refl
    first-shown_again [] (g ∷ gs) d h = absurd (true≢false (sym h))
    first-shown_again (m ∷ marks) gs d h =
        let new = new_to_these same _ in
        let left = filter (λ g. not (marked m g)) gs in
        let both = and_parts _ _ h in
        first_of_each-append same laws _ _ ∙ (λ i. first-shown m gs d i ++ first_of_each-filter same laws new
        (new_to-same same laws _) (flat_map (λ m. shown key m gs) marks) i)
        ∙ ap (λ l. map key (filter (marked m) gs) ++ l) (ap (first_of_each same)
        (filter-flat_map new _ marks ∙ (λ i. flat_map (λ n. shown-others m n gs d i) marks))
        ∙ first-shown_again marks left (distinct-filter _ gs d) both.1) ∙ sym (map-append key _ left)
        ∙ ap (map key) (leads-filter _ gs both.0)

-- things that a test tells apart are the same in both directions, and as the same others
equivalence : {K : Type 0} (same : K → K → Bool) → IsTest same → IsEquivalence same
equivalence same laws = record {
  refl = laws.itself;
  symm = λ x y. grind (arith, laws.is, laws.itself x, laws.itself y);
  congr = λ x y z e. ap (λ k. same k z) (laws.is x y e);
}

module _ {K X : Type 0} (same : K → K → Bool) (laws : IsTest same) (key : X → K) where
  -- what each element is about is there
  present : (xs : List X) → AllByRecursion (λ x. list_any (same (key x)) (map key xs) ≡ true) xs
  present [] = tt
  present (x ∷ xs) = (grind (arith, laws.itself), each-weaken _ _ (λ y h. or_right _ _ h) xs (present xs))

  -- the elements, by what they are about
  pub grouped-by : (xs : List X)
      → IsPermutation xs (flat_map (λ k. filter (λ x. same k (key x)) xs) (first_of_each same (map key xs)))
  grouped-by xs =
      let alike = equivalence same laws in
      let ks = first_of_each same (map key xs) in
      groups same alike key ks xs (first_of_each-distinct same _)
      (each-weaken _ _ (λ x h. (λ i. list_any (λ k. alike.symm k (key x) i) ks)
      ∙ list_any-first_of_each same alike (key x) _ ∙ h) xs (present xs))
