-- Tables that have at each key what a function gives of it. Tables with the same under each key. What tables
-- give, key by key.
use Rattle.std.proofs.Common.{◌≡◌, Bool, true, false, cond, not, List, [], ◌∷◌, ◌++◌, Option, Some, None, map}
use Rattle.std.proofs.Common.{filter, refl, sym, ap, subst, ◌∙◌, arith}
use Rattle.std.specs.List.{list_any, flat_map, IsDistinct, AllByRecursion}
use Rattle.std.specs.Map.{lookup, set_value}
use Rattle.std.specs.Cmp.{IsEquivalence}
use Rattle.std.proofs.lemmas.List.Elements.{filter_passes, recursion_from_All}
use Rattle.std.proofs.lemmas.Map.{lookup-none}
use Rattle.std.proofs.lemmas.Map.Entries.{none_past_head}
use Rattle.std.proofs.lemmas.Map.Keys.{IsDistinct-head, IsDistinct-tail}
use Rattle.indexmap.specs.IndexMap.{insert_entry}
use Rattle.indexmap.specs.IndexSet.{insert_key}
use Rattle.graphql_nodes.specs.Tables.{HasUniqueKeys, keys_of}
use Rattle.apollo_component.specs.FirstOfEach.{first_of_each}
use Rattle.apollo_component.proofs.FirstOfEachLemmas.{first_of_each-push_new, first_of_each-push_old}
use Rattle.apollo_component.proofs.FirstOfEachLemmas.{list_any-first_of_each}
use Rattle.apollo_component.proofs.Lists.Cases.{bool_cases}
use Rattle.apollo_component.proofs.Lists.Each.{each-filter, each-weaken, flat_map-each}

module _ {K : Type 0} (same : K → K → Bool) where
  filter-distinct : (p : K → Bool) (ks : List K) → IsDistinct same ks → IsDistinct same (filter p ks)
  unfolding IsDistinct
  filter-distinct p [] d = tt
  filter-distinct p (k ∷ ks) d =
      let rest = filter-distinct p ks d.1 in
      let apart = each-weaken _ _ (λ y h. h.0) _ (each-filter _ p ks d.0) in
      bool_cases (p k) (λ e. rw e (apart, rest)) (λ e. rw e rest)

  -- those that are left differ
  pub first_of_each-distinct : (xs : List K) → IsDistinct same (first_of_each same xs)
  unfolding IsDistinct
  first_of_each-distinct [] = tt
  first_of_each-distinct (x ∷ xs) = (
    each-weaken (λ y. not (same x y) ≡ true) _ (λ y h. grind (arith, h)) _
        (recursion_from_All _ _ (filter_passes _ (first_of_each same xs))),
    filter-distinct _ _ (first_of_each-distinct xs),
  )

-- a table that has at each key what f gives of it
abbrev pub tabled : {K V : Type 0} → (K → V) → List K → List (K × V)
tabled f ks = map (λ k. (k, f k)) ks

module _ {K : Type 0} (same : K → K → Bool) (laws : IsEquivalence same) where
  -- one more thing, if it is new, is what insertion adds
  pub first_of_each-insert : (xs : List K) (x : K)
      → first_of_each same (xs ++ x ∷ []) ≡ insert_key same (first_of_each same xs) x
  first_of_each-insert xs x = grind (
    arith,
    list_any-first_of_each same laws x xs,
    first_of_each-push_old same laws xs x,
    first_of_each-push_new same laws xs x,
  )

  module _ {V : Type 0} where
    tabled-apart : (f g : K → V) (c : K) → ((k : K) → same c k ≡ false → f k ≡ g k) → (ks : List K)
        → AllByRecursion (λ k. same c k ≡ false) ks → tabled f ks ≡ tabled g ks
    tabled-apart f g c agree [] a = refl
    tabled-apart f g c agree (k ∷ ks) a = λ i. (k, agree k a.0 i) ∷ tabled-apart f g c agree ks a.1 i

    -- the table with another value at one key is that of what gives it there, and the same elsewhere
    pub tabled-insert : (f g : K → V) (c : K) → ((k : K) → same c k ≡ false → f k ≡ g k)
        → ((k : K) → same c k ≡ true → g k ≡ g c) → (ks : List K) → IsDistinct same ks
        → insert_entry same (tabled f ks) c (g c) ≡ tabled g (insert_key same ks c)
    unfolding IsDistinct
    tabled-insert f g c agree one [] d = refl
    tabled-insert f g c agree one (k ∷ ks) d =
        grind (arith, agree k, one k, others, tabled-insert f g c agree one ks d.1)
      where
        others : same c k ≡ true → tabled f ks ≡ tabled g ks
        others p = tabled-apart f g c agree ks (each-weaken _ _ (λ y h. laws.congr c k y p ∙ h) ks d.0)

    -- what stands at a key of the table
    pub lookup-tabled : (f : K → V) (c : K) → ((k : K) → same c k ≡ true → f k ≡ f c) → (ks : List K)
        → lookup (same c) (tabled f ks) ≡ cond (list_any (same c) ks) (Some (f c)) None
    lookup-tabled f c one [] = refl
    lookup-tabled f c one (k ∷ ks) = grind (arith, one k, lookup-tabled f c one ks)

-- a value written where a key is found is what insertion puts there
pub insert_entry-found : {K V : Type 0} (eq : K → K → Bool) (es : List (K × V)) (k : K) (v w : V)
    → lookup (eq k) es ≡ Some v → set_value (eq k) es w ≡ insert_entry eq es k w
insert_entry-found eq [] k v w h = cc
insert_entry-found eq (e ∷ es) k v w h = grind (arith, insert_entry-found eq es k v w)

-- tables with the same keys, of which no two are the same, are one where they have the same under each
pub entries_from_lookups : {K V : Type 0} {eq : K → K → Bool} → IsEquivalence eq → (es fs : List (K × V))
    → HasUniqueKeys eq es → keys_of fs ≡ keys_of es → ((k : K) → lookup (eq k) fs ≡ lookup (eq k) es)
    → fs ≡ es
entries_from_lookups laws [] [] apart keys each = refl
entries_from_lookups laws [] (f ∷ fs) apart keys each = cc
entries_from_lookups laws (e ∷ es) [] apart keys each = cc
entries_from_lookups {K} {V} {eq} laws (e ∷ es) (f ∷ fs) apart keys each =
    let rest = entries_from_lookups laws es fs (IsDistinct-tail eq e.0 _ apart) other_keys others in
    λ i. (key i, value i) ∷ rest i
  where
    key : f.0 ≡ e.0
    key = cc

    other_keys : keys_of fs ≡ keys_of es
    other_keys = cc

    value : f.1 ≡ e.1
    value = grind (arith, key, laws.refl e.0, each e.0)

    -- the first entry hides nothing under another key, and under its own there is nothing else
    others : (k : K) → lookup (eq k) fs ≡ lookup (eq k) es
    others k = bool_cases _
        (λ own. lookup-none _ fs (none_past_head laws k f fs (subst (IsDistinct eq) (sym keys) apart)
        (ap (eq k) key ∙ own)) ∙ sym (lookup-none _ es (none_past_head laws k e es apart own)))
        (λ other. grind (arith, key, other, each k))

-- what a table gives, entry by entry, is what it gives under its keys
pub given-by_keys : {K V X : Type 0} {same : K → K → Bool} → IsEquivalence same
    → (give : K → Option V → List X) (es : List (K × V)) → HasUniqueKeys same es
    → flat_map (λ e. give e.0 (Some e.1)) es ≡ flat_map (λ k. give k (lookup (same k) es)) (keys_of es)
given-by_keys laws give [] unique = refl
given-by_keys {K} {V} {X} {same} laws give (e ∷ es) unique =
    grind (arith, laws.refl e.0, given-by_keys laws give es (IsDistinct-tail same e.0 _ unique), later)
  where
    later : flat_map (λ k. give k (lookup (same k) es)) (keys_of es)
        ≡ flat_map (λ k. give k (lookup (same k) (e ∷ es))) (keys_of es)
    later = flat_map-each _ _ _ (λ k apart. ap (λ b. give k (cond b (Some e.1) (lookup (same k) es)))
        (sym (laws.symm k e.0 ∙ apart))) _ (IsDistinct-head same e.0 _ unique)
