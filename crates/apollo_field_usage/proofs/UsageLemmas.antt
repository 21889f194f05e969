-- The usages of a list of fields.
use Rattle.std.proofs.Common.{◌≡◌, ◌<◌, ◌+◌, ℕ, Bool, List, [], ◌∷◌, map, Option, None, Some, length, sum_by}
use Rattle.std.proofs.Common.{refl, sym, ap, ◌∙◌, subst, arith}
use Rattle.std.proofs.lemmas.List.{length-map, length-append}
use Rattle.std.proofs.lemmas.List.Sums.{sum_by-cons}
use Rattle.std.specs.Cmp.{IsEquivalence}
use Rattle.std.specs.List.{AllByRecursion, IsDistinct}
use Rattle.graphql_nodes.specs.Tables.{lookup, set_value, insert_entry}
use Rattle.apollo_component.specs.FirstOfEach.{first_of_each}
use Rattle.apollo_component.proofs.Lists.Ends.{snoc_ind}
use Rattle.apollo_component.proofs.Tabled.{first_of_each-distinct}
use Rattle.apollo_coordinate.specs.declared.type_attribute_coordinate.TypeAttributeCoordinate.{TypeAttributeCoordinate}
use Rattle.apollo_field_usage.specs.Coordinates.{coordinate, same_coordinate}
use Rattle.apollo_field_usage.specs.Counted.{raised, counted}
use Rattle.apollo_field_usage.specs.Occurrences.{Occurrence}
use Rattle.apollo_field_usage.specs.Tallies.{times, tally}
use Rattle.apollo_field_usage.specs.Usage.{usage_of, usage}
use Rattle.apollo_field_usage.specs.declared.counting.FieldUsage.{FieldUsage}
use Rattle.apollo_field_usage.proofs.SameCoordinates.{same-equivalence}
use Rattle.apollo_field_usage.proofs.TallyLemmas.{tally-push}

-- the coordinates of usages are those that are counted
coordinates-back : (n : TypeAttributeCoordinate → ℕ) (ks : List TypeAttributeCoordinate)
    → map (λ (u : FieldUsage). u.coordinate) (map usage_of (map (λ k. (k, n k)) ks)) ≡ ks
coordinates-back n [] = refl
coordinates-back n (k ∷ ks) = ap (λ l. k ∷ l) (coordinates-back n ks)

pub usages-apart : (fields : List Occurrence)
    → IsDistinct same_coordinate (map (λ u. u.coordinate) (usage fields))
usages-apart fields =
    let ks = map coordinate fields in
    subst (IsDistinct same_coordinate) (sym (coordinates-back (times same_coordinate ks)
    (first_of_each same_coordinate ks))) (first_of_each-distinct same_coordinate ks)

module _ {K : Type 0} (eq : K → K → Bool) where
  -- how often there is something
  abbrev whole : List (K × ℕ) → ℕ
  whole es = sum_by (λ e. e.1) es

  whole-put : (es : List (K × ℕ)) (k : K) → lookup (eq k) es ≡ None
      → whole (insert_entry eq es k 1) ≡ whole es + 1
  whole-put [] k missing = refl
  whole-put (e ∷ es) k missing =
      let of_cons = sum_by-cons (λ (x : K × ℕ). x.1) e in
      grind (arith, missing, whole-put es k, of_cons (insert_entry eq es k 1), of_cons es)

  whole-set : (es : List (K × ℕ)) (k : K) (v : ℕ) → lookup (eq k) es ≡ Some v
      → whole (set_value (eq k) es (v + 1)) ≡ whole es + 1
  whole-set [] k v found = absurd (cc)
  whole-set (e ∷ es) k v found =
      let of_cons = sum_by-cons (λ (x : K × ℕ). x.1) in
      let set = set_value (eq k) es (v + 1) in
      grind (arith, found, whole-set es k v, of_cons (e.0, v + 1) es, of_cons e set, of_cons e es)

  -- one more
  whole-counted : (es : List (K × ℕ)) (k : K) → whole (counted eq es k) ≡ whole es + 1
  whole-counted es k = grind (arith, whole-put es k, whole-set es k)

-- a tally counts each thing
tally-whole : {K : Type 0} {eq : K → K → Bool} (laws : IsEquivalence eq) (ks : List K)
    → whole eq (tally eq ks) ≡ length ks
tally-whole {eq = eq} laws = snoc_ind (λ ks. whole eq (tally eq ks) ≡ length ks) refl
    (λ ks k so_far. ap (whole eq) (sym (tally-push laws ks k)) ∙ whole-counted eq (tally eq ks) k
    ∙ omega (arith, so_far, length-append ks (k ∷ [])))

counts-whole : (es : List (TypeAttributeCoordinate × ℕ))
    → sum_by (λ u. u.count) (map usage_of es) ≡ whole same_coordinate es
counts-whole [] = refl
counts-whole (e ∷ es) = omega (
  arith,
  counts-whole es,
  sum_by-cons (λ (u : FieldUsage). u.count) (usage_of e) (map usage_of es),
  sum_by-cons (λ (x : TypeAttributeCoordinate × ℕ). x.1) e es,
)

pub usages-whole : (fields : List Occurrence) → sum_by (λ u. u.count) (usage fields) ≡ length fields
usages-whole fields =
    let ks = map coordinate fields in
    counts-whole (tally same_coordinate ks) ∙ tally-whole same-equivalence ks ∙ length-map fields coordinate

module _ {K : Type 0} (eq : K → K → Bool) where
  -- each number is one or more
  abbrev AreSome : List (K × ℕ) → Type 0
  AreSome = AllByRecursion (λ e. 0 < e.1)

  some-put : (es : List (K × ℕ)) (k : K) → AreSome es → AreSome (insert_entry eq es k 1)
  some-put [] k some = (omega arith, tt)
  some-put (e ∷ es) k some = grind (arith, some, some-put es k)

  some-set : (es : List (K × ℕ)) (k : K) (v : ℕ) → AreSome es → AreSome (set_value (eq k) es (v + 1))
  some-set [] k v some = tt
  some-set (e ∷ es) k v some = grind (arith, some, some-set es k v)

  some-raised : (es : List (K × ℕ)) (k : K) (now : Option ℕ) → AreSome es → AreSome (raised eq es k now)
  some-raised es k None some = some-put es k some
  some-raised es k (Some v) some = some-set es k v some

tally-some : {K : Type 0} {eq : K → K → Bool} (laws : IsEquivalence eq) (ks : List K)
    → AreSome eq (tally eq ks)
tally-some {eq = eq} laws = snoc_ind (λ ks. AreSome eq (tally eq ks)) tt (λ ks k so_far. subst (AreSome eq)
    (tally-push laws ks k) (some-raised eq (tally eq ks) k (lookup (eq k) (tally eq ks)) so_far))

counts-some : (es : List (TypeAttributeCoordinate × ℕ)) → AreSome same_coordinate es
    → AllByRecursion (λ (u : FieldUsage). 0 < u.count) (map usage_of es)
counts-some [] some = tt
counts-some (e ∷ es) some = (some.0, counts-some es some.1)

pub usages-some : (fields : List Occurrence) → AllByRecursion (λ u. 0 < u.count) (usage fields)
usages-some fields =
    let ks = map coordinate fields in counts-some (tally same_coordinate ks) (tally-some same-equivalence ks)
