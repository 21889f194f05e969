-- A tally of a list that grows at its end.
use Rattle.std.proofs.Common.{◌≡◌, ◌≤◌, ◌+◌, ℕ, Bool, true, false, cond, List, [], ◌∷◌, ◌++◌, Option, Some}
use Rattle.std.proofs.Common.{None, length, refl, sym, ap, ◌∙◌, arith}
use Rattle.std.proofs.lemmas.List.Sums.{sum_by-append, sum_by-cons, count_by-le-length}
use Rattle.std.specs.Cmp.{IsEquivalence}
use Rattle.std.specs.List.{list_any}
use Rattle.std.specs.Prelude.{count_by}
use Rattle.graphql_nodes.specs.Tables.{lookup, insert_entry}
use Rattle.apollo_component.specs.FirstOfEach.{first_of_each}
use Rattle.apollo_component.proofs.FirstOfEachLemmas.{list_any-first_of_each}
use Rattle.apollo_component.proofs.Tabled.{tabled, tabled-insert, lookup-tabled, insert_entry-found}
use Rattle.apollo_component.proofs.Tabled.{first_of_each-insert, first_of_each-distinct}
use Rattle.apollo_field_usage.specs.Counted.{raised, counted}
use Rattle.apollo_field_usage.specs.Tallies.{times, tally}

module _ {K : Type 0} {eq : K → K → Bool} (laws : IsEquivalence eq) where
  -- what is not there comes no time
  none-times : (ks : List K) (k : K) → list_any (eq k) ks ≡ false → times eq ks k ≡ 0
  none-times [] k none = refl
  none-times (x ∷ xs) k none = sum_by-cons (λ q. cond (eq k q) 1 0) x xs
      ∙ grind (arith, none, none-times xs k)

  -- what is the same comes as often
  times-same : (ks : List K) (k q : K) → eq k q ≡ true → times eq ks q ≡ times eq ks k
  times-same ks k q is = λ i. count_by (λ x. sym (laws.congr k q x is) i) ks

  module _ (ks : List K) (k : K) where
    -- what stands at k
    looked-up : lookup (eq k) (tally eq ks) ≡ cond (list_any (eq k) ks) (Some (times eq ks k)) None
    looked-up = lookup-tabled eq laws (times eq ks) k (times-same ks k) (first_of_each eq ks)
        ∙ ap (λ b. cond b (Some (times eq ks k)) None) (list_any-first_of_each eq laws k ks)

    -- a number of a tally is at most the length of the list
    pub tally-small : (v : ℕ) → lookup (eq k) (tally eq ks) ≡ Some v → v ≤ length ks
    tally-small v is = grind (arith, is, looked-up, count_by-le-length (eq k) ks)

    abbrev more : List K
    more = ks ++ k ∷ []

    times-push : (q : K) → times eq more q ≡ times eq ks q + cond (eq q k) 1 0
    times-push q = omega (arith, sum_by-append (λ x. cond (eq q x) 1 0) ks (k ∷ []))

    -- counted once more, k has the number that it has with one more at the end
    put : (now : Option ℕ) → lookup (eq k) (tally eq ks) ≡ now
        → raised eq (tally eq ks) k now ≡ insert_entry eq (tally eq ks) k (times eq more k)
    put None is =
        let once : 1 ≡ times eq more k =
        grind (arith, is, looked-up, none-times ks k, times-push k, laws.refl k) in
        ap (insert_entry eq (tally eq ks) k) once
    put (Some v) is =
        let again : v + 1 ≡ times eq more k = grind (arith, is, looked-up, times-push k, laws.refl k) in
        insert_entry-found eq (tally eq ks) k v (v + 1) is ∙ ap (insert_entry eq (tally eq ks) k) again

    -- and nothing else has another one
    pub tally-push : counted eq (tally eq ks) k ≡ tally eq (ks ++ k ∷ [])
    tally-push = put _ refl ∙ tabled-insert eq laws (times eq ks) (times eq more) k
        (λ q apart. grind (arith, apart, laws.symm q k, times-push q)) (times-same more k)
        (first_of_each eq ks) (first_of_each-distinct eq ks)
        ∙ ap (tabled (times eq more)) (sym (first_of_each-insert eq laws ks k))
