-- A few keys in a list, where a key is found by its place.
use Rattle.std.proofs.Common.{◌≡◌, ◌+◌, ℕ, suc, Bool, true, false, not, List, [], ◌∷◌, None, Some}
use Rattle.std.proofs.Common.{length, remove, position, slice_get, get_or, nat_lt, refl, sym, ap, ◌∙◌, arith}
use Rattle.std.proofs.Common.{true≢false}
use lib.Pointwise.{pointwise}
use Rattle.indexmap.proofs.SetLemmas.{set_all_distinct}
use Rattle.std.proofs.lemmas.List.Folds.{find_at}
use Rattle.std.proofs.lemmas.List.Quantifiers.{position-Some}
use Rattle.std.proofs.lemmas.Option.{slice_get_read}
use Rattle.std.specs.Cmp.{IsEquivalence, first_so, second_so}
use Rattle.std.specs.List.{find, position_or_len, AllByRecursion, IsDistinct}
use Rattle.std.specs.Prelude.{cond}
use Rattle.graphql_nodes.specs.KeySets.{has_key, insert_all, remove_key}

-- where there is no key, no two are equal
pub none_distinct : {K : Type 0} (eq : K → K → Bool) → IsDistinct eq []
unfolding IsDistinct
none_distinct eq = tt

module _ {K : Type 0} (test : K → Bool) where
  is_within : (ks : List K) → nat_lt (position_or_len test ks) (length ks) ≡ has_key test ks
  is_within [] = refl
  is_within (k ∷ ks) = grind (arith, is_within ks)

  position_is : (ks : List K)
      → position test ks ≡ cond (has_key test ks) (Some (position_or_len test ks)) None
  position_is ks = ap (λ b. cond b (Some (position_or_len test ks)) None) (is_within ks)

  place_is : (ks : List K) (place : ℕ) → position test ks ≡ Some place → position_or_len test ks ≡ place
  place_is ks place at = grind (arith, position_is ks)

  removed_there : (ks : List K) → remove ks (position_or_len test ks) ≡ remove_key test ks
  removed_there [] = refl
  removed_there (k ∷ ks) = by (test k) (removed_there ks)
    where
      by : (b : Bool) → remove ks (position_or_len test ks) ≡ remove_key test ks
          → remove (k ∷ ks) (cond (not b) (1 + position_or_len test ks) 0)
          ≡ cond b ks (k ∷ remove_key test ks)
      by true rest = refl
      by false rest =
          let next : 1 + position_or_len test ks ≡ suc (position_or_len test ks) = omega arith in
          ap (remove (k ∷ ks)) next ∙ ap (λ l. k ∷ l) rest

  -- a key that has a place is there, and found there, and taken out there
  pub is_there : (ks : List K) (place : ℕ) → position test ks ≡ Some place → has_key test ks ≡ true
  is_there ks place at = grind (arith, position_is ks)

  pub found_there : (ks : List K) (place : ℕ) → position test ks ≡ Some place
      → find test ks ≡ slice_get ks place
  found_there ks place at = find_at test ks ∙ ap (slice_get ks) (place_is ks place at)

  pub stands_there : (ks : List K) (place : ℕ) (k : K) → position test ks ≡ Some place
      → k ≡ get_or ks place k → slice_get ks place ≡ Some k
  stands_there ks place k at read =
      slice_get_read ks (length ks) place k refl (position-Some test ks place k at).0 read

  pub taken_out_there : (ks : List K) (place : ℕ) → position test ks ≡ Some place
      → remove ks place ≡ remove_key test ks
  taken_out_there ks place at = sym (ap (remove ks) (place_is ks place at)) ∙ removed_there ks

  -- one without a place is not there, and not found, and no key is taken out
  pub is_absent : (ks : List K) → position test ks ≡ None → has_key test ks ≡ false
  is_absent ks at = grind (arith, position_is ks)

  not_found : (ks : List K) → has_key test ks ≡ false → find test ks ≡ None
  not_found [] lacks = refl
  not_found (k ∷ ks) lacks = grind (arith, not_found ks)

  pub nothing_found : (ks : List K) → position test ks ≡ None → find test ks ≡ None
  nothing_found ks at = not_found ks (is_absent ks at)

  all_stay : (ks : List K) → has_key test ks ≡ false → remove_key test ks ≡ ks
  all_stay [] lacks = refl
  all_stay (k ∷ ks) lacks = grind (arith, all_stay ks)

  pub nothing_taken_out : (ks : List K) → position test ks ≡ None → remove_key test ks ≡ ks
  nothing_taken_out ks at = all_stay ks (is_absent ks at)

  still_apart : (P : K → Type 0) (ks : List K) → AllByRecursion P ks → AllByRecursion P (remove_key test ks)
  still_apart P [] all = tt
  still_apart P (k ∷ ks) all =
      elim (test k) as (λ b. AllByRecursion P (cond b ks (k ∷ remove_key test ks))) [
        | true ↦ all.1
        | false ↦ (all.0, still_apart P ks all.1)
      ]

  -- keys stay distinct where one is taken out
  pub still_distinct : (eq : K → K → Bool) (ks : List K) → IsDistinct eq ks
      → IsDistinct eq (remove_key test ks)
  unfolding IsDistinct
  still_distinct eq [] distinct = tt
  still_distinct eq (k ∷ ks) distinct =
      elim (test k) as (λ b. IsDistinct eq (cond b ks (k ∷ remove_key test ks))) [
        | true ↦ distinct.1
        | false ↦ (still_apart (λ j. eq k j ≡ false) ks distinct.0, still_distinct eq ks distinct.1)
      ]

module _ {K : Type 0} {eq : K → K → Bool} (laws : IsEquivalence eq) where
  -- distinct keys that are put into an empty list in turn
  pub all_put : (ks : List K) → IsDistinct eq ks → insert_all eq [] ks ≡ ks
  all_put ks distinct = set_all_distinct laws [] ks distinct

  apart_alike : (x y : K) → eq x y ≡ true → (xs ys : List K) → pointwise eq xs ys ≡ true
      → AllByRecursion (λ k. eq y k ≡ false) ys → AllByRecursion (λ k. eq x k ≡ false) xs
  apart_alike x y same [] ys alike apart = tt
  apart_alike x y same (u ∷ xs) [] alike apart = absurd (true≢false (sym alike))
  apart_alike x y same (u ∷ xs) (v ∷ ys) alike apart = (
    laws.congr x y u same ∙ laws.symm y u ∙ laws.congr u v y (first_so (eq u v) _ alike) ∙ laws.symm v y
        ∙ apart.0,
    apart_alike x y same xs ys (second_so (eq u v) _ alike) apart.1,
  )

  -- keys that are equal to distinct ones, each to its own
  pub distinct_alike : (xs ys : List K) → pointwise eq xs ys ≡ true → IsDistinct eq ys → IsDistinct eq xs
  unfolding IsDistinct
  distinct_alike [] ys alike distinct = tt
  distinct_alike (x ∷ xs) [] alike distinct = absurd (true≢false (sym alike))
  distinct_alike (x ∷ xs) (y ∷ ys) alike distinct = (
    apart_alike x y (first_so (eq x y) _ alike) xs ys (second_so (eq x y) _ alike) distinct.0,
    distinct_alike xs ys (second_so (eq x y) _ alike) distinct.1,
  )
