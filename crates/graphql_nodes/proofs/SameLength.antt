-- Tables and sets of one length are equal where the second has what the first has.
use Rattle.std.proofs.Common.{◌≡◌, ◌≤◌, ℕ, suc, Bool, true, false, List, [], ◌∷◌, Option}
use Rattle.std.proofs.Common.{length, nat_eq, is_some, true≢false, ⊎_elim, refl, sym, ◌∙◌, arith, eq-eqb}
use Rattle.std.proofs.lemmas.Bool.{cases_Bool}
use Rattle.std.proofs.lemmas.Map.Entries.{length-keys_of}
use Rattle.std.proofs.lemmas.Map.Keys.{IsDistinct-cons}
use Rattle.std.proofs.lemmas.Map.Made.{is_some-lookup, length-le_from_is_member}
use Rattle.std.proofs.lemmas.Map.Steps.{list_any_congr}
use Rattle.std.specs.Bool.{one_answer}
use Rattle.std.specs.Cmp.{IsEquivalence, first_so, second_so}
use Rattle.std.specs.HashMap.Eq.{lookup_congr, get_from_hash_map_eq, hash_map_eq_from_get}
use Rattle.std.specs.List.{AllByRecursion, IsDistinct, list_all}
use Rattle.std.specs.Option.{option_eq}
use Rattle.graphql_nodes.specs.KeySets.{has_key, set_eq}
use Rattle.graphql_nodes.specs.Tables.{as_map, keys_of, lookup, table_eq, HasUniqueKeys}
use Rattle.graphql_nodes.proofs.TableEquality.{sets}

passed_by_all : {K : Type 0} (test : K → Bool) → ((k : K) → test k ≡ true) → (ks : List K)
    → list_all test ks ≡ true
passed_by_all test passes [] = refl
passed_by_all test passes (k ∷ ks) = grind (arith, passes k, passed_by_all test passes ks)

passed_by_none : {K : Type 0} (test : K → Bool) (ks : List K) → has_key test ks ≡ false
    → AllByRecursion (λ k. test k ≡ false) ks
passed_by_none test [] none = tt
passed_by_none test (k ∷ ks) none =
    let fails : test k ≡ false = grind arith in (fails, passed_by_none test ks (grind arith))

module _ {K : Type 0} {eq : K → K → Bool} (laws : IsEquivalence eq) where
  -- a key that is there passes what all keys pass, where equal keys pass alike
  passed_by_member : (test : K → Bool) → ((q k : K) → eq q k ≡ true → test q ≡ test k) → (ks : List K)
      → list_all test ks ≡ true → (q : K) → has_key (eq q) ks ≡ true → test q ≡ true
  passed_by_member test alike [] all q found = cc
  passed_by_member test alike (k ∷ ks) all q found =
      grind (arith, alike q k, passed_by_member test alike ks (second_so (test k) _ all) q)

  abbrev IsWithin : List K → List K → Type 0
  IsWithin ks js = (q : K) → has_key (eq q) ks ≡ true → has_key (eq q) js ≡ true

  one_more : (ks js : List K) (k : K) → IsWithin ks js → has_key (eq k) js ≡ true → IsWithin (k ∷ ks) js
  one_more ks js k within found q member = grind (arith, list_any_congr laws q k js, within q)

  -- distinct keys that are all within no more others are all of those
  within_back : (ks js : List K) → IsDistinct eq ks → length js ≤ length ks → IsWithin ks js → IsWithin js ks
  within_back ks js distinct few within q found = ⊎_elim (λ has. has) (λ lacks.
      let more : suc (length ks) ≤ length js = length-le_from_is_member laws (q ∷ ks) js (IsDistinct-cons eq q
      ks (passed_by_none (eq q) ks lacks) distinct) (one_more ks js q within found) in
      absurd (omega arith)) (cases_Bool (has_key (eq q) ks))

  members_alike : (ks js : List K) → IsDistinct eq ks → length js ≤ length ks → IsWithin ks js → (q : K)
      → has_key (eq q) ks ≡ has_key (eq q) js
  members_alike ks js distinct few within q =
      one_answer _ _ (within q, within_back ks js distinct few within q) (λ h. h, λ h. h)

  lengths_alike : (ks js : List K) → IsDistinct eq ks → IsDistinct eq js
      → ((q : K) → has_key (eq q) ks ≡ has_key (eq q) js) → length ks ≡ length js
  lengths_alike ks js c d alike =
      let a = length-le_from_is_member laws ks js c (λ q h. sym (alike q) ∙ h) in
      let b = length-le_from_is_member laws js ks d (λ q h. alike q ∙ h) in
      omega arith

  module _ (ks js : List K) (c : IsDistinct eq ks) (d : IsDistinct eq js) where
    alike_where_each_is_in : length ks ≡ length js → list_all (λ k. has_key (eq k) js) ks ≡ true → (q : K)
        → has_key (eq q) ks ≡ has_key (eq q) js
    alike_where_each_is_in long each = members_alike ks js c (omega arith)
        (passed_by_member (λ k. has_key (eq k) js) (λ q k. list_any_congr laws q k js) ks each)

    pub sets_of_one_length : length ks ≡ length js → (b : Bool) → b ≡ list_all (λ k. has_key (eq k) js) ks
        → b ≡ set_eq eq ks js
    sets_of_one_length long b is = is ∙ one_answer _ _ (
      λ h. ((sets laws).at ks js).1 (λ i q. alike_where_each_is_in long h q i),
      λ h. first_so _ _ h,
    ) (λ h. h, λ h. h)

    pub sets_of_two_lengths : (m n : ℕ) → m ≡ length ks → n ≡ length js → nat_eq m n ≡ false
        → nat_eq m n ≡ set_eq eq ks js
    sets_of_two_lengths m n long other differ = one_answer _ _ (
      λ h. absurd (true≢false (sym h ∙ differ)),
      λ h. eq-eqb m n (long ∙ lengths_alike ks js c d (λ q i. ((sets laws).at ks js).0 h i q) ∙ sym other),
    ) (λ h. h, λ h. h)

  module _ {V : Type 0} (E : V → V → Bool) where
    abbrev agree : List (K × V) → List (K × V) → K → Bool
    agree es fs k = option_eq E (lookup (eq k) es) (lookup (eq k) fs)

    some_alike : (p q : Option V) → option_eq E p q ≡ true → is_some p ≡ is_some q
    some_alike p q h = grind arith

    module _ (es fs : List (K × V)) where
      keys_alike : (q : K) → agree es fs q ≡ true → has_key (eq q) (keys_of es) ≡ has_key (eq q) (keys_of fs)
      keys_alike q h = sym (is_some-lookup (eq q) es) ∙ some_alike _ _ h ∙ is_some-lookup (eq q) fs

      agree_congr : (q k : K) → eq q k ≡ true → agree es fs q ≡ agree es fs k
      agree_congr q k same =
          cc (lookup_congr eq laws.congr es q k same, lookup_congr eq laws.congr fs q k same)

      agree_where_absent : (p q : Option V) → is_some p ≡ false → is_some q ≡ false → option_eq E p q ≡ true
      agree_where_absent p q a b = grind arith

      module _ (c : HasUniqueKeys eq es) where
        agree_everywhere : length es ≡ length fs → list_all (agree es fs) (keys_of es) ≡ true → (q : K)
            → agree es fs q ≡ true
        agree_everywhere long each q =
            let at_member = passed_by_member (agree es fs) agree_congr (keys_of es) each in
            let few : length (keys_of fs) ≤ length (keys_of es) =
            omega (arith, length-keys_of es, length-keys_of fs) in
            let members = members_alike (keys_of es) (keys_of fs) c few
            (λ k h. sym (keys_alike k (at_member k h)) ∙ h) in
            ⊎_elim (at_member q) (λ lacks. agree_where_absent _ _ (is_some-lookup (eq q) es
            ∙ lacks) (is_some-lookup (eq q) fs ∙ sym (members q)
            ∙ lacks)) (cases_Bool (has_key (eq q) (keys_of es)))

        module _ (d : HasUniqueKeys eq fs) where
          pub tables_of_one_length : length es ≡ length fs → (b : Bool)
              → b ≡ list_all (agree es fs) (keys_of es) → b ≡ table_eq eq E es fs
          tables_of_one_length long b is = is ∙ one_answer _ _ (
            λ h. hash_map_eq_from_get eq E (as_map es) (as_map fs) (agree_everywhere long h),
            λ h. passed_by_all (agree es fs) (get_from_hash_map_eq eq E laws (as_map es) (as_map fs) h)
                (keys_of es),
          ) (λ h. h, λ h. h)

          pub tables_of_two_lengths : (m n : ℕ) → m ≡ length es → n ≡ length fs → nat_eq m n ≡ false
              → nat_eq m n ≡ table_eq eq E es fs
          tables_of_two_lengths m n long other differ =
              let alike = λ (q : K) (h : table_eq eq E es fs ≡ true). keys_alike q
              (get_from_hash_map_eq eq E laws (as_map es) (as_map fs) h q) in
              one_answer _ _ (
                λ h. absurd (true≢false (sym h ∙ differ)),
                λ h. eq-eqb m n (long ∙ sym (length-keys_of es) ∙ lengths_alike (keys_of es) (keys_of fs) c d
                    (λ q. alike q h) ∙ length-keys_of fs ∙ sym other),
              )
              (λ h. h, λ h. h)

-- what decides `==` of sets, and of tables, by their lengths and by what the first has
pub ruleset sets_by_length = (sets_of_one_length, sets_of_two_lengths)

pub ruleset tables_by_length = (tables_of_one_length, tables_of_two_lengths)
