-- Rearranged lists: an equivalence that goes on in longer lists. What they are completed with, what is found
-- in them, and all their faults are the same, in another order. Documents that are added one by one, as one.
use Rattle.apollo_meaning.proofs.Prelude.{Added, added_items, adopted, adopted_by, AllByRecursion, ap}
use Rattle.apollo_meaning.proofs.Prelude.{append-nil, append_assoc, arith, Bool, bool_cases, completed, cond}
use Rattle.apollo_meaning.proofs.Prelude.{Defined, each-weaken, each_after, each_after-append}
use Rattle.apollo_meaning.proofs.Prelude.{each_after-push, extended_names, extended_part, extensions_of}
use Rattle.apollo_meaning.proofs.Prelude.{false, filter, filter-append, first, first_of_each}
use Rattle.apollo_meaning.proofs.Prelude.{first_of_each-push_new, first_of_each-push_old, first_schema}
use Rattle.apollo_meaning.proofs.Prelude.{flat_map, found, found_at, implied_schema, key_of, List, list_any}
use Rattle.apollo_meaning.proofs.Prelude.{ListItem, map-append, nat_list_eq_equiv, None, option_map_or}
use Rattle.apollo_meaning.proofs.Prelude.{orphan, orphans_of, refl, same, same-is, same-true}
use Rattle.apollo_meaning.proofs.Prelude.{schema_extensions, snoc_ind, Some, sym, true, TypePart}
use Rattle.apollo_meaning.proofs.Prelude.{with_adopted, ℕ, [], ◌++◌, ◌∙◌, ◌∷◌, ◌≡◌}
use Rattle.apollo_schema_laws.proofs.Rearranged.Words.{AreRearranged, by_subject, DefinitionsOf}
use Rattle.apollo_schema_laws.proofs.Rearranged.Words.{DirectiveDefinitionsOf, each-append, ExtensionsOf}
use Rattle.apollo_schema_laws.proofs.Rearranged.Words.{faults-completed, faults_in, faults_of, filter_agree}
use Rattle.apollo_schema_laws.proofs.Rearranged.Words.{Group, is_in, IsOwn, IsPermutation}
use Rattle.apollo_schema_laws.proofs.Rearranged.Words.{IsPermutation-append, IsPermutation-append_comm}
use Rattle.apollo_schema_laws.proofs.Rearranged.Words.{IsPermutation-append_right, IsPermutation-map}
use Rattle.apollo_schema_laws.proofs.Rearranged.Words.{IsPermutation-refl, IsPermutation-sym}
use Rattle.apollo_schema_laws.proofs.Rearranged.Words.{IsPermutation-trans, IsTest, one-element-permutation}
use Rattle.apollo_schema_laws.proofs.Rearranged.Words.{SchemaDefinitions, SchemaExtensions}
use Rattle.apollo_schema_laws.specs.Documents.{added_each, added_joined, Documents}
use Rattle.std.proofs.lemmas.Map.Views.{any-filter_same}
use Rattle.apollo_schema_laws.proofs.Subjects.{definitions-agree, DirectiveNamed, extensions-agree}
use Rattle.apollo_schema_laws.proofs.Subjects.{first-agree, first_schema-agree, found_at-agree, found_at-own}
use Rattle.apollo_schema_laws.proofs.Subjects.{NoSubject, same_subject, schema_definitions-agree}
use Rattle.apollo_schema_laws.proofs.Subjects.{schema_extensions-agree, Subject, subject, subject_laws}
use Rattle.apollo_schema_laws.proofs.Subjects.{subject_of_group, TheSchema, TypeNamed}
use Rattle.apollo_component.proofs.Lists.Kept.{passes}
use Rattle.apollo_schema_laws.proofs.Rearranged.Sorts.{AllNamed, extensions-named, orphans_of_schema}
use Rattle.apollo_schema_laws.proofs.Rearranged.Sorts.{type_orphans}
use Rattle.apollo_schema_laws.proofs.Rearranged.Regrouped.{schema-regrouped, type-regrouped}
use Rattle.apollo_component.proofs.Lists.Reordered.{alike-permutation, exchange, filter-permutation}
use Rattle.apollo_component.proofs.Lists.Reordered.{filter_map-permutation, flat_map-permutation}

pub rearranged-refl : (xs : List ListItem) → AreRearranged xs xs
rearranged-refl xs = record { same_definitions = IsPermutation-refl xs; in_order = λ g. refl }

pub rearranged-sym : (xs ys : List ListItem) → AreRearranged xs ys → AreRearranged ys xs
rearranged-sym xs ys r = record {
  same_definitions = IsPermutation-sym xs ys r.same_definitions;
  in_order = λ g. sym (r.in_order g);
}

pub rearranged-trans : (xs ys zs : List ListItem) → AreRearranged xs ys → AreRearranged ys zs
    → AreRearranged xs zs
rearranged-trans xs ys zs r s = record {
  same_definitions = IsPermutation-trans xs ys zs r.same_definitions s.same_definitions;
  in_order = λ g. r.in_order g ∙ s.in_order g;
}

pub rearranged-append : (xs ys us vs : List ListItem) → AreRearranged xs ys → AreRearranged us vs
    → AreRearranged (xs ++ us) (ys ++ vs)
rearranged-append xs ys us vs r s = record {
  same_definitions = IsPermutation-append xs ys us vs r.same_definitions s.same_definitions;
  in_order = λ g. simp (filter-append, r.in_order g, s.in_order g);
}

-- neighbours that share no group change places
pub neighbours-rearranged : (before after : List ListItem) (x y : ListItem)
    → ((g : Group) → is_in g x ≡ true → is_in g y ≡ false)
    → AreRearranged (before ++ x ∷ y ∷ after) (before ++ y ∷ x ∷ after)
neighbours-rearranged before after x y apart = rearranged-append before before _ _ (rearranged-refl before)
    (rearranged-append _ _ after after (record {
      same_definitions = IsPermutation-append_comm (x ∷ []) (y ∷ []);
      in_order = λ g. grind (arith, apart g);
    }) (rearranged-refl after))

-- documents that are added one by one, and as one
pub one_by_one : (ignores : Bool) (documents : Documents)
    → added_each ignores documents ≡ added_joined ignores documents
one_by_one ignores [] = refl
one_by_one ignores (d ∷ ds) = rw (one_by_one ignores ds, map-append)

-- names are told apart by their texts
same_laws : IsTest same
same_laws = record { is = same-true; itself = λ n. same-is n n refl }

-- a name is added where it is not among those before it
abbrev new_name : List (List ℕ) → List ℕ → List (List ℕ)
new_name before n = cond (list_any (same n) before) [] (n ∷ [])

first-one_by_one : (ns : List (List ℕ)) → first_of_each same ns ≡ each_after new_name [] ns
first-one_by_one = snoc_ind (λ ns. first_of_each same ns ≡ each_after new_name [] ns) refl (λ ns n so_far.
    let old = first_of_each-push_old same nat_list_eq_equiv ns n in
    let new = first_of_each-push_new same nat_list_eq_equiv ns n in
    grind (arith, old, new, append-nil, so_far, each_after-push new_name [] ns n))

new_name-own : IsOwn same same_laws (λ n. n) new_name
new_name-own before n =
    ap (λ b. cond b [] (n ∷ [])) (sym (any-filter_same (same n) (same n) true (λ m h. h) before))

first_of_each-permutation : (ns ms : List (List ℕ)) → IsPermutation ns ms
    → IsPermutation (first_of_each same ns) (first_of_each same ms)
first_of_each-permutation ns ms s = rw (first-one_by_one ns, first-one_by_one ms)
    (by_subject same same_laws (λ n. n) new_name new_name-own ns ms s
    (λ n. rw (one-element-permutation (n ∷ []) _ _ (filter-permutation (same n) ns ms s) (each-weaken _ _
    (λ m h. ap (λ k. k ∷ []) (same-true n m h)) _ (passes (same n) ns))) (IsPermutation-refl _)))

-- orphans of a name have it
orphans-own : (xs : List ListItem) (n : List ℕ) → AllNamed n (orphans_of xs n)
orphans-own xs n = elim (first xs n) as (λ o. AllNamed n (option_map_or (λ _. []) o (extensions_of xs n)))
    [ None ↦ extensions-named xs n | Some d ↦ tt ]

module _ (xs : List ListItem) where
  -- what is adopted for these names
  abbrev adopted_for : List (List ℕ) → List ListItem
  adopted_for = flat_map (λ n. adopted_by (orphans_of xs n))

  -- the definitions of a name among what is adopted are what is adopted for it
  adopted-own : (n : List ℕ) (ms : List (List ℕ))
      → AllByRecursion (λ x. adopted_by (orphans_of xs n) ≡ x ∷ []) (filter (is_in (DefinitionsOf n))
      (adopted_for ms))
  adopted-own n [] = tt
  adopted-own n (m ∷ ms) = rw (filter-append (is_in (DefinitionsOf n)) (adopted_by (orphans_of xs m))
      (adopted_for ms)) (each-append _ _ _ (by (orphans_of xs m) refl (orphans-own xs m)) (adopted-own n ms))
    where
      by : (ps : List TypePart) → orphans_of xs m ≡ ps → AllNamed m ps
          → AllByRecursion (λ x. adopted_by (orphans_of xs n) ≡ x ∷ []) (filter (is_in (DefinitionsOf n))
          (adopted_by ps))
      by [] is own = tt
      by (p ∷ ps) is own = bool_cases (same n (key_of p)) (λ e. rw e (
        ap (λ (k : List ℕ). adopted_by (orphans_of xs k)) (same-true n _ e ∙ sym (same-true m _ own.0))
            ∙ ap adopted_by is,
        tt,
      )) (λ e. rw e tt)

  -- nothing else is adopted
  adopted-none : (q : ListItem → Bool) → ((p : TypePart) → q (Defined p) ≡ false) → (ms : List (List ℕ))
      → filter q (adopted_for ms) ≡ []
  adopted-none q fails [] = refl
  adopted-none q fails (m ∷ ms) = grind (arith, fails, adopted-none q fails ms)

module _ (xs ys : List ListItem) (r : AreRearranged xs ys) where
  pub first-rearranged : (n : List ℕ) → first xs n ≡ first ys n
  first-rearranged n = first-agree xs ys n (r.in_order (DefinitionsOf n))

  pub extensions-rearranged : (n : List ℕ) → extensions_of xs n ≡ extensions_of ys n
  extensions-rearranged n = extensions-agree xs ys n (r.in_order (ExtensionsOf n))

  pub first_schema-rearranged : first_schema xs ≡ first_schema ys
  first_schema-rearranged = first_schema-agree xs ys (r.in_order SchemaDefinitions)

  pub schema_extensions-rearranged : schema_extensions xs ≡ schema_extensions ys
  schema_extensions-rearranged = schema_extensions-agree xs ys (r.in_order SchemaExtensions)

  -- the orphans, by name
  orphans-rearranged : {Y : Type 0} (make : List TypePart → List Y)
      → IsPermutation (flat_map (λ n. make (orphans_of xs n)) (extended_names xs))
      (flat_map (λ n. make (orphans_of ys n)) (extended_names ys))
  orphans-rearranged make =
      let same : (n : List ℕ) → orphans_of xs n ≡ orphans_of ys n =
      λ n. simp (first-rearranged, extensions-rearranged) in
      alike-permutation _ _ (λ n. ap make (same n)) _ _ (first_of_each-permutation _ _
      (IsPermutation-map key_of _ _ (filter_map-permutation extended_part xs ys r.same_definitions)))

  adopted-in_order : (g : Group) → filter (is_in g) (adopted xs) ≡ filter (is_in g) (adopted ys)
  adopted-in_order (DefinitionsOf n) = one-element-permutation _ _ _
      (filter-permutation _ _ _ (orphans-rearranged adopted_by)) (adopted-own xs n _)
  adopted-in_order g = simp adopted-none

  with_adopted-rearranged : (adopts : Bool) → AreRearranged (with_adopted adopts xs) (with_adopted adopts ys)
  with_adopted-rearranged false = r
  with_adopted-rearranged true = rearranged-append xs ys _ _ r
      (record { same_definitions = orphans-rearranged adopted_by; in_order = adopted-in_order })

  implied_schema-rearranged : (adopts : Bool) → implied_schema adopts xs ≡ implied_schema adopts ys
  implied_schema-rearranged adopts =
      simp (first_schema-rearranged, schema_extensions-rearranged, first-rearranged)

-- all that rearranged lists mean is rearranged
pub completed-rearranged : (adopts : Bool) (xs ys : List ListItem) → AreRearranged xs ys
    → AreRearranged (completed adopts xs) (completed adopts ys)
completed-rearranged adopts xs ys r =
    let more = with_adopted-rearranged xs ys r adopts in
    rw (sym (implied_schema-rearranged _ _ more adopts)) (rearranged-append _ _ _ _ more (rearranged-refl _))

-- whether an item is about a subject
abbrev about : Subject → ListItem → Bool
about k x = same_subject k (subject x)

-- those of a directive's name are its definitions
about-directive : (n : List ℕ) (x : ListItem)
    → about (DirectiveNamed n) x ≡ is_in (DirectiveDefinitionsOf n) x
about-directive n x = grind arith

-- what is found at those of no subject is so wherever they stand
alone : (before xs : List ListItem) → AllByRecursion (λ x. about NoSubject x ≡ true) xs
    → each_after found_at before xs ≡ flat_map (found_at []) xs
alone before [] a = refl
alone before (x ∷ xs) a =
    let own = λ (g : Group) (is : subject_of_group g ≡ subject x). absurd (grind (arith, a.0, is)) in
    rw (found_at-agree before [] x own) (ap (λ l. found_at [] x ++ l) (alone (before ++ x ∷ []) xs a.1))

module _ (xs ys : List ListItem) (r : AreRearranged xs ys) where
  -- what is found of a subject
  found-of : (k : Subject) → IsPermutation (found (filter (about k) xs)) (found (filter (about k) ys))
  found-of (TypeNamed n) = IsPermutation-trans _ _ _ (type-regrouped n xs)
      (rw (definitions-agree xs ys n (r.in_order (DefinitionsOf n)), extensions-rearranged xs ys r n)
      (IsPermutation-sym _ _ (type-regrouped n ys)))
  found-of TheSchema = IsPermutation-trans _ _ _ (schema-regrouped xs) (rw (
    schema_definitions-agree xs ys (r.in_order SchemaDefinitions),
    schema_extensions-rearranged xs ys r,
  ) (IsPermutation-sym _ _ (schema-regrouped ys)))
  found-of (DirectiveNamed n) =
      let each = filter_agree _ (is_in (DirectiveDefinitionsOf n)) (about-directive n) in
      rw (each xs ∙ r.in_order (DirectiveDefinitionsOf n) ∙ sym (each ys)) (IsPermutation-refl _)
  found-of NoSubject =
      let each : (zs : List ListItem) → found (filter (about NoSubject) zs)
      ≡ flat_map (found_at []) (filter (about NoSubject) zs) =
      λ zs. alone [] (filter (about NoSubject) zs) (passes (about NoSubject) zs) in
      rw (each xs, each ys) (flat_map-permutation (found_at []) _ _ (filter-permutation (about NoSubject) xs
      ys r.same_definitions))

  pub found-rearranged : IsPermutation (found xs) (found ys)
  found-rearranged = by_subject same_subject subject_laws subject found_at found_at-own xs ys
      r.same_definitions found-of

-- the faults of a list are those that are found in all that it means, and those of orphans
faults-split : (adopts : Bool) (xs : List ListItem)
    → IsPermutation (faults_in adopts xs) (found (completed adopts xs)
    ++ (type_orphans adopts xs ++ orphans_of_schema adopts xs))
faults-split adopts xs =
    let list = with_adopted adopts xs in
    rw (faults-completed, each_after-append found_at [] list (implied_schema adopts list), append_assoc)
    (IsPermutation-append_right (found list) _ _ (exchange (type_orphans adopts xs) _
    (orphans_of_schema adopts xs)))

pub faults-rearranged : (adopts : Bool) (xs ys : List Added) → AreRearranged (added_items xs) (added_items ys)
    → IsPermutation (faults_of adopts xs) (faults_of adopts ys)
faults-rearranged adopts xs ys r =
    let all = completed-rearranged adopts _ _ r in
    IsPermutation-trans _ _ _ (faults-split adopts (added_items xs))
    (IsPermutation-trans _ _ _ (IsPermutation-append _ _ _ _ (found-rearranged _ _ all)
    (IsPermutation-append _ _ _ _ (IsPermutation-map orphan _ _
    (orphans-rearranged _ _ (with_adopted-rearranged _ _ r adopts) (λ ps. ps)))
    (rw (first_schema-rearranged _ _ all, schema_extensions-rearranged _ _ all) (IsPermutation-refl _))))
    (IsPermutation-sym _ _ (faults-split adopts (added_items ys))))
