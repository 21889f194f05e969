-- Equality of tables and sets, as functions of their keys.
use Rattle.std.proofs.Common.{◌≡◌, ℕ, Bool, List, [], ◌∷◌, refl, sym, ap, subst, map, ◌∙◌}
use Rattle.std.specs.Bool.{Decides}
use Rattle.std.specs.Cmp.{IsEquivalence, on_equiv}
use Rattle.std.specs.Cmp.Lexicographic.{nat_list_eq_equiv}
use Rattle.std.specs.HashMap.Eq.{get_from_hash_map_eq, hash_map_eq_from_get}
use Rattle.std.specs.HashSet.{HashSet}
use Rattle.std.specs.HashSet.Eq.{hash_set_eq_decides}
use Rattle.indexmap.specs.Layout.{key_set, hash_map}
use Rattle.graphql_nodes.specs.NameView.{plain_name}
use Rattle.graphql_nodes.specs.SameText.{same_text}
use Rattle.graphql_nodes.specs.KeySets.{has_key, set_eq}
use Rattle.graphql_nodes.specs.Tables.{as_map, table_eq}
use Rattle.graphql_nodes.specs.Comparing.{entries_by_key, entries_by_text, members_by_key, members_by_text}
use Rattle.graphql_nodes.proofs.Comparisons.{Compares, options}

pub tables : {K V B : Type 0} {eq : K → K → Bool} {E : V → V → Bool} {f : V → B} → IsEquivalence eq
    → Compares E f → Compares (table_eq eq E) (entries_by_key eq f)
tables {eq = eq} {E = E} laws t = record {
  at = λ es fs. (
    λ h i k. ((options t).at _ _).0 (get_from_hash_map_eq eq E laws (as_map es) (as_map fs) h k) i,
    λ h. hash_map_eq_from_get eq E (as_map es) (as_map fs) (λ k. ((options t).at _ _).1 (λ i. h i k)),
  );
}

module _ {K : Type 0} where
  abbrev as_set : List K → HashSet K (Unit {0})
  as_set ks = key_set (hash_map (map (λ k. (k, tt {0})) ks) tt 0)

  keys_as_set : (ks : List K) → (as_set ks).keys ≡ ks
  keys_as_set [] = refl
  keys_as_set (k ∷ ks) = ap (λ l. k ∷ l) (keys_as_set ks)

  module _ {eq : K → K → Bool} (laws : IsEquivalence eq) where
    abbrev AreDecided : List K → List K → Type 0
    AreDecided ks js = Decides (set_eq eq ks js) ((k : K) → has_key (eq k) ks ≡ has_key (eq k) js)

    decided : (ks js : List K) → AreDecided ks js
    decided ks js = subst (λ l. AreDecided l js) (keys_as_set ks) (subst (AreDecided (as_set ks).keys)
        (keys_as_set js) (hash_set_eq_decides laws (as_set ks) (as_set js)))

    pub sets : Compares (set_eq eq) (members_by_key eq)
    sets = record { at = λ ks js. (λ h i k. (decided ks js).0 h k i, λ h. (decided ks js).1 (λ k i. h i k)) }

-- where keys of one text are alike, a function of keys as one of texts
pub by_texts : {A K B : Type 0} {E : A → A → Bool} {g : A → K → B} (named : List ℕ → K) (text : K → List ℕ)
    → ((a : A) (k : K) → g a (named (text k)) ≡ g a k) → Compares E g
    → Compares {B = List ℕ → B} E (λ a n. g a (named n))
by_texts named text alike t = record {
  at = λ a b. (
    λ h i n. (t.at a b).0 h i (named n),
    λ h. (t.at a b).1 (λ i k. (sym (alike a k) ∙ (λ j. h j (text k)) ∙ alike b k) i),
  );
}

names_equiv : IsEquivalence same_text
names_equiv = on_equiv (λ k. k.text) nat_list_eq_equiv

pub tables_of_names : {V B : Type 0} {E : V → V → Bool} {f : V → B} → Compares E f
    → Compares (table_eq same_text E) (entries_by_text f)
tables_of_names t = by_texts plain_name (λ k. k.text) (λ _ _. refl) (tables names_equiv t)

pub sets_of_names : Compares (set_eq same_text) (members_by_text (λ n. n))
sets_of_names = by_texts plain_name (λ k. k.text) (λ _ _. refl) (sets names_equiv)
