-- The names under which something waits are those that are extended and not defined.
use Rattle.apollo_meaning.proofs.Prelude.{◌≡◌, ℕ, ◌==◌, false, cond, List, [], ◌∷◌, ◌++◌, All, length, map}
use Rattle.apollo_meaning.proofs.Prelude.{Option, Some, None, refl, sym, ap, subst, ◌∙◌, arith, flat_map}
use Rattle.apollo_meaning.proofs.Prelude.{AllByRecursion, option_or, option_map_or, lookup, keys_of}
use Rattle.apollo_meaning.proofs.Prelude.{nat_tests, filter-append, filter_map-append, NameView, Definition}
use Rattle.apollo_meaning.proofs.Prelude.{snoc_ind, TypePart, key_of, ListItem, Defined, Extended, item_of}
use Rattle.apollo_meaning.proofs.Prelude.{items_held, by_text, first, extensions_of, orphans_of, waited_at}
use Rattle.apollo_meaning.proofs.Prelude.{waited, same-true, same-is, each-weaken, flat_map-each}
use Rattle.std.proofs.lemmas.List.Elements.{All-from_recursion}
use Rattle.apollo_schema.specs.declared.tables.Tables.{Tables}
use Rattle.apollo_schema.specs.Stands.{Stands}
use Rattle.apollo_meaning.specs.Completion.OrphanNames.{first_name, orphan_names}
use Rattle.apollo_schema.specs.NamesLeft.{IsOrphanName, name_if_any, names_held}
use Rattle.apollo_component.proofs.Lists.Each.{each-append}
use Rattle.apollo_meaning.proofs.Items.ItemLemmas.{first-push_definition, first-push_undefined}
use Rattle.apollo_meaning.proofs.Items.ItemLemmas.{extensions_of-push_extension, waited-push}
use Rattle.apollo_meaning.proofs.Completion.OrphanLemmas.{orphans-waited, held-waited}
use Rattle.apollo_meaning.proofs.Types.TypeLemmas.{Own, Own-named}
use Rattle.apollo_schema.proofs.Stands.WaitingLemmas.{orphans_of-defined, orphans_of-undefined}

-- a name without a definition in a longer list has none in a front
neither : {X : Type 0} (o m : Option X) → option_or o m ≡ None → o ≡ None
neither o m h = grind arith

undefined-before : (xs : List ListItem) (x : ListItem) (n : List ℕ) → first (xs ++ x ∷ []) n ≡ None
    → first xs n ≡ None
undefined-before xs (Defined p) n none = neither _ _ (sym (first-push_definition xs p n) ∙ none)
undefined-before xs x n none = sym (first-push_undefined xs x refl n) ∙ none

-- the first of some extensions stays the first of more
first_name-more : (ps qs : List TypePart) (k : NameView) → first_name ps ≡ k ∷ []
    → first_name (ps ++ qs) ≡ k ∷ []
first_name-more ps qs k h = grind arith

some_length : (p : TypePart) (ps : List TypePart) → (length (p ∷ ps) == 0) ≡ false
some_length p ps = grind (arith, nat_tests)

-- a name that waited and has no definition is the name of its first extension
abbrev IsFirst : List ListItem → NameView → Type 0
IsFirst xs k = first xs k.text ≡ None → first_name (extensions_of xs k.text) ≡ k ∷ []

waited-first : (xs : List ListItem) → AllByRecursion (IsFirst xs) (waited xs)
waited-first = snoc_ind (λ xs. AllByRecursion (IsFirst xs) (waited xs)) tt step
  where
    step : (xs : List ListItem) (x : ListItem) → AllByRecursion (IsFirst xs) (waited xs)
        → AllByRecursion (IsFirst (xs ++ x ∷ [])) (waited (xs ++ x ∷ []))
    step xs x before = subst (AllByRecursion (IsFirst (xs ++ x ∷ []))) (sym (waited-push xs x))
        (each-append _ _ _ (each-weaken _ _ stays _ before) (own x))
      where
        stays : (k : NameView) → IsFirst xs k → IsFirst (xs ++ x ∷ []) k
        stays k was none = rw (filter_map-append, filter-append)
            (first_name-more _ _ k (was (undefined-before xs x k.text none)))

        own : (y : ListItem) → AllByRecursion (IsFirst (xs ++ y ∷ [])) (waited_at xs y)
        own (Extended p) = by (first xs (key_of p)) (extensions_of xs (key_of p)) refl
          where
            by : (o : Option TypePart) (es : List TypePart) → extensions_of xs (key_of p) ≡ es
                → AllByRecursion (IsFirst (xs ++ Extended p ∷ [])) (option_map_or (λ _. []) o
                (cond (length es == 0) (p.name ∷ []) []))
            by (Some d) es e = tt
            by None (q ∷ qs) e = subst (λ b. AllByRecursion (IsFirst (xs ++ Extended p ∷ [])) (cond b (p.name
                ∷ []) [])) (sym (some_length q qs)) tt
            by None [] e = (
              λ none. ap first_name (extensions_of-push_extension xs p _
                  ∙ (λ i. e i ++ cond (same-is _ (key_of p) refl i) (p ∷ []) [])),
              tt,
            )
        own _ = tt

-- a name stands for a list exactly if it does for the list's image
name_if_any-map : {X Y : Type 0} (f : X → Y) (k : NameView) (xs : List X)
    → name_if_any k (map f xs) ≡ name_if_any k xs
name_if_any-map f k xs = grind arith

-- what waits under a name has that name
waiting-name : (xs : List ListItem) (k : NameView) → IsFirst xs k
    → name_if_any k (map Extended (orphans_of xs k.text)) ≡ first_name (orphans_of xs k.text)
waiting-name xs k is = name_if_any-map Extended k _ ∙ by (first xs k.text) refl
  where
    named : (ps : List TypePart) → first_name ps ≡ k ∷ [] → name_if_any k ps ≡ first_name ps
    named ps h = grind arith

    by : (o : Option TypePart) → first xs k.text ≡ o
        → name_if_any k (orphans_of xs k.text) ≡ first_name (orphans_of xs k.text)
    by (Some d) e = rw (orphans_of-defined xs k.text d e)
    by None e = named _ (ap first_name (orphans_of-undefined xs k.text e) ∙ is e)

-- a table of what waits holds something under the names that are extended and not defined
held-names : (xs : List ListItem) (W : List (NameView × List Definition)) → keys_of W ≡ waited xs
    → ((n : List ℕ) → items_held (lookup (by_text n) W) ≡ map Extended (orphans_of xs n))
    → names_held W ≡ orphan_names xs
held-names xs W names each =
    sym (λ i. flat_map (λ (e : NameView × List Definition). name_if_any-map item_of e.0 e.1 i) W)
    ∙ held-waited (λ k items. name_if_any k items) xs W names each ∙ flat_map-each _ _ _ (waiting-name xs) _
    (waited-first xs) ∙ orphans-waited first_name refl xs

-- each of those names has no definition, and is that of its first extension
module _ (xs : List ListItem) where
  of_text : (n : List ℕ) → AllByRecursion (IsOrphanName xs) (first_name (orphans_of xs n))
  of_text n = by (orphans_of xs n) refl (first xs n) refl
    where
      by : (ps : List TypePart) → orphans_of xs n ≡ ps → (o : Option TypePart) → first xs n ≡ o
          → AllByRecursion (IsOrphanName xs) (first_name ps)
      by [] e o f = tt
      by (p ∷ ps) e (Some d) f = absurd (cc (orphans_of-defined xs n d f))
      by (p ∷ ps) e None f =
          let own : Own n (p ∷ ps) = subst (Own n) (sym (orphans_of-undefined xs n f) ∙ e) (Own-named n _) in
          let is : n ≡ key_of p = same-true n _ own.0 in
          ((ap (first xs) (sym is) ∙ f, (p, ps, ap (orphans_of xs) (sym is) ∙ e, refl)), tt)

  of_texts : (ns : List (List ℕ))
      → AllByRecursion (IsOrphanName xs) (flat_map (λ n. first_name (orphans_of xs n)) ns)
  of_texts [] = tt
  of_texts (n ∷ ns) = each-append _ _ _ (of_text n) (of_texts ns)

  pub orphan_names-each : All (IsOrphanName xs) (orphan_names xs)
  orphan_names-each = All-from_recursion _ _ (of_texts _)

-- the names under which tables of a list hold something are those that are extended and not defined
pub names_held-Stands : {start : ℕ} {xs : List ListItem} {t : Tables} → Stands start xs t
    → names_held t.waiting ≡ orphan_names xs
names_held-Stands {xs = xs} {t = t} was = held-names xs t.waiting was.names was.waiting
