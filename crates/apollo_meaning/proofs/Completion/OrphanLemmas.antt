-- What waits to the end is what has no definition.
use Rattle.apollo_meaning.proofs as meaning
use meaning.Prelude.{◌≡◌, ℕ, Bool, true, cond, not, ◌==◌, List, [], ◌∷◌, ◌++◌, length, map, Option, Some}
use meaning.Prelude.{None, is_some, filter, refl, sym, ap, subst, ◌∙◌, arith, filter_map, flat_map}
use meaning.Prelude.{flat_map-append, list_any, option_map_or, option_or, nat_list_eq_equiv, lookup, keys_of}
use meaning.Prelude.{nat_tests, append-nil, map-append, filter_map-append, NameView, same_text, same, by_text}
use meaning.Prelude.{Definition, first_of_each, first_of_each-push_new, first_of_each-push_old, name_laws}
use meaning.Prelude.{snoc_ind, TypePart, key_of, ListItem, Extended, extended_part, items_of, extended_parts}
use meaning.Prelude.{items_held, first, extended_names, orphans_of, adopted_by, adopted, waited_at, waited}
use meaning.Prelude.{same-true, cons_option, bool_cases, slice_get, list_any-first_of_each, filter_map-made}
use Rattle.apollo_component.proofs.Lists.Kept.{any-given}
use meaning.Items.ItemLemmas.{first-append, waited-push}
use Rattle.std.specs.List.{IsDistinct}
use Rattle.std.specs.Map.{values_of}
use Rattle.std.proofs.lemmas.List.Folds.{flat_map-map}
use Rattle.std.proofs.lemmas.Map.Made.{is_some-lookup}
use Rattle.std.proofs.lemmas.Map.Keys.{IsDistinct-push}
use Rattle.apollo_component.proofs.Tabled.{given-by_keys}

-- the names of extensions, each as often as it is extended
abbrev keys : List ListItem → List (List ℕ)
keys xs = map key_of (filter_map extended_part xs)

-- a name has an extension if it is among them
no_extension : (n : List ℕ) (ps : List TypePart)
    → (length (filter (λ p. same n (key_of p)) ps) == 0) ≡ not (list_any (same n) (map key_of ps))
no_extension n [] = refl
no_extension n (p ∷ ps) = grind (arith, nat_tests, no_extension n ps)

-- a further name that is extended
abbrev names_at : List ListItem → ListItem → List (List ℕ)
names_at xs x = option_map_or (λ p. cond (list_any (same (key_of p)) (keys xs)) [] (key_of p ∷ []))
    (extended_part x) []

extended_names-push : (xs : List ListItem) (x : ListItem)
    → extended_names (xs ++ x ∷ []) ≡ extended_names xs ++ names_at xs x
extended_names-push xs x = rw (filter_map-append, map-append) (by (extended_part x))
  where
    by : (o : Option TypePart)
        → first_of_each same (keys xs ++ map key_of (cons_option o [])) ≡ extended_names xs
        ++ option_map_or (λ p. cond (list_any (same (key_of p)) (keys xs)) [] (key_of p ∷ [])) o []
    by None = ap (first_of_each same) (append-nil _) ∙ sym (append-nil _)
    by (Some p) = grind (
      arith,
      first_of_each-push_old same nat_list_eq_equiv (keys xs) (key_of p),
      first_of_each-push_new same nat_list_eq_equiv (keys xs) (key_of p),
      append-nil (extended_names xs),
    )

-- an extension begins to wait where its name has no definition and no extension
waited_at-extended : (xs : List ListItem) (p : TypePart) (o : Option TypePart) → first xs (key_of p) ≡ o
    → waited_at xs (Extended p) ≡ cond (is_some o) [] (cond (list_any (same (key_of p)) (keys xs)) [] (p.name
    ∷ []))
waited_at-extended xs p (Some d) e = rw e
waited_at-extended xs p None e = rw (e, no_extension (key_of p) _) (grind arith)

-- a name that is defined in a front is defined in the list
defined-more : (xs : List ListItem) (x : ListItem) (n : List ℕ) (d : TypePart) → first xs n ≡ Some d
    → first (xs ++ x ∷ []) n ≡ Some d
defined-more xs x n d is = first-append xs _ n ∙ ap (λ o. option_or o (first (x ∷ []) n)) is

-- nothing is given for a name that is defined
abbrev Spares : {X : Type 0} → (List ℕ → List X) → List ListItem → Type 0
Spares give xs = (n : List ℕ) (d : TypePart) → first xs n ≡ Some d → give n ≡ []

-- then what is given by name is given by the names that waited
given-waited : {X : Type 0} (give : List ℕ → List X) (xs : List ListItem) → Spares give xs
    → flat_map (λ k. give k.text) (waited xs) ≡ flat_map give (extended_names xs)
given-waited give = snoc_ind _ (λ spares. refl)
    (λ xs x before spares. rw (waited-push xs x, extended_names-push xs x, flat_map-append, flat_map-append)
    (λ i. before (λ n d is. spares n d (defined-more xs x n d is)) i
    ++ own xs (λ n d is. spares n d (defined-more xs x n d is)) x i))
  where
    own : (xs : List ListItem) → Spares give xs → (x : ListItem)
        → flat_map (λ k. give k.text) (waited_at xs x) ≡ flat_map give (names_at xs x)
    own xs spares (Extended p) = grind (
      arith,
      waited_at-extended xs p _ refl,
      spares (key_of p),
      append-nil (give (key_of p)),
    )
    own xs spares _ = refl

-- what waits, by name, are the extensions without a definition
pub orphans-waited : {X : Type 0} (give : List TypePart → List X) → give [] ≡ [] → (xs : List ListItem)
    → flat_map (λ k. give (orphans_of xs k.text)) (waited xs) ≡ flat_map (λ n. give (orphans_of xs n))
    (extended_names xs)
orphans-waited give nothing xs = given-waited _ xs (λ n d is. rw is nothing)

-- a name without a definition waited exactly if it was extended
waited-known : (n : List ℕ) (xs : List ListItem) → first xs n ≡ None
    → list_any (by_text n) (waited xs) ≡ list_any (same n) (keys xs)
waited-known n xs none = any-given _ (waited xs) ∙ ap (λ l. is_some (slice_get l 0)) (given-waited own xs
    spares) ∙ sym (any-given _ (extended_names xs)) ∙ list_any-first_of_each same nat_list_eq_equiv n _
  where
    own : List ℕ → List Bool
    own m = cond (same n m) (true ∷ []) []

    spares : Spares own xs
    spares m d is = bool_cases _ (λ e. absurd (let h : None ≡ Some d = sym none
        ∙ ap (first xs) (same-true n m e) ∙ is in cc)) (λ e. rw e)

-- no two names that waited are one
waited-distinct : (xs : List ListItem) → IsDistinct same_text (waited xs)
unfolding IsDistinct
waited-distinct = snoc_ind _ tt (λ xs x before. rw (waited-push xs x) (own xs before x))
  where
    own : (xs : List ListItem) → IsDistinct same_text (waited xs) → (x : ListItem)
        → IsDistinct same_text (waited xs ++ waited_at xs x)
    own xs before (Extended p) = by (first xs (key_of p)) refl
      where
        by : (o : Option TypePart) → first xs (key_of p) ≡ o
            → IsDistinct same_text (waited xs ++ waited_at xs (Extended p))
        by (Some d) e = rw (waited_at-extended xs p _ e, append-nil) before
        by None e = bool_cases (list_any (same (key_of p)) (keys xs))
            (λ f. rw (waited_at-extended xs p None e, f, append-nil) before)
            (λ f. rw (waited_at-extended xs p None e, f) (IsDistinct-push name_laws _ p.name before
            (waited-known _ xs e ∙ f)))
    own xs before _ = rw append-nil before

-- a table of what waits holds the extensions without a definition, by name
abbrev HoldsOrphans : List ListItem → List (NameView × List Definition) → Type 0
HoldsOrphans xs W = (n : List ℕ) → items_held (lookup (by_text n) W) ≡ map Extended (orphans_of xs n)

-- it gives, entry by entry, what it does under the names that waited
pub held-waited : {X : Type 0} (give : NameView → List ListItem → List X) (xs : List ListItem)
    (W : List (NameView × List Definition)) → keys_of W ≡ waited xs → HoldsOrphans xs W
    → flat_map (λ e. give e.0 (items_of e.1)) W ≡ flat_map (λ k. give k (map Extended (orphans_of xs k.text)))
    (waited xs)
held-waited give xs W names each = given-by_keys name_laws (λ k o. give k (items_held o)) W
    (subst (IsDistinct same_text) (sym names) (waited-distinct xs))
    ∙ (λ i. flat_map (λ (k : NameView). give k (each k.text i)) (names i))

module _ (xs : List ListItem) (W : List (NameView × List Definition)) (names : keys_of W ≡ waited xs)
    (each : HoldsOrphans xs W) where
  held-by : {X : Type 0} (give : List TypePart → List X) → give [] ≡ []
      → flat_map (λ e. give (extended_parts e.1)) W ≡ flat_map (λ n. give (orphans_of xs n))
      (extended_names xs)
  held-by give nothing = held-waited (λ k items. give (filter_map extended_part items)) xs W names each
      ∙ (λ i. flat_map (λ (k : NameView). give (filter_map-made extended_part Extended (λ p. refl)
      (orphans_of xs k.text) i)) (waited xs)) ∙ orphans-waited give nothing xs

  pub held-orphans : flat_map (λ e. extended_parts e.1) W ≡ flat_map (orphans_of xs) (extended_names xs)
  held-orphans = held-by (λ ps. ps) refl

  -- and what is adopted from it is what is adopted at the end of the list
  pub held-adopted : flat_map (λ held. adopted_by (extended_parts held)) (values_of W) ≡ adopted xs
  held-adopted = flat_map-map _ _ W ∙ held-by adopted_by refl

-- the names under which something waits after an extension without a definition
pub waited-early : (xs : List ListItem) (p : TypePart) (W : List (NameView × List Definition))
    (ks : List NameView) → first xs (key_of p) ≡ None → keys_of W ≡ waited xs
    → ks ≡ cond (is_some (lookup (by_text (key_of p)) W)) (keys_of W) (keys_of W ++ p.name ∷ [])
    → ks ≡ waited (xs ++ Extended p ∷ [])
waited-early xs p W ks none names is =
    let test : is_some (lookup (by_text (key_of p)) W) ≡ list_any (same (key_of p)) (keys xs) =
    is_some-lookup _ W ∙ ap (list_any (by_text (key_of p))) names ∙ waited-known _ xs none in
    is ∙ (λ i. cond (test i) (names i) (names i ++ p.name ∷ [])) ∙ grind (arith, append-nil (waited xs))
    ∙ ap (λ l. waited xs ++ l) (sym (waited_at-extended xs p None none)) ∙ sym (waited-push xs _)

-- a definition or an extension of a defined name adds no name
pub waited-late : (xs : List ListItem) (p d : TypePart) → first xs (key_of p) ≡ Some d
    → waited_at xs (Extended p) ≡ []
waited-late xs p d some = waited_at-extended xs p _ some
