-- What holds of each element of a list, where the list is joined, chosen from or looked up.
use Rattle.apollo_canonical.proofs as canonical
use canonical.Prelude.{AllByRecursion, Bool, IfSome, IsDistinct, List, NameView, None, Option, Some, []}
use canonical.Prelude.{and_parts, arith, by_text, cond, cons_option, each-filter, each-weaken, false, filter}
use canonical.Prelude.{filter_map, first_of_each, first_of_each-distinct, flat_map, given-by_keys, keys_of}
use canonical.Prelude.{last_or, list_all, list_any, name_laws, option_or, same_text, slice_get, subst, sym}
use canonical.Prelude.{true, true≢false, values_of, ℕ, ◌∷◌, ◌≡◌}
use Rattle.graphql_nodes.specs.Tables.{lookup}
pub use Rattle.apollo_component.proofs.Lists.Kept.{each-flat_map, each-flat_map_back as each-from_flat_map}
pub use Rattle.apollo_component.proofs.Lists.Kept.{each-from_map, each-map, each-of, each-split}
pub use Rattle.apollo_component.proofs.Lists.Kept.{flat_map-none, if-found, map-empty, passes}

module _ {X : Type 0} (P : X → Type 0) where
  -- what passes a test is among all
  pub each-passing : (p : X → Bool) (xs : List X) → AllByRecursion P xs → AllByRecursion P (filter p xs)
  each-passing p xs a = each-weaken _ P (λ x h. h.0) _ (each-filter P p xs a)

  module _ {Y : Type 0} where
    -- what is chosen
    pub each-chosen : (Q : Y → Type 0) (which : Y → Option X) → ((y : Y) → Q y → IfSome (which y) P)
        → (ys : List Y) → AllByRecursion Q ys → AllByRecursion P (filter_map which ys)
    each-chosen Q which chosen [] a = tt
    each-chosen Q which chosen (y ∷ ys) a = by (which y) (chosen y a.0) (each-chosen Q which chosen ys a.1)
      where
        by : (o : Option X) → IfSome o P → AllByRecursion P (filter_map which ys)
            → AllByRecursion P (cons_option o (filter_map which ys))
        by None h rest = rest
        by (Some x) h rest = (h, rest)

    -- what is looked up
    pub if-looked_up : (test : Y → Bool) (es : List (Y × X)) → AllByRecursion (λ e. P e.1) es
        → IfSome (lookup test es) P
    if-looked_up test [] a = tt
    if-looked_up test (e ∷ es) a = elim (test e.0) as (λ b. IfSome (cond b (Some e.1) (lookup test es)) P)
        [ true ↦ a.0 | false ↦ if-looked_up test es a.1 ]

  -- what a test that passes shows, where it passes at all
  pub each-tested : (test : X → Bool) → ((x : X) → test x ≡ true → P x) → (xs : List X)
      → list_all test xs ≡ true → AllByRecursion P xs
  each-tested test sound [] h = tt
  each-tested test sound (x ∷ xs) h =
      let both = and_parts (test x) _ h in
      (sound x both.0, each-tested test sound xs both.1)

  pub if-first : (xs : List X) → AllByRecursion P xs → IfSome (slice_get xs 0) P
  if-first [] a = tt
  if-first (x ∷ xs) a = a.0

  pub if-last : (o : Option X) (xs : List X) → IfSome o P → AllByRecursion P xs → IfSome (last_or o xs) P
  if-last o [] h a = h
  if-last o (x ∷ xs) h a = if-last (Some x) xs a.0 a.1

  pub if-either : (o other : Option X) → IfSome o P → IfSome other P → IfSome (option_or o other) P
  if-either None other h g = g
  if-either (Some x) other h g = h

  -- what holds of all that a table has under its keys, where these are the first of each of some names
  pub each-value : (es : List (NameView × X)) (names : List NameView)
      → keys_of es ≡ first_of_each same_text names → ((n : List ℕ) → IfSome (lookup (by_text n) es) P)
      → AllByRecursion P (values_of es)
  each-value es names keys under =
      alone es (subst (AllByRecursion P)
      (sym (given-by_keys name_laws give es (subst (IsDistinct same_text) (sym keys) (first_of_each-distinct
      same_text names)))) (each-flat_map P _ _ (each-of _ (λ k. given k _ (under k.text)) (keys_of es))))
    where
      give : NameView → Option X → List X
      give k None = []
      give k (Some x) = x ∷ []

      given : (k : NameView) (o : Option X) → IfSome o P → AllByRecursion P (give k o)
      given k None h = tt
      given k (Some x) h = (h, tt)

      alone : (fs : List (NameView × X)) → AllByRecursion P (flat_map (λ f. give f.0 (Some f.1)) fs)
          → AllByRecursion P (values_of fs)
      alone [] a = tt
      alone (f ∷ fs) a = (a.0, alone fs a.1)

-- where a test passes at some element, it keeps something
pub some-passes : {X : Type 0} (p : X → Bool) (xs : List X) → list_any p xs ≡ true → filter p xs ≡ [] → ⊥
some-passes p [] h none = true≢false (sym h)
some-passes p (x ∷ xs) h none = grind (arith, h, none, some-passes p xs)
