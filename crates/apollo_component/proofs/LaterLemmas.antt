-- What `first_of_each` drops, by places of the whole list.
use Rattle.std.proofs.Common.{◌≡◌, ℕ, ◌+◌, Bool, true, not, List, [], ◌∷◌, ◌++◌, length, map, take}
use Rattle.std.proofs.Common.{arith, drop, is_some, filter, refl, ap, subst, append_assoc}
use Rattle.std.proofs.Common.{length-append}
use Rattle.std.specs.List.{All, enumerate_from, find, list_any}
use Rattle.std.specs.Option.{option_map_or}
use Rattle.std.specs.Cmp.{IsEquivalence}
use Rattle.std.proofs.Math.Seq.{take-append_seam}
use Rattle.std.proofs.lemmas.List.{append-nil, length-map, take-append-drop}
use Rattle.std.proofs.lemmas.List.Elements.{All-map, All-weaker, filter_passes}
use Rattle.std.proofs.lemmas.List.Filters.{length-filter_both}
use Rattle.std.proofs.lemmas.List.Folds.{find-append, list_any-append}
use Rattle.std.proofs.lemmas.List.FromFn.{length-enumerate_from}
use Rattle.apollo_component.specs.EachAfter.{each_after}
use Rattle.apollo_component.specs.FirstOfEach.{first_of_each, is_later, later_of_each, kept_for}
use Rattle.apollo_component.proofs.FirstOfEachLemmas.{list_any-first_of_each, first_of_each-push_new}
use Rattle.apollo_component.proofs.FirstOfEachLemmas.{first_of_each-push_old, find-first_of_each}
pub use Rattle.apollo_component.proofs.FirstOfEachLemmas.{found-any}

-- the first ones among these of the whole list, and the later ones, where these begin at this place
abbrev first_from : {X : Type 0} → (X → X → Bool) → List X → ℕ → List X → List X
first_from same whole n xs = map (λ p. p.1) (filter (λ p. not (is_later same whole p)) (enumerate_from n xs))

abbrev later_from : {X : Type 0} → (X → X → Bool) → List X → ℕ → List X → List X
later_from same whole n xs = map (λ p. p.1) (filter (is_later same whole) (enumerate_from n xs))

-- what is said of an element, where one that is the same is found among those before it
abbrev pub saying : {X Y : Type 0} → (X → X → Bool) → (X → X → Y) → List X → X → List Y
saying same say before x = option_map_or (λ k. say k x ∷ []) (find (same x) before) []

-- and of one after another
abbrev pub said : {X Y : Type 0} → (X → X → Bool) → (X → X → Y) → List X → List X → List Y
said same say = each_after (saying same say)

module _ {X : Type 0} (same : X → X → Bool) (before : List X) (x : X) (xs : List X) where
  abbrev whole : List X
  whole = before ++ x ∷ xs

  abbrev next : ℕ
  next = length before + 1

  -- x is the first of those that it is the same as, or a later one, by those before it
  later-here : is_later same whole (length before, x) ≡ list_any (same x) before
  later-here = ap (list_any (same x)) (take-append_seam before _)

  -- what is said of the elements after x, where x is the last of those before them
  moved : (P : List X → ℕ → Type 0) → P ((before ++ x ∷ []) ++ xs) (length (before ++ x ∷ [])) → P whole next
  moved P h = subst (P whole) (length-append before _)
      (subst (λ l. P l (length (before ++ x ∷ []))) (append_assoc before _ xs) h)

module _ {X : Type 0} (same : X → X → Bool) (laws : IsEquivalence same) where
  first-of : (before xs : List X)
      → first_of_each same (before ++ xs) ≡ first_of_each same before
      ++ first_from same (before ++ xs) (length before) xs
  first-of before [] = simp append-nil
  first-of before (x ∷ xs) = grind (
    arith,
    moved same before x xs (λ l n. first_of_each same l
        ≡ first_of_each same (before ++ x ∷ []) ++ first_from same l n xs) (first-of (before ++ x ∷ []) xs),
    later-here same before x xs,
    first_of_each-push_old same laws before x,
    first_of_each-push_new same laws before x,
    append_assoc (first_of_each same before) (x ∷ [])
        (first_from same (before ++ x ∷ xs) (length before + 1) xs),
  )

  -- the first of each are those that are no later ones
  pub first_of_each-by_place : (xs : List X) → first_of_each same xs ≡ first_from same xs 0 xs
  first_of_each-by_place xs = first-of [] xs

  -- each of the later ones is the same as one that is kept
  pub later-kept : (xs : List X)
      → All (λ x. is_some (find (same x) (first_of_each same xs)) ≡ true) (later_of_each same xs)
  later-kept xs = All-map (λ x. is_some (find (same x) (first_of_each same xs)) ≡ true) _ _
      (All-weaker _ _ kept _ (filter_passes _ (enumerate_from 0 xs)))
    where
      kept : (p : ℕ × X) → list_any (same p.1) (take p.0 xs) ≡ true
          → is_some (find (same p.1) (first_of_each same xs)) ≡ true
      kept p late = grind (
        arith,
        late,
        found-any (same p.1) (first_of_each same xs),
        list_any-first_of_each same laws p.1 xs,
        take-append-drop p.0 xs,
        list_any-append (same p.1) (take p.0 xs) (drop p.0 xs),
      )

  -- each is the first or a later one
  pub length-first_later : (xs : List X)
      → length (first_of_each same xs) + length (later_of_each same xs) ≡ length xs
  length-first_later xs =
      let places = enumerate_from 0 xs in
      omega (
        arith,
        ap length (first_of_each-by_place xs),
        length-map (filter (λ p. not (is_later same xs p)) places) (λ p. p.1),
        length-map (filter (is_later same xs) places) (λ p. p.1),
        length-filter_both _ (λ p. not (is_later same xs p)) (λ p. refl) places,
        length-enumerate_from 0 xs,
      )

  module _ {Y : Type 0} (say : X → X → Y) where
    abbrev told : List X → List X → List Y
    told whole = map (λ x. say (kept_for same (first_of_each same whole) x) x)

    -- what is said where one that is the same stands before is said of the later ones
    said-of : (before xs : List X)
        → said same say before xs ≡ told (before ++ xs) (later_from same (before ++ xs) (length before) xs)
    said-of before [] = refl
    said-of before (x ∷ xs) = grind (
      arith,
      moved same before x xs (λ l n. said same say (before ++ x ∷ []) xs ≡ told l (later_from same l n xs))
          (said-of (before ++ x ∷ []) xs),
      later-here same before x xs,
      found-any (same x) before,
      find-first_of_each same laws x (before ++ x ∷ xs),
      find-append (same x) before (x ∷ xs),
    )

    pub said-later : (xs : List X)
        → said same say [] xs ≡ map (λ x. say (kept_for same (first_of_each same xs) x) x)
        (later_of_each same xs)
    said-later xs = said-of [] xs
