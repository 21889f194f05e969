-- The first definitions of keys by their places, and what stands before a place. What is said of extensions
-- by places, moment by moment, is what is said of them item by item.
use Rattle.apollo_meaning.proofs as meaning
use meaning.Prelude.{cons_option, append_assoc, first_schema, first_place, flat_map-each, ◌≡◌, ℕ, ◌+◌, ◌<◌}
use meaning.Prelude.{◌∷◌, map, Some, None, refl, sym, same, find, ◌==◌, Bool, filter_map-numbered}
use meaning.Prelude.{definition_places, enumerate_from-append, true, cond, List, ◌++◌, take, arith, first}
use meaning.Prelude.{types, eq-eqb, false, flat_map, snoc_ind, TypePart, ListItem, same-true, same-flip, []}
use meaning.Prelude.{enumerate_from, AllByRecursion, defined_schema, flat_map-append, length, filter_map}
use meaning.Prelude.{option_map, append-nil, map-append, each-weaken, take-append_seam, lookup-keyed}
use meaning.Prelude.{filter_map-append, extension_places, find-made, placed_by, slice_get, option_or}
use meaning.Prelude.{each_after, SchemaPart, lookup-append, length-append, option_map_or, filter-append}
use meaning.Prelude.{or-none, Option, filter, lookup, Family, schemas, Placed, ne_eqb, met_when, ap, ◌∙◌, max}
use meaning.Prelude.{bool_cases}
use Rattle.apollo_component.proofs.Lists.Kept.{flat_map-filter, flat_map-none, nothing}
use Rattle.std.specs.Option.{IfSome}
use Rattle.std.proofs.lemmas.List.{take-append-le}
use Rattle.apollo_component.proofs.Lists.Each.{each-append, filter-map}

-- a place below n
abbrev pub IsBelow : {P : Type 0} → ℕ → Placed P → Type 0
IsBelow n e = e.0 < n

-- a part at a place, alone, if there is one
abbrev pub at_place : {P : Type 0} → ℕ → Option P → List (Placed P)
at_place i o = cons_option (option_map (λ p. (i, p)) o) []

-- what the parts that are chosen add by their places is what they add one after another
module _ {P Y : Type 0} (which : ListItem → Option P) (test : P → Bool) (at : List P → P → List Y) where
  abbrev chosen : List ListItem → List P
  chosen xs = filter test (filter_map which xs)

  abbrev chosen_from : ℕ → List ListItem → List (Placed P)
  chosen_from n xs = filter (λ e. test e.1) (filter_map (placed_by which) (enumerate_from n xs))

  abbrev here : List ListItem → Placed P → List Y
  here whole e = at (chosen (take e.0 whole)) e.1

  chosen-push : (before : List ListItem) (x : ListItem)
      → chosen (before ++ x ∷ []) ≡ chosen before ++ chosen (x ∷ [])
  chosen-push before x = rw (filter_map-append, filter-append)

  pub placed-after : (before xs : List ListItem)
      → flat_map (here (before ++ xs)) (chosen_from (length before) xs) ≡ each_after at (chosen before)
      (chosen xs)
  placed-after before [] = refl
  placed-after before (x ∷ xs) =
      let more = rw (append_assoc, length-append, chosen-push) at (placed-after (before ++ x ∷ []) xs) in
      grind (arith, more, append-nil (chosen before), take-append_seam before (x ∷ xs))

module _ {P : Type 0} (which : ListItem → Option P) where
  -- those that are chosen, without their places
  pub chosen-forget : (test : P → Bool) (xs : List ListItem)
      → map (λ e. e.1) (filter (λ e. test e.1) (filter_map (placed_by which) (enumerate_from 0 xs)))
      ≡ filter test (filter_map which xs)
  chosen-forget test xs = sym (filter-map test _ _) ∙ ap (filter test) (filter_map-numbered which 0 xs)

  pub placed-push : (xs : List ListItem) (x : ListItem)
      → filter_map (placed_by which) (enumerate_from 0 (xs ++ x ∷ [])) ≡ filter_map (placed_by which)
      (enumerate_from 0 xs) ++ at_place (length xs) (which x)
  placed-push xs x =
      let last : 0 + length xs ≡ length xs = omega arith in
      rw (enumerate_from-append, last, filter_map-append)

  placed-below : (xs : List ListItem)
      → AllByRecursion (IsBelow (length xs)) (filter_map (placed_by which) (enumerate_from 0 xs))
  placed-below = snoc_ind _ tt (λ xs x below. rw (length-append, placed-push xs x)
      (each-append _ _ _ (each-weaken _ _ (λ e lt. omega (arith, lt)) _ below) (one _ _)))
    where
      one : (n : ℕ) (o : Option P) → AllByRecursion (IsBelow (n + 1)) (at_place n o)
      one n None = tt
      one n (Some p) = (omega arith, tt)

pub extensions-below : {P : Type 0} (f : Family P) (xs : List ListItem)
    → AllByRecursion (IsBelow (length xs)) (extension_places f xs)
extensions-below f = placed-below f.extended

-- the items before a place are as before
pub same_front : (xs : List ListItem) (x : ListItem) (i : ℕ) → i < length xs
    → take i (xs ++ x ∷ []) ≡ take i xs
same_front xs x i lt = take-append-le i xs _ (omega (arith, lt))

-- parts, and parts with their places, under their keys
abbrev pub keyed : {P : Type 0} → Family P → List P → List (List ℕ × P)
keyed f = map (λ p. (f.key p, p))

abbrev under : {P : Type 0} → Family P → List (Placed P) → List (List ℕ × Placed P)
under f = map (λ e. (f.key e.1, e))

-- the first definition of a key that a definition at a place is
abbrev pub own_place : {P : Type 0} → Family P → ℕ → Option P → List ℕ → Option (Placed P)
own_place f i o n = option_map_or (λ d. cond (same n (f.key d)) (Some (i, d)) None) o None

module _ {P : Type 0} (f : Family P) where
  -- the first definition of a key, with its place and without
  pub first-forget : (xs : List ListItem) (n : List ℕ)
      → option_map (λ e. e.1) (first_place f xs n) ≡ lookup (same n) (keyed f (filter_map f.defined xs))
  first-forget xs n =
      let places : List (Placed P) = definition_places f xs in
      ap (option_map (λ (e : Placed P). e.1)) (lookup-keyed _ _ places) ∙ sym (find-made _ _ places)
      ∙ ap (find (λ p. same n (f.key p))) (filter_map-numbered f.defined 0 xs)
      ∙ sym (lookup-keyed _ f.key (filter_map f.defined xs))

  lookup-below : (m : ℕ) (n : List ℕ) (es : List (Placed P)) → AllByRecursion (IsBelow m) es
      → IfSome (lookup (same n) (under f es)) (IsBelow m)
  lookup-below m n [] below = tt
  lookup-below m n (e ∷ es) below = bool_cases (same n (f.key e.1)) (λ h. rw h below.0)
      (λ h. rw h (lookup-below m n es below.1))

  pub first_place-below : (xs : List ListItem) (n : List ℕ) (z : Placed P) → first_place f xs n ≡ Some z
      → z.0 < length xs
  first_place-below xs n z h =
      let below = lookup-below _ n _ (placed-below f.defined xs) in
      rw h at below

  pub first_place-push : (xs : List ListItem) (x : ListItem) (n : List ℕ)
      → first_place f (xs ++ x ∷ []) n ≡ option_or (first_place f xs n) (own_place f (length xs) (f.defined x)
      n)
  first_place-push xs x n = ap (λ l. lookup (same n) (under f l)) (placed-push f.defined xs x)
      ∙ by (f.defined x)
    where
      by : (o : Option P)
          → lookup (same n) (under f (definition_places f xs ++ at_place (length xs) o))
          ≡ option_or (first_place f xs n) (own_place f (length xs) o n)
      by o = grind (
        arith,
        append-nil (definition_places f xs),
        or-none (first_place f xs n),
        map-append,
        lookup-append (same n) (under f (definition_places f xs)),
      )

-- the first definition of a type's name
module _ (xs : List ListItem) (n : List ℕ) where
  first-is : (o : Option (Placed TypePart)) → first_place types xs n ≡ o
      → first xs n ≡ option_map (λ z. z.1) o
  first-is o e = sym (first-forget types xs n) ∙ ap (option_map (λ (z : Placed TypePart). z.1)) e

  pub first-none : first_place types xs n ≡ None → first xs n ≡ None
  first-none = first-is None

  pub first-some : (z : Placed TypePart) → first_place types xs n ≡ Some z → first xs n ≡ Some z.1
  first-some z = first-is _

  -- what it gives
  pub first-gives : {X : Type 0} (k : TypePart → X) (z : X)
      → option_map_or (λ d. k d.1) (first_place types xs n) z ≡ option_map_or k (first xs n) z
  first-gives k z = grind (arith, first-is _ refl)

-- and of the schema, whose parts have one key
module _ (xs : List ListItem) where
  first_schema-is : (o : Option (Placed SchemaPart)) → first_place schemas xs [] ≡ o
      → first_schema xs ≡ option_map (λ z. z.1) o
  first_schema-is o e = sym (first-forget schemas xs [] ∙ by (filter_map defined_schema xs))
      ∙ ap (option_map (λ (z : Placed SchemaPart). z.1)) e
    where
      by : (l : List SchemaPart) → lookup (same []) (keyed schemas l) ≡ slice_get l 0
      by [] = refl
      by (s ∷ l) = refl

  pub first_schema-none : first_place schemas xs [] ≡ None → first_schema xs ≡ None
  first_schema-none = first_schema-is None

  pub first_schema-some : (z : Placed SchemaPart) → first_place schemas xs [] ≡ Some z
      → first_schema xs ≡ Some z.1
  first_schema-some z = first_schema-is _

  pub first_schema-gives : {X : Type 0} (k : SchemaPart → X) (z : X)
      → option_map_or (λ s. k s.1) (first_place schemas xs []) z ≡ option_map_or k (first_schema xs) z
  first_schema-gives k z = grind (arith, first_schema-is _ refl)

-- something may be said of an extension, by the first definition of its key and by the items before it
module _ {P Y : Type 0} (f : Family P) (say : P → List ListItem → List ℕ → P → List Y) where
  abbrev pub said_of : List ListItem → Placed P → List Y
  said_of xs e = option_map_or (λ d. say d.1 (take e.0 xs) (f.key e.1) e.1) (first_place f xs (f.key e.1)) []

  -- what is said at a moment
  abbrev pub said_when : List ListItem → ℕ → List Y
  said_when xs i = flat_map (said_of xs) (met_when f xs i)

  -- what is said of one extension then, with this first definition of its key
  abbrev said_by : List ListItem → ℕ → Placed P → Option (Placed P) → List Y
  said_by xs i e o = option_map_or (λ d. cond (max e.0 d.0 == i) (say d.1 (take e.0 xs) (f.key e.1) e.1) []) o
      []

  abbrev said_then : List ListItem → ℕ → Placed P → List Y
  said_then xs i e = said_by xs i e (first_place f xs (f.key e.1))

  said-then : (xs : List ListItem) (i : ℕ)
      → said_when xs i ≡ flat_map (said_then xs i) (extension_places f xs)
  said-then xs i = flat_map-filter _ _ (extension_places f xs)
      ∙ (λ j. flat_map (λ e. by e (first_place f xs (f.key e.1)) j) (extension_places f xs))
    where
      by : (e : Placed P) (o : Option (Placed P))
          → cond (option_map_or (λ d. max e.0 d.0 == i) o false)
          (option_map_or (λ d. say d.1 (take e.0 xs) (f.key e.1) e.1) o []) [] ≡ said_by xs i e o
      by e o = grind arith

  module _ (xs : List ListItem) (x : ListItem) where
    abbrev ys : List ListItem
    ys = xs ++ x ∷ []

    -- of the extensions before an item, and of the item itself
    said-parts : (i : ℕ) (g : Placed P → List Y)
        → ((e : Placed P) → IsBelow (length xs) e → said_then ys i e ≡ g e)
        → said_when ys i ≡ flat_map g (extension_places f xs) ++ flat_map (said_then ys i)
        (at_place (length xs) (f.extended x))
    said-parts i g agree =
        let before = flat_map-each _ _ g agree _ (extensions-below f xs) in
        said-then ys i ∙ rw (placed-push f.extended xs x, flat_map-append, before)

    -- an earlier moment says what it said
    pub said-push : (i : ℕ) → i < length xs → said_when ys i ≡ said_when xs i
    said-push i lt = said-parts i _ before ∙ rw (own _, append-nil) (sym (said-then xs i))
      where
        before : (e : Placed P) → IsBelow (length xs) e → said_then ys i e ≡ said_then xs i e
        before e low =
            let past = ne_eqb (max e.0 (length xs)) i (λ one. omega (arith, lt, one)) in
            grind (arith, first_place-push f xs x (f.key e.1), same_front xs x e.0 low, past)

        own : (o : Option P) → flat_map (said_then ys i) (at_place (length xs) o) ≡ []
        own None = refl
        own (Some p) =
            let past : (m : ℕ) → (max (length xs) m == i) ≡ false =
            λ m. ne_eqb _ i (λ one. omega (arith, lt, one)) in grind (arith, past)

    -- at the item's own moment: of an extension before it, where the item defines its key first
    abbrev told : Option P → Placed P → List Y
    told o e = option_map_or (λ _. []) (first_place f xs (f.key e.1)) (option_map_or
        (λ d. cond (same (f.key e.1) (f.key d)) (say d (take e.0 xs) (f.key e.1) e.1) []) o [])

    told-before : (e : Placed P) → IsBelow (length xs) e → said_then ys (length xs) e ≡ told (f.defined x) e
    told-before e low =
        let past : (d : Placed P) → first_place f xs (f.key e.1) ≡ Some d → (max e.0 d.0 == length xs)
        ≡ false = λ d is. ne_eqb _ _ (λ one. omega (arith, low, first_place-below f xs _ d is, one)) in
        let here = eq-eqb (max e.0 (length xs)) (length xs) (omega (arith, low)) in
        grind (arith, first_place-push f xs x (f.key e.1), past, here, same_front xs x e.0 low)

    -- where it defines nothing, of itself
    said-undefined : f.defined x ≡ None
        → said_when ys (length xs) ≡ flat_map (said_then ys (length xs)) (at_place (length xs) (f.extended x))
    said-undefined undefined = said-parts _ _ (λ e low. told-before e low ∙ ap (λ o. told o e) undefined
        ∙ nothing _) ∙ rw (flat_map-none {Y = Y} (λ _. []) (λ e. refl) (extension_places f xs))

    pub said-other : f.defined x ≡ None → f.extended x ≡ None → said_when ys (length xs) ≡ []
    said-other undefined unextended = said-undefined undefined ∙ rw unextended

    pub said-extended : (p : P) → f.defined x ≡ None → f.extended x ≡ Some p
        → said_when ys (length xs) ≡ option_map_or (λ d. say d.1 xs (f.key p) p) (first_place f xs (f.key p))
        []
    said-extended p undefined is =
        let past : (d : Placed P) → first_place f xs (f.key p) ≡ Some d → (max (length xs) d.0 == length xs)
        ≡ true = λ d is. eq-eqb _ _ (omega (arith, first_place-below f xs _ d is)) in
        said-undefined undefined ∙ ap (λ o. flat_map (said_then ys (length xs)) (at_place (length xs) o)) is
        ∙ append-nil _ ∙ grind (
          arith,
          undefined,
          first_place-push f xs x (f.key p),
          past,
          take-append_seam xs (x ∷ []),
        )

    -- and where it defines something, of what waited for it
    pub said-defined : (d : P) → f.defined x ≡ Some d → f.extended x ≡ None
        → said_when ys (length xs) ≡ option_map_or (λ _. []) (first_place f xs (f.key d))
        (flat_map (λ e. say d (take e.0 xs) (f.key d) e.1) (filter (λ e. same (f.key d) (f.key e.1))
        (extension_places f xs)))
    said-defined d is unextended = said-parts _ _ (λ e low. told-before e low ∙ ap (λ o. told o e) is)
        ∙ rw (unextended, append-nil) ((λ j. flat_map (λ e. waits e j) (extension_places f xs))
        ∙ by (first_place f xs (f.key d)))
      where
        of_waiting : Placed P → List Y
        of_waiting e = cond (same (f.key d) (f.key e.1)) (say d (take e.0 xs) (f.key d) e.1) []

        waits : (e : Placed P)
            → told (Some d) e ≡ option_map_or (λ _. []) (first_place f xs (f.key d)) (of_waiting e)
        waits e = grind (arith, same-true (f.key e.1) (f.key d), same-flip (f.key e.1) (f.key d))

        by : (o : Option (Placed P))
            → flat_map (λ e. option_map_or (λ _. []) o (of_waiting e)) (extension_places f xs)
            ≡ option_map_or (λ _. []) o (flat_map (λ e. say d (take e.0 xs) (f.key d) e.1)
            (filter (λ e. same (f.key d) (f.key e.1)) (extension_places f xs)))
        by None = sym (flat_map-filter _ _ (extension_places f xs))
        by (Some z) = flat_map-none _ (λ e. refl) (extension_places f xs)
