-- Lists by the subjects of their elements. What elements add one after another, where each adds what it does
-- by those of its own subject alone. The same is added subject by subject, in another order.
use Rattle.std.proofs.Common.{◌≡◌, Bool, true, false, not, ◌||◌, List, [], ◌∷◌, ◌++◌, Option, is_some, filter}
use Rattle.std.proofs.Common.{map, refl, sym, ap, ◌∙◌, append_assoc, arith}
use Rattle.std.specs.List.{AllByRecursion, filter_map, list_any}
use Rattle.std.specs.List.Sorted.{IsPermutation}
use Rattle.std.specs.Option.{option_map_or}
use Rattle.std.proofs.lemmas.Bool.{or_right}
use Rattle.std.proofs.lemmas.List.{nil_from_length}
use Rattle.std.proofs.lemmas.List.Sorted.{IsPermutation-append, IsPermutation-append_left, IsPermutation-refl}
use Rattle.std.proofs.lemmas.List.Sorted.{IsPermutation-append_comm, IsPermutation-append_right}
use Rattle.std.proofs.lemmas.List.Sorted.{IsPermutation-sym, IsPermutation-trans, length_permutation}
use Rattle.apollo_component.specs.EachAfter.{each_after}
use Rattle.apollo_component.proofs.Lists.Cases.{bool_cases}
use Rattle.apollo_component.proofs.Lists.Each.{each-filter, each-weaken}
use Rattle.apollo_component.proofs.Lists.EachAfter.{each_after-push}
use Rattle.apollo_component.proofs.Lists.Ends.{filter-push_dropped, filter-push_kept, snoc_ind}
use Rattle.apollo_component.proofs.Lists.Reordered.{each-permutation}

module _ {X : Type 0} (p q : X → Bool) where
  -- where all that pass the second pass the first
  pub filter-wider : ((x : X) → q x ≡ true → p x ≡ true) → (xs : List X)
      → filter q (filter p xs) ≡ filter q xs
  filter-wider wider [] = refl
  filter-wider wider (x ∷ xs) = grind (arith, wider x, filter-wider wider xs)

  -- where none that pass the second pass the first
  filter-apart : ((x : X) → q x ≡ true → p x ≡ false) → (xs : List X) → filter q (filter p xs) ≡ []
  filter-apart apart [] = refl
  filter-apart apart (x ∷ xs) = grind (arith, apart x, filter-apart apart xs)

-- what a choice takes, all of it and what of it passes a test, is taken of those that a wider test keeps
module _ {X Y : Type 0} (which : X → Option Y) (p : X → Bool) where
  pub filter_map-wider : ((x : X) → is_some (which x) ≡ true → p x ≡ true) → (xs : List X)
      → filter_map which (filter p xs) ≡ filter_map which xs
  filter_map-wider wider [] = refl
  filter_map-wider wider (x ∷ xs) = grind (arith, wider x, filter_map-wider wider xs)

  pub chosen-wider : (q : Y → Bool) → ((x : X) → option_map_or q (which x) false ≡ true → p x ≡ true)
      → (xs : List X) → filter q (filter_map which (filter p xs)) ≡ filter q (filter_map which xs)
  chosen-wider q wider [] = refl
  chosen-wider q wider (x ∷ xs) = grind (arith, wider x, chosen-wider q wider xs)

-- subjects that a test tells apart
pub record IsTest {K : Type 0} (same : K → K → Bool) : Type 0 where
  pub is : (a b : K) → same a b ≡ true → a ≡ b
  pub itself : (a : K) → same a a ≡ true

module _ {K X Y : Type 0} (same : K → K → Bool) (laws : IsTest same) (subject : X → K) (at : List X
    → X → List Y) where
  abbrev about : K → X → Bool
  about k x = same k (subject x)

  -- what an element adds is decided by those of its own subject before it
  abbrev pub IsOwn : Type 0
  IsOwn = (before : List X) (x : X) → at before x ≡ at (filter (about (subject x)) before) x

  -- the test answers alike at elements of one subject
  abbrev Respects : (X → Bool) → Type 0
  Respects p = (x y : X) → subject x ≡ subject y → p x ≡ p y

  -- all that a list adds
  abbrev all_of : List X → List Y
  all_of = each_after at []

  module _ (own : IsOwn) where
    -- so those that pass such a test decide it, of one that passes
    pub own-kept : (p : X → Bool) → Respects p → (before : List X) (x : X) → p x ≡ true
        → at (filter p before) x ≡ at before x
    own-kept p respects before x e = simp (
      own (filter p before) x,
      filter-wider p _ (λ y h. respects y x (sym (laws.is (subject x) (subject y) h)) ∙ e) before,
      own before x,
    )

    -- those that pass a test, and the others, each for themselves
    split : (p : X → Bool) → Respects p → (xs : List X)
        → IsPermutation (all_of xs) (all_of (filter p xs) ++ all_of (filter (λ x. not (p x)) xs))
    split p respects = snoc_ind Splits (IsPermutation-refl []) step
      where
        q : X → Bool
        q x = not (p x)

        Splits : List X → Type 0
        Splits xs = IsPermutation (all_of xs) (all_of (filter p xs) ++ all_of (filter q xs))

        step : (xs : List X) (x : X) → Splits xs → Splits (xs ++ x ∷ [])
        step xs x so_far = bool_cases (p x)
            (λ e. rw (adds p respects e, filter-push_dropped q xs x (ap not e), append_assoc front here back)
            (IsPermutation-trans _ _ _ more
            (IsPermutation-append_right front _ _ (IsPermutation-append_comm back here)))) (λ e. rw (
              filter-push_dropped p xs x e,
              adds q (λ y z s. ap not (respects y z s)) (ap not e),
            ) more)
          where
            here : List Y
            here = at xs x

            front : List Y
            front = all_of (filter p xs)

            back : List Y
            back = all_of (filter q xs)

            more : IsPermutation (all_of (xs ++ x ∷ [])) (front ++ (back ++ here))
            more = rw (each_after-push at [] xs x, ← append_assoc front back here)
                (IsPermutation-append_left here _ _ so_far)

            adds : (r : X → Bool) → Respects r → r x ≡ true
                → all_of (filter r (xs ++ x ∷ [])) ≡ all_of (filter r xs) ++ here
            adds r s e = simp (filter-push_kept, each_after-push, own-kept)

    -- the subject is one of these
    abbrev IsAmong : List K → X → Type 0
    IsAmong ks x = list_any (λ k. about k x) ks ≡ true

    -- lists that add the same for each subject, in some order, add the same in some order
    among : (ks : List K) (xs ys : List X) → AllByRecursion (IsAmong ks) xs → AllByRecursion (IsAmong ks) ys
        → ((k : K) → IsPermutation (all_of (filter (about k) xs)) (all_of (filter (about k) ys)))
        → IsPermutation (all_of xs) (all_of ys)
    among [] [] [] a b each = IsPermutation-refl []
    among [] [] (y ∷ ys) a b each = cc
    among [] (x ∷ xs) ys a b each = cc
    among (k ∷ ks) xs ys a b each = IsPermutation-trans _ _ _ (split _ (λ x y e. ap (same k) e) xs)
        (IsPermutation-trans _ _ _ (IsPermutation-append _ _ _ _ (each k) (among ks _ _ (left xs a)
        (left ys b) rest)) (IsPermutation-sym _ _ (split _ (λ x y e. ap (same k) e) ys)))
      where
        not_about : X → Bool
        not_about x = not (about k x)

        others : List X → List X
        others = filter not_about

        left : (zs : List X) → AllByRecursion (IsAmong (k ∷ ks)) zs → AllByRecursion (IsAmong ks) (others zs)
        left zs h = each-weaken _ _ (λ x both. grind (arith, both.0, both.1)) _ (each-filter _ not_about zs h)

        gone : (j : K) → same j k ≡ true → (zs : List X) → filter (about j) (others zs) ≡ []
        gone j e = filter-apart not_about _ (λ x h. grind (arith, h, laws.is j k e))

        stay : (j : K) → same j k ≡ false → (zs : List X) → filter (about j) (others zs) ≡ filter (about j) zs
        stay j e = filter-wider not_about _ (λ x h. grind (arith, e, h, laws.is k (subject x)))

        rest : (j : K)
            → IsPermutation (all_of (filter (about j) (others xs))) (all_of (filter (about j) (others ys)))
        rest j = bool_cases _ (λ e. rw (gone j e xs, gone j e ys) (IsPermutation-refl []))
            (λ e. rw (stay j e xs, stay j e ys) (each j))

    present : (xs : List X) → AllByRecursion (IsAmong (map subject xs)) xs
    present [] = tt
    present (x ∷ xs) = (
      ap (λ b. b || list_any (λ k. about k x) (map subject xs)) (laws.itself (subject x)),
      each-weaken _ _ (λ y h. or_right _ _ h) xs (present xs),
    )

    pub by_subject : (xs ys : List X) → IsPermutation xs ys
        → ((k : K) → IsPermutation (all_of (filter (about k) xs)) (all_of (filter (about k) ys)))
        → IsPermutation (all_of xs) (all_of ys)
    by_subject xs ys s each = among _ xs ys (present xs) (each-permutation _ xs ys s (present xs)) each

    -- where nothing is added of any subject, nothing is
    pub none-by_subject : (xs : List X) → ((k : K) → all_of (filter (about k) xs) ≡ []) → all_of xs ≡ []
    none-by_subject xs none =
        nil_from_length _ (sym (length_permutation _ [] (among _ xs [] (present xs) tt
        (λ k. rw (none k) (IsPermutation-refl [])))))
