-- What stands in the fields of a walk.
use Rattle.std.proofs.Common.{◌≡◌, inl, inr, ℕ, zero, suc, ◌<◌, true, List, [], ◌∷◌, length, Option, None}
use Rattle.std.proofs.Common.{Some, refl, sym, arith}
use Rattle.std.specs.Prelude.{slice_index_or}
use Rattle.std.specs.List.{Contains, flat_map}
use Rattle.std.specs.List.Sorted.{IsPermutation}
use Rattle.std.proofs.lemmas.List.Sorted.{IsPermutation-sym, Contains-permutation}
use Rattle.apollo_walks.specs.Selections.{Selections, Fragments, Names, fragment_of, occurrences}
use Rattle.apollo_walks.specs.Reachable.{IsClosed, Among, Reachable, spread_at_the_start}
use Rattle.apollo_walks.specs.Reachable.{spread_in_a_fragment, at_fragment, occurrences_in, IsReached}
use Rattle.apollo_walks.specs.Whole.{IsWalk}
use Rattle.apollo_walks.proofs.Names.{Among-left, Among-right, Among-split}

module _ {A : Type 0} (a : A) where
  Among-contains : (xs : List A) → Among a xs → Contains xs a
  Among-contains [] h = absurd h
  Among-contains (x ∷ xs) (inl e) = (0, omega arith, sym e)
  Among-contains (x ∷ xs) (inr h) = let c = Among-contains xs h in (suc c.0, omega (arith, c.1), c.2)

  Among-at : (xs : List A) (k : ℕ) → k < length xs → slice_index_or xs k a ≡ a → Among a xs
  Among-at [] k less at = grind arith
  Among-at (x ∷ xs) zero less at = inl (sym at)
  Among-at (x ∷ xs) (suc k) less at = inr (Among-at xs k (omega arith) at)

  pub Among-shuffled : (xs ys : List A) → IsPermutation xs ys → Among a xs → Among a ys
  Among-shuffled xs ys shuffled h =
      let c = Contains-permutation xs ys a shuffled (Among-contains xs h) in Among-at ys c.0 c.1 c.2

  module _ {X : Type 0} (f : X → List A) where
    -- what stands in one of the lists that are joined
    Among-joined : (xs : List X) → Among a (flat_map f xs) → (x : X) × Among x xs × Among a (f x)
    Among-joined [] h = absurd h
    Among-joined (x ∷ xs) h = elim (Among-split a (f x) _ h) [
      | inl here ↦ (x, inl refl, here)
      | inr later ↦ (let r = Among-joined xs later in (r.0, inr r.1, r.2))
    ]

    joined-Among : (xs : List X) (x : X) → Among x xs → Among a (f x) → Among a (flat_map f xs)
    joined-Among [] x among h = absurd among
    joined-Among (y ∷ xs) x among h =
        grind (arith, among, h, Among-left a (f y), Among-right a (f y), joined-Among xs x)

module _ {F : Type 0} (fragments : Fragments F) (f : F) (s : Selections F) (fields : List F)
    (w : IsWalk fragments s fields) where
  at-found : (found : Option (Selections F)) → Among f (at_fragment [] occurrences found)
      → (set : Selections F) × (found ≡ Some set) × Among f (occurrences set)
  at-found None h = absurd h
  at-found (Some set) h = (set, refl, h)

  pub in-walk : Among f fields → IsReached fragments s f
  in-walk h = elim (Among-split f _ _ (Among-shuffled f fields _ w.each_once h)) [
    | inl own ↦ inl own
    | inr inside ↦ (
        let r = Among-joined f (λ n. at_fragment [] occurrences (fragment_of fragments n)) w.opened
        inside in
        let at = at-found _ r.2 in
        inr (r.0, at.0, w.reachable.sound r.0 r.1, at.1, at.2))
  ]

  pub walk-has : IsReached fragments s f → Among f fields
  walk-has reached = Among-shuffled f _ fields (IsPermutation-sym fields _ w.each_once) (elim reached [
    | inl own ↦ Among-left f (occurrences s) (occurrences_in fragments w.opened) own
    | inr (n, set, leads, found, h) ↦ Among-right f (occurrences s) (occurrences_in fragments w.opened)
        (joined-Among f _ w.opened n (w.reachable.complete n leads) (rw found h))
  ])

pub reachable_within : {F : Type 0} (fragments : Fragments F) (s : Selections F) (set : Names)
    → IsClosed fragments s set → (n : List ℕ) → Reachable fragments s n → set n ≡ true
reachable_within fragments s set closed n (spread_at_the_start among found) = closed.start n _ among found
reachable_within fragments s set closed n (spread_in_a_fragment {m = m} before at among found) =
    closed.further m n _ _ (reachable_within fragments s set closed m before) at among found
