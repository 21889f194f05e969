-- The order of walks leaves no choice.
use Rattle.std.proofs.Common.{◌≡◌, ℕ, List, ◌∷◌, ◌++◌, refl, arith}
use Rattle.apollo_walks.specs.Selections.{Selections, Fragments, Names}
use Rattle.apollo_walks.specs.WalkOrder.{Order, of_none, of_inline, of_field, of_passed, of_fragment}

module _ {F : Type 0} (fragments : Fragments F) where
  pub order_determined : {before : Names} {s : Selections F} {L M : List F} {ms ns : List (List ℕ)}
      → Order fragments before s L ms → Order fragments before s M ns → (L ≡ M) × (ms ≡ ns)
  order_determined of_none of_none = (refl, refl)
  order_determined {before = before} (of_inline a b) (of_inline {rest = rest} {others = M} {more = more} c
      d) =
      let first = order_determined a c in
      let second = order_determined b (rw (← first.1) at d) in
      (λ i. first.0 i ++ second.0 i, λ i. first.1 i ++ second.1 i)
  order_determined (of_field {f = f} a) (of_field c) =
      let same = order_determined a c in (λ i. f ∷ same.0 i, same.1)
  order_determined (of_passed h a) (of_passed k c) = order_determined a c
  order_determined (of_passed why a) (of_fragment closed found c) = absurd (grind (arith, why))
  order_determined (of_fragment closed found a) (of_passed why c) = absurd (grind (arith, why))
  order_determined (of_fragment {n = n} {set = set} closed found a) (of_fragment {set = other} _ found' c) =
      let same : other ≡ set = cc in
      let both = order_determined a (rw same at c) in (both.0, λ i. n ∷ both.1 i)
