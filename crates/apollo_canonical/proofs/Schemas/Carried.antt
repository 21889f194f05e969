-- What elements add, one after the other, seen through functions.
use Rattle.apollo_canonical.proofs.Prelude.{List, [], ap, each_after, map, map-append, refl, sym, ◌++◌, ◌∙◌}
use Rattle.apollo_canonical.proofs.Prelude.{◌∷◌, ◌≡◌}

-- what elements add, one after the other, is seen alike where each that is carried adds what is seen alike
module _ {X V Y W Z : Type 0} (at : List X → X → List Y) (other : List V → V → List W) (carry : V
    → X) (seen : Y → Z) (see : W → Z) (agree : (before : List V) (x : V)
    → map seen (at (map carry before) (carry x)) ≡ map see (other before x)) where
  pub each_after-carried : (before xs : List V)
      → map seen (each_after at (map carry before) (map carry xs)) ≡ map see (each_after other before xs)
  each_after-carried before [] = refl
  each_after-carried before (x ∷ xs) = map-append seen _ _
      ∙ (λ i. agree before x i ++ (ap (λ l. map seen (each_after at l (map carry xs)))
      (sym (map-append carry before (x ∷ []))) ∙ each_after-carried (before ++ x ∷ []) xs) i)
      ∙ sym (map-append see _ _)
