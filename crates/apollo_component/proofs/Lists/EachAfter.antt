-- What more elements of a list add, and those that stand before it.
use Rattle.std.proofs.Common.{◌≡◌, List, [], ◌∷◌, ◌++◌, refl, sym, ap, ◌∙◌, append_assoc}
use Rattle.std.proofs.lemmas.List.{append-nil}
use Rattle.apollo_component.specs.EachAfter.{each_after}

module _ {X Y : Type 0} (at : List X → X → List Y) where
  -- more elements add theirs to those before them
  pub each_after-append : (before xs ys : List X)
      → each_after at before (xs ++ ys) ≡ each_after at before xs ++ each_after at (before ++ xs) ys
  each_after-append before [] ys = ap (λ l. each_after at l ys) (sym (append-nil before))
  each_after-append before (x ∷ xs) ys =
      rw (each_after-append (before ++ x ∷ []) xs ys, append_assoc before _ xs)
      (sym (append_assoc (at before x) _ _))

  -- one more element adds its own
  pub each_after-push : (before xs : List X) (x : X)
      → each_after at before (xs ++ x ∷ []) ≡ each_after at before xs ++ at (before ++ xs) x
  each_after-push before xs x = rw (each_after-append before xs _, append-nil _)

  after-both : (start before xs : List X)
      → each_after at (start ++ before) xs ≡ each_after (λ done. at (start ++ done)) before xs
  after-both start before [] = refl
  after-both start before (x ∷ xs) = rw (append_assoc start before _, after-both start (before ++ x ∷ []) xs)

  -- those that stand before all of them
  pub each_after-start : (start xs : List X)
      → each_after at start xs ≡ each_after (λ done. at (start ++ done)) [] xs
  each_after-start start xs = ap (λ l. each_after at l xs) (sym (append-nil start)) ∙ after-both start [] xs
