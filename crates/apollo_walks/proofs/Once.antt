-- Lists without repetition that have the same in them are one but for their order.
use Rattle.std.proofs.Common.{◌≡◌, inl, inr, ℕ, ◌+◌, ◌*◌, ◌≤◌, List, [], ◌∷◌, ◌++◌, append-nil, refl, sym}
use Rattle.std.proofs.Common.{◌∙◌, arith, length-append}
use Rattle.std.specs.List.Sorted.{IsPermutation}
use Rattle.std.proofs.lemmas.List.Sorted.{IsPermutation-refl, IsPermutation-sym, IsPermutation-cons}
use Rattle.std.proofs.lemmas.List.Sorted.{IsPermutation-trans, IsPermutation-middle, sum_by-IsPermutation}
use Rattle.std.proofs.lemmas.List.Sorted.{length_permutation}
use Rattle.apollo_walks.specs.Selections.{Selections, Fragments, no_names}
use Rattle.apollo_walks.specs.Reachable.{Among, EachOnce, AreReachable}
use Rattle.apollo_walks.specs.Turns.{selections_in_reach, turns_in_reach, AreAllTurns}
use Rattle.apollo_walks.proofs.Existence.{ordered}
use Rattle.apollo_walks.proofs.Reached.{Among-shuffled}
use Rattle.apollo_walks.proofs.Whole.{order_reaches, order_few}

module _ {A : Type 0} where
  taken-out : (x : A) (ys : List A) → Among x ys → (others : List A) × IsPermutation ys (x ∷ others)
  taken-out x [] h = absurd h
  taken-out x (y ∷ ys) (inl e) = (ys, rw e (IsPermutation-refl (y ∷ ys)))
  taken-out x (y ∷ ys) (inr h) =
      let r = taken-out x ys h in
      let first = IsPermutation-trans _ _ _ (IsPermutation-cons y _ _ r.1) in
      (y ∷ r.0, first (IsPermutation-middle (y ∷ []) x r.0))

  all-taken-out : (xs ys : List A) → EachOnce xs → ((z : A) → Among z xs → Among z ys)
      → (others : List A) × IsPermutation ys (xs ++ others)
  all-taken-out [] ys once within = (ys, IsPermutation-refl ys)
  all-taken-out (x ∷ xs) ys once within =
      let one = taken-out x ys (within x (inl refl)) in
      let all = all-taken-out xs one.0 once.1
      (λ z h. grind (arith, h, Among-shuffled z ys _ one.1 (within z (inr h)), once.0)) in
      (all.0, IsPermutation-trans _ _ _ one.1 (IsPermutation-cons _ _ _ all.1))

  same-members : (xs ys : List A) → EachOnce xs → EachOnce ys → ((z : A) → Among z xs → Among z ys)
      → ((z : A) → Among z ys → Among z xs) → IsPermutation xs ys
  same-members xs ys once once' to back =
      let all = all-taken-out xs ys once to in by all.0 all.1 (all-taken-out ys xs once' back)
    where
      by : (others : List A) → IsPermutation ys (xs ++ others)
          → (more : List A) × IsPermutation xs (ys ++ more) → IsPermutation xs ys
      by [] p q = IsPermutation-sym ys xs (rw append-nil at p)
      by (o ∷ os) p q = absurd
          (omega (arith, length_permutation _ _ p, length_permutation _ _ q.1, length-append {A = A}))

module _ {F : Type 0} (fragments : Fragments F) (s : Selections F) where
  pub reachable-shuffled : (ms ns : List (List ℕ)) → AreReachable fragments s ms → AreReachable fragments s ns
      → IsPermutation ms ns
  reachable-shuffled ms ns p q = same-members ms ns p.each_once q.each_once
      (λ n h. q.complete n (p.sound n h)) (λ n h. p.complete n (q.sound n h))

  turns-same : (ms ns : List (List ℕ)) → IsPermutation ms ns
      → turns_in_reach fragments s ms ≡ turns_in_reach fragments s ns
  turns-same ms ns p = let same = λ (f : List ℕ → ℕ). sum_by-IsPermutation f ms ns p in grind (arith, same)

  pub all-turns-same : (m n : ℕ) → AreAllTurns fragments s m → AreAllTurns fragments s n → m ≡ n
  all-turns-same m n p q = p.2 ∙ turns-same p.0 q.0 (reachable-shuffled p.0 q.0 p.1 q.1) ∙ sym q.2

  pub turns-few : (ns : List (List ℕ)) → AreReachable fragments s ns
      → turns_in_reach fragments s ns ≤ 2 * selections_in_reach fragments s ns + 1
  turns-few ns p =
      let o = ordered fragments no_names s in
      let few = order_few fragments s o.fields o.opened o.order in
      let shuffled = reachable-shuffled o.opened ns (order_reaches fragments s o.fields o.opened o.order) p in
      let same = λ (f : List ℕ → ℕ). sum_by-IsPermutation f o.opened ns shuffled in
      grind (arith, few, same, turns-same o.opened ns shuffled)
