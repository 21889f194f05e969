-- What the order of a whole walk gives and opens, and in how many turns.
use Rattle.std.proofs.Common.{◌≡◌, ◌⊎◌, inl, inr, ℕ, ◌+◌, ◌*◌, ◌≤◌, true, false, List, [], ◌∷◌, ◌++◌, Some}
use Rattle.std.proofs.Common.{refl, arith, append_assoc}
use Rattle.std.specs.List.Sorted.{IsPermutation}
use Rattle.std.proofs.lemmas.Grind.{flat_map-append}
use Rattle.std.proofs.lemmas.List.Sums.{sum_by-append, sum_by-cons}
use Rattle.std.proofs.lemmas.List.Sorted.{IsPermutation-refl, IsPermutation-cons, IsPermutation-trans}
use Rattle.std.proofs.lemmas.List.Sorted.{IsPermutation-append, IsPermutation-append_left}
use Rattle.std.proofs.lemmas.List.Sorted.{IsPermutation-append_right, IsPermutation-append_comm}
use Rattle.apollo_walks.specs.Selections.{Selections, field, spread, inline, Fragments, Names, no_names}
use Rattle.apollo_walks.specs.Selections.{with_name, with_names, fragment_of, occurrences, spread_names}
use Rattle.apollo_walks.specs.Reachable.{Among, EachOnce, Reachable, spread_at_the_start}
use Rattle.apollo_walks.specs.Reachable.{spread_in_a_fragment, AreReachable, occurrences_in}
use Rattle.apollo_walks.specs.Reachable.{reachable_occurrences}
use Rattle.apollo_walks.specs.Turns.{lists_below, turns_in_reach, selections_in_reach}
use Rattle.apollo_walks.specs.WalkOrder.{Order, of_none, of_inline, of_field, of_passed, of_fragment}
use Rattle.apollo_walks.specs.Whole.{IsWalk}
use Rattle.apollo_walks.proofs.Names.{Among-left, Among-right, Among-split, with_names-append, with_names-in}
use Rattle.apollo_walks.proofs.Names.{with_names-cases, EachOnce-append}

pub opened-among : (n : List ℕ) (ns : List (List ℕ)) → with_names ns no_names n ≡ true → Among n ns
opened-among n ns h = grind (arith, with_names-cases ns n no_names h)

-- the names of the first list and then of the second are opened
both-opened : (ms ns : List (List ℕ)) (before : Names) (n : List ℕ)
    → (with_names ms before n ≡ true) ⊎ (with_names ns (with_names ms before) n ≡ true)
    → with_names (ms ++ ns) before n ≡ true
both-opened ms ns before n h =
    rw (with_names-append ms ns before) (grind (arith, h, with_names-in ns n (with_names ms before)))

-- a ++ b and c ++ d, as a ++ c and b ++ d
shuffle : {F : Type 0} (a b c d : List F) → IsPermutation ((a ++ b) ++ (c ++ d)) ((a ++ c) ++ (b ++ d))
shuffle a b c d =
    let left : (a ++ b) ++ (c ++ d) ≡ a ++ ((b ++ c) ++ d) = simp append_assoc in
    let right : a ++ ((c ++ b) ++ d) ≡ (a ++ c) ++ (b ++ d) = simp append_assoc in
    let inner = IsPermutation-append_left d _ _ (IsPermutation-append_comm b c) in
    rw (left, ← right) (IsPermutation-append_right a _ _ inner)

some_below : {F : Type 0} (s : Selections F) → lists_below s ≤ 1
some_below s = grind arith

module _ {F : Type 0} (fragments : Fragments F) where
  -- P is so of each name of a fragment that is spread in s
  abbrev EachSpread : Selections F → (List ℕ → Type 0) → Type 0
  EachSpread s P = (n : List ℕ) (at : Selections F) → Among n (spread_names s) → fragment_of fragments n
      ≡ Some at → P n

  -- what is so of these selections, with these fields and names
  record Holds (before : Names) (s : Selections F) (fs : List F) (ns : List (List ℕ)) : Type 0 where
    -- each name is opened once, and was not before
    once : EachOnce ns
    fresh : (n : List ℕ) → before n ≡ true → Among n ns → ⊥
    gives : IsPermutation fs (reachable_occurrences fragments s ns)
    -- what leads to the names that are spread leads to those that are opened
    sound : (t : Selections F) → EachSpread s (Reachable fragments t) → (n : List ℕ) → Among n ns
        → Reachable fragments t n
    -- the names that are spread are opened, and those that are spread in a fragment that is opened
    covers : EachSpread s (λ n. with_names ns before n ≡ true)
    closes : (m : List ℕ) (at : Selections F) → Among m ns → fragment_of fragments m ≡ Some at
        → EachSpread at (λ n. with_names ns before n ≡ true)
    few : turns_in_reach fragments s ns ≤ 2 * selections_in_reach fragments s ns + 1

  of-both : {before : Names} {p q : Selections F} {xs ys : List F} {ms ns : List (List ℕ)}
      → Holds before p xs ms → Holds (with_names ms before) q ys ns
      → Holds before (inline p q) (xs ++ ys) (ms ++ ns)
  of-both {before = before} {p = p} {q = q} {xs = xs} {ys = ys} {ms = ms} {ns = ns} a b = record {
    once = EachOnce-append ms ns a.once b.once (λ n one. b.fresh n (with_names-in ms n before (inr one)));
    fresh = λ n is h. grind (arith, Among-split n ms ns h, a.fresh n, b.fresh n, with_names-in ms n before);
    gives = IsPermutation-trans _ _ _ (IsPermutation-append xs _ ys _ a.gives b.gives)
        (rw (flat_map-append _ ms ns) (shuffle _ (occurrences_in fragments ms) _ _));
    sound = λ t start n h.
        let in_p = a.sound t (λ m at in_p. start m at (Among-left m _ _ in_p)) n in
        let in_q = b.sound t (λ m at in_q. start m at (Among-right m _ _ in_q)) n in
        grind (arith, Among-split n ms ns h, in_p, in_q);
    covers = λ n at h found.
        grind (arith, both-opened ms ns, Among-split n _ (spread_names q) h, a.covers, b.covers);
    closes = λ m at h at_m n inner in_m found.
        grind (arith, both-opened ms ns, Among-split m ms ns h, a.closes m, b.closes m);
    few = let joined = λ (f : List ℕ → ℕ). sum_by-append f ms ns in grind (arith, a.few, b.few, joined);
  }

  of-field : {before : Names} {f : F} {below rest : Selections F} {fs : List F} {ns : List (List ℕ)}
      → Holds before (inline below rest) fs ns → Holds before (field f below rest) (f ∷ fs) ns
  of-field {f = f} {below = below} {rest = rest} {ns = ns} h =
      let few : turns_in_reach fragments (field f below rest) ns ≤ 2 * selections_in_reach fragments
      (field f below rest) ns + 1 = omega (arith, some_below below, h.few) in
      search (IsPermutation-cons, few, h, h.gives)

  of-spread : {before : Names} {k : List ℕ} {rest : Selections F} {fs : List F} {ns : List (List ℕ)}
      → ((at : Selections F) → fragment_of fragments k ≡ Some at → with_names ns before k ≡ true)
      → Holds before rest fs ns → Holds before (spread k rest) fs ns
  of-spread {before = before} {k = k} {rest = rest} {ns = ns} opened h =
      let covers : EachSpread (spread k rest) (λ n. with_names ns before n ≡ true) =
      λ n at among found. grind (arith, among, opened at, h.covers n at) in
      search (h, h.sound, h.few, covers, inr, arith)

  of-opened : {before : Names} {k : List ℕ} {set rest : Selections F} {fs : List F} {ns : List (List ℕ)}
      → before k ≡ false → fragment_of fragments k ≡ Some set
      → Holds (with_name k before) (inline set rest) fs ns → Holds before (spread k rest) fs (k ∷ ns)
  of-opened {before = before} {k = k} {set = set} {rest = rest} {fs = fs} {ns = ns} closed at_k h =
      let inside = occurrences_in fragments ns in
      record {
        once = (h.fresh k (with_names-in (k ∷ []) k before (inr (inl refl))), h.once);
        fresh = λ n is among. grind (arith, among, h.fresh n, with_names-in (k ∷ []) n before);
        gives = rw (at_k, ← append_assoc (occurrences rest) (occurrences set) inside)
            (IsPermutation-trans _ _ _
            h.gives (IsPermutation-append_left inside _ _ (IsPermutation-append_comm (occurrences set) _)));
        sound = λ t start n among.
            let led = start k set (inl refl) at_k in
            let later = h.sound t (λ m at in_m found. elim (Among-split m _ (spread_names rest) in_m)
            [ inl a ↦ spread_in_a_fragment led at_k a found | inr a ↦ start m at (inr a) found ]) n in
            grind (arith, among, start n set, later);
        covers = λ n at among found. grind (
          arith,
          among,
          with_names-in (k ∷ ns) n before,
          h.covers n at,
          Among-right n (spread_names set),
        );
        closes = λ m at among at_m n inner in_m found.
            grind (arith, among, h.covers n inner, Among-left n (spread_names set), h.closes m at);
        few = let first = λ (f : List ℕ → ℕ). sum_by-cons f k ns in grind (arith, h.few, at_k, first);
      }

  holds : {before : Names} {s : Selections F} {fs : List F} {ns : List (List ℕ)}
      → Order fragments before s fs ns → Holds before s fs ns
  holds of_none = search (arith, IsPermutation-refl)
  holds (of_inline a b) = of-both (holds a) (holds b)
  holds (of_field a) = of-field (holds a)
  holds {before = before} (of_passed {n = k} {opened = ns} why a) =
      of-spread (λ at found. grind (arith, why, with_names-in ns k before)) (holds a)
  holds (of_fragment closed found a) = of-opened closed found (holds a)

  pub reach_found : (s : Selections F) (n : List ℕ) → Reachable fragments s n
      → (set : Selections F) × (fragment_of fragments n ≡ Some set)
  reach_found s n (spread_at_the_start in_s found) = (_, found)
  reach_found s n (spread_in_a_fragment before found_at in_at found) = (_, found)

  -- a walk for which no name is opened
  module _ (s : Selections F) (fs : List F) (ns : List (List ℕ)) (order : Order fragments no_names s fs
      ns) where
    complete : (n : List ℕ) → Reachable fragments s n → Among n ns
    complete n (spread_at_the_start in_s found) = opened-among n ns ((holds order).covers n _ in_s found)
    complete n (spread_in_a_fragment {m = m} before found_at in_at found) =
        opened-among n ns ((holds order).closes m _ (complete m before) found_at n _ in_at found)

    pub order_reaches : AreReachable fragments s ns
    order_reaches =
        let h = holds order in
        record { each_once = h.once; sound = h.sound s (λ _ _. spread_at_the_start); complete = complete }

    pub order_walk : IsWalk fragments s fs
    order_walk = search (order, order_reaches, (holds order).gives)

    pub order_few : turns_in_reach fragments s ns ≤ 2 * selections_in_reach fragments s ns + 1
    order_few = (holds order).few
