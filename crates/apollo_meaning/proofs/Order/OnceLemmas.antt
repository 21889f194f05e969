-- Each extension is met at one moment or at none.
use Rattle.apollo_meaning.proofs.Prelude.{◌≡◌, ℕ, ◌+◌, ◌<◌, ◌≤◌, false, ◌==◌, List, [], ◌∷◌, length, suc}
use Rattle.apollo_meaning.proofs.Prelude.{Option, Some, None, filter, refl, arith, nat_tests, ListItem}
use Rattle.apollo_meaning.proofs.Prelude.{Family, Placed, extension_places, first_place, each-weaken}
use Rattle.apollo_meaning.proofs.Prelude.{zero, range_with_len, times_met, once_if_defined}
use Rattle.std.specs.List.{All}
use Rattle.std.proofs.lemmas.List.Elements.{All-from_recursion}
use Rattle.apollo_meaning.proofs.Order.PlaceLemmas.{extensions-below, first_place-below}

-- a number stands once in a row of numbers, or not at all
none-past : (m a n : ℕ) → m < a → filter (λ i. m == i) (range_with_len a n) ≡ []
none-past m a zero lt = refl
none-past m a (suc n) lt = grind (arith, nat_tests, none-past m (a + 1) n)

once-among : (m a n : ℕ) → a ≤ m → m < a + n → length (filter (λ i. m == i) (range_with_len a n)) ≡ 1
once-among m a zero le lt = absurd (omega (arith, le, lt))
once-among m a (suc n) le lt = grind (arith, nat_tests, none-past m (a + 1) n, once-among m (a + 1) n)

none-pass : (ns : List ℕ) → filter (λ _. false) ns ≡ []
none-pass [] = refl
none-pass (n ∷ ns) = none-pass ns

pub each-met-once : {P : Type 0} (f : Family P) (xs : List ListItem)
    → All (λ e. times_met f xs e ≡ once_if_defined f xs e) (extension_places f xs)
each-met-once {P} f xs =
    All-from_recursion _ _ (each-weaken _ _ (λ e low. by e low (first_place f xs (f.key e.1)) refl) _
    (extensions-below f xs))
  where
    by : (e : Placed P) → e.0 < length xs → (o : Option (Placed P)) → first_place f xs (f.key e.1) ≡ o
        → times_met f xs e ≡ once_if_defined f xs e
    by e low None none = rw (none, none-pass _) refl
    by e low (Some d) some =
        let below = first_place-below f xs _ d some in
        rw some (once-among _ 0 (length xs) (omega arith) (omega (arith, low, below)))
