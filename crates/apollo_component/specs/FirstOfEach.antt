-- The first of each name, and the later ones.
--
-- **First of each.** `first_of_each same list` keeps the elements that are the same as no earlier one,
-- in order. For fields the test compares keys, for interfaces the names' texts, for identities their
-- numbers.
use Rattle.std.specs.Prelude.{ℕ, Bool, not, List, [], ◌∷◌, take, map, filter, unwrap_or}
use Rattle.std.specs.List.{enumerate_from, find, list_any}

-- the elements that are the same as no earlier one
abbrev pub first_of_each : {X : Type 0} → (X → X → Bool) → List X → List X
first_of_each same [] = []
first_of_each same (x ∷ xs) = x ∷ filter (λ y. not (same x y)) (first_of_each same xs)

-- entries are the same by their keys
abbrev pub same_key : {K V : Type 0} → (K → K → Bool) → K × V → K × V → Bool
same_key eq a b = eq a.0 b.0

-- whether the element at this place of a list is the same as one before it
abbrev pub is_later : {X : Type 0} → (X → X → Bool) → List X → ℕ × X → Bool
is_later same xs p = list_any (same p.1) (take p.0 xs)

-- the elements that are the same as an earlier one, in order
abbrev pub later_of_each : {X : Type 0} → (X → X → Bool) → List X → List X
later_of_each same xs = map (λ p. p.1) (filter (is_later same xs) (enumerate_from 0 xs))

-- the one of these that is kept for what is the same as it; where there is none, that itself
abbrev pub kept_for : {X : Type 0} → (X → X → Bool) → List X → X → X
kept_for same kept x = unwrap_or (find (same x) kept) x
