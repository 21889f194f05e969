-- The fragments that selections lead to, and the fields that are reached: GraphQL specification of October
-- 2021, sections 2.8 and 6.3.2.
--
-- **Reachable.** The reachable names, to which selections lead, are the least set of which two things hold.
-- It has the names of fragments which are spread there. And with each fragment in it, it has those which are
-- spread in that fragment. The **reachable occurrences** are the occurrences of the selections together with
-- those of each reachable fragment, each fragment once. The selections count by themselves, also where they
-- are those of a fragment that is reachable. **N** (`selections_in_reach`) is the number of all selections,
-- nested ones too, of the start and of each reachable fragment.
use Rattle.std.specs.Prelude.{◌≡◌, ◌⊎◌, ℕ, true, List, [], ◌∷◌, ◌++◌, flat_map, Option, None, Some}
use Rattle.apollo_walks.specs.Selections.{Selections, Fragments, Names, fragment_of, occurrences}
use Rattle.apollo_walks.specs.Selections.{spread_names}

-- it is one of them
abbrev pub Among : {A : Type 0} → A → List A → Type 0
Among a [] = ⊥
Among a (x ∷ xs) = (a ≡ x) ⊎ Among a xs

-- none stands there twice
abbrev pub EachOnce : {A : Type 0} → List A → Type 0
EachOnce [] = Unit {0}
EachOnce (x ∷ xs) = (Among x xs → ⊥) × EachOnce xs

-- the names that s leads to: the least set of which two things hold. It has the names of fragments which are
-- spread in s. And with each fragment in it, it has those which are spread in that fragment
pub data Reachable {F : Type 0} (fragments : Fragments F) (s : Selections F) : List ℕ → Type 0 where
  spread_at_the_start : {n : List ℕ} {set : Selections F} → Among n (spread_names s) → fragment_of fragments n
      ≡ Some set → Reachable fragments s n
  spread_in_a_fragment : {m n : List ℕ} {at set : Selections F} → Reachable fragments s m
      → fragment_of fragments m ≡ Some at
      → Among n (spread_names at) → fragment_of fragments n ≡ Some set → Reachable fragments s n

module _ {F : Type 0} where
  -- a set of names that has those
  pub record IsClosed (fragments : Fragments F) (s : Selections F) (set : Names) : Type 0 where
    -- it has the names of fragments that are spread at the start
    pub start : (n : List ℕ) (inner : Selections F) → Among n (spread_names s) → fragment_of fragments n
        ≡ Some inner → set n ≡ true
    -- and with each fragment in it those that are spread in that
    pub further : (m n : List ℕ) (outer inner : Selections F) → set m ≡ true → fragment_of fragments m
        ≡ Some outer
        → Among n (spread_names outer) → fragment_of fragments n ≡ Some inner → set n ≡ true

  -- these are the names that s leads to, each once
  pub record AreReachable (fragments : Fragments F) (s : Selections F) (names : List (List ℕ)) : Type 0 where
    -- no name stands there twice
    pub each_once : EachOnce names
    -- each of them is reached
    pub sound : (n : List ℕ) → Among n names → Reachable fragments s n
    -- and none that is reached is missing
    pub complete : (n : List ℕ) → Reachable fragments s n → Among n names

  -- what f gives of a fragment, or else none
  abbrev pub at_fragment : {A : Type 0} → A → (Selections F → A) → Option (Selections F) → A
  at_fragment none f None = none
  at_fragment none f (Some set) = f set

  -- the fields of each of these fragments
  abbrev pub occurrences_in : Fragments F → List (List ℕ) → List F
  occurrences_in fragments = flat_map (λ n. at_fragment [] occurrences (fragment_of fragments n))

  -- the fields that are reached from s, as often as each stands there, where these are the names that s leads
  -- to. They are those of s and those of each fragment, each fragment once
  abbrev pub reachable_occurrences : Fragments F → Selections F → List (List ℕ) → List F
  reachable_occurrences fragments s names = occurrences s ++ occurrences_in fragments names

  -- the field stands in s or in a fragment that s leads to
  abbrev pub IsReached : Fragments F → Selections F → F → Type 0
  IsReached fragments s f = Among f (occurrences s)
      ⊎ ((n : List ℕ) × (set : Selections F) × Reachable fragments s n × (fragment_of fragments n ≡ Some set)
      × Among f (occurrences set))
