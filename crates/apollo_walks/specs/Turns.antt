-- The turns of a walk. A turn is one look at the innermost open list: one selection taken, or one list found
-- empty and closed. A list is opened for each inline fragment, for each fragment that is opened, and for each
-- field that has selections.
--
-- **All turns.** All turns (`AreAllTurns`) of a walk are a sum. It has one turn, and one for each reachable
-- fragment. Of the start and of each reachable fragment it has one for each selection. It has one more for
-- each inline fragment there, and for each field there that has selections.
use Rattle.std.specs.Prelude.{◌≡◌, ◌≤◌, ℕ, suc, ◌+◌, ◌*◌, List, sum_by}
use Rattle.apollo_walks.specs.Selections.{Selections, none, field, spread, inline, Fragments, fragment_of}
use Rattle.apollo_walks.specs.Reachable.{AreReachable, at_fragment}

module _ {F : Type 0} where
  -- how many selections there are, nested ones too
  abbrev pub size : Selections F → ℕ
  size none = 0
  size (field f below rest) = suc (size below + size rest)
  size (spread n rest) = suc (size rest)
  size (inline inner rest) = suc (size inner + size rest)

  -- one list to close where there is a selection
  abbrev pub lists_below : Selections F → ℕ
  lists_below none = 0
  lists_below _ = 1

  -- the selections, the inline fragments, and the fields with selections
  abbrev pub own_turns : Selections F → ℕ
  own_turns none = 0
  own_turns (field f below rest) = suc (lists_below below + own_turns below + own_turns rest)
  own_turns (spread n rest) = suc (own_turns rest)
  own_turns (inline inner rest) = suc (suc (own_turns inner + own_turns rest))

  -- those of one list, its closing with them
  abbrev pub whole_turns : Selections F → ℕ
  whole_turns s = suc (own_turns s)

  -- what f counts in each of these fragments, summed up
  abbrev pub total : (Selections F → ℕ) → Fragments F → List (List ℕ) → ℕ
  total f fragments = sum_by (λ n. at_fragment 0 f (fragment_of fragments n))

  -- N: all selections of s and of these fragments
  abbrev pub selections_in_reach : Fragments F → Selections F → List (List ℕ) → ℕ
  selections_in_reach fragments s names = size s + total size fragments names

  -- the turns of a whole walk over s, where these are the names that s leads to
  abbrev pub turns_in_reach : Fragments F → Selections F → List (List ℕ) → ℕ
  turns_in_reach fragments s names = whole_turns s + total whole_turns fragments names

  -- so many turns are those of a whole walk over s
  abbrev pub AreAllTurns : Fragments F → Selections F → ℕ → Type 0
  AreAllTurns fragments s turns =
      (names : List (List ℕ)) × AreReachable fragments s names × (turns ≡ turns_in_reach fragments s names)

  -- so many turns are at most 2N + 1
  abbrev pub AreWithinTurns : Fragments F → Selections F → ℕ → Type 0
  AreWithinTurns fragments s turns =
      (names : List (List ℕ)) × AreReachable fragments s names
      × (turns ≤ 2 * selections_in_reach fragments s names + 1)
