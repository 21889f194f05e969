-- What is still to come of a walk that has some lists open.
--
-- **To come.** Take a walk that has some lists open, the innermost first, and some names opened. What is to
-- come of it (`IsToCome`) is what the *order of walks* gives for these lists, one after the other. That is
-- fields, and names that are still to be opened. So many turns are still to come as the lists have, and each
-- fragment that is opened from them. `AreTurnByTurn` says what the next turn does, by what the innermost list
-- begins with.
use Rattle.std.specs.Prelude.{◌≡◌, ℕ, ◌+◌, List, [], ◌∷◌}
use Rattle.apollo_walks.specs.Selections.{Selections, none, inline, Fragments, Names, with_names}
use Rattle.apollo_walks.specs.Turns.{whole_turns, total}
use Rattle.apollo_walks.specs.WalkOrder.{Order}

module _ {F : Type 0} where
  -- the open lists as one: the innermost first, and then those that wait for it
  abbrev pub joined : List (Selections F) → Selections F
  joined [] = none
  joined (s ∷ ss) = inline s (joined ss)

  -- the turns of these lists, but for those of the fragments that are opened from them
  abbrev pub turns_of_lists : List (Selections F) → ℕ
  turns_of_lists [] = 0
  turns_of_lists (s ∷ ss) = whole_turns s + turns_of_lists ss

-- the fields that are still to come, the names that are opened at the end, and the turns that are still to
-- come
pub record ToCome (F : Type 0) : Type 0 where
  pub fields : List F
  pub opened : Names
  pub turns : ℕ

-- where these names are opened and these lists are open, that is to come
pub record IsToCome {F : Type 0} (fragments : Fragments F) (before : Names) (lists : List (Selections F))
    (x : ToCome F) : Type 0 where
  -- the names that are still to be opened
  pub names : List (List ℕ)
  -- the fields come in the order of the lists, one after the other
  pub order : Order fragments before (joined lists) x.fields names
  pub opened : x.opened ≡ with_names names before
  -- the turns are those of the lists, and of each fragment that is opened from them
  pub turns : x.turns ≡ turns_of_lists lists + total whole_turns fragments names
