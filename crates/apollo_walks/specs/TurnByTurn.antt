-- What is to come of a walk that has some lists open, turn by turn. The innermost list says what the next
-- turn does, by what it begins with.
use Rattle.std.specs.Prelude.{◌≡◌, ◌⊎◌, ◌↔◌, ◌<◌, ℕ, suc, true, false, List, [], ◌∷◌, None, Some}
use Rattle.apollo_walks.specs.Selections.{Selections, none, field, spread, inline, Fragments, Names}
use Rattle.apollo_walks.specs.Selections.{with_name, fragment_of}
use Rattle.apollo_walks.specs.Reachable.{Reachable}
use Rattle.apollo_walks.specs.ToCome.{ToCome, IsToCome}
use Rattle.apollo_walks.specs.Turns.{AreAllTurns}
use Rattle.apollo_walks.specs.Whole.{IsWalk}

module _ {F : Type 0} where
  -- one turn more
  abbrev pub a_turn_before : ToCome F → ToCome F
  a_turn_before x = record { fields = x.fields; opened = x.opened; turns = suc x.turns }

  -- and a field with it
  abbrev pub a_field_before : F → ToCome F → ToCome F
  a_field_before f x = record { fields = f ∷ x.fields; opened = x.opened; turns = suc x.turns }

  -- the open lists with this one, which is opened only if there is something in it
  abbrev pub over : Selections F → List (Selections F) → List (Selections F)
  over none ss = ss
  over s ss = s ∷ ss

-- where these names are opened
pub record AreTurnByTurn {F : Type 0} (fragments : Fragments F) (before : Names) : Type 0 where
  -- where no list is open any more, nothing is to come
  pub ends : IsToCome fragments before [] (record { fields = []; opened = before; turns = 0 })
  -- an empty list is closed
  pub closes : (ss : List (Selections F)) (x : ToCome F) → IsToCome fragments before ss x
      → IsToCome fragments before (none ∷ ss) (a_turn_before x)
  -- a field is given, and the list below it is opened
  pub gives : (f : F) (below rest : Selections F) (ss : List (Selections F)) (x : ToCome F)
      → IsToCome fragments before (over below (rest ∷ ss)) x
      → IsToCome fragments before (field f below rest ∷ ss) (a_field_before f x)
  -- the list of an inline fragment is opened, empty or not
  pub goes_inside : (inner rest : Selections F) (ss : List (Selections F)) (x : ToCome F)
      → IsToCome fragments before (inner ∷ rest ∷ ss) x
      → IsToCome fragments before (inline inner rest ∷ ss) (a_turn_before x)
  -- a spread of a name that is opened, or that has no fragment, is passed over
  pub passes : (n : List ℕ) (rest : Selections F) (ss : List (Selections F)) (x : ToCome F)
      → (before n ≡ true) ⊎ (fragment_of fragments n ≡ None)
      → IsToCome fragments before (rest ∷ ss) x
      → IsToCome fragments before (spread n rest ∷ ss) (a_turn_before x)
  -- at any other spread the name and the list of its fragment are opened
  pub opens : (n : List ℕ) (set rest : Selections F) (ss : List (Selections F)) (x : ToCome F)
      → before n ≡ false → fragment_of fragments n ≡ Some set
      → IsToCome fragments (with_name n before) (set ∷ rest ∷ ss) x
      → IsToCome fragments before (spread n rest ∷ ss) (a_turn_before x)
  -- there is a turn left while a list is open
  pub goes_on : (s : Selections F) (ss : List (Selections F)) (x : ToCome F)
      → IsToCome fragments before (s ∷ ss) x → 0 < x.turns

-- what is to come of a walk that begins with s
pub record IsAllToCome {F : Type 0} (fragments : Fragments F) (s : Selections F)
    (all : ToCome F) : Type 0 where
  pub walk : IsWalk fragments s all.fields
  pub turns : AreAllTurns fragments s all.turns
  pub opens : (n : List ℕ) → (all.opened n ≡ true) ↔ Reachable fragments s n
