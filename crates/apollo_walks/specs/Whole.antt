-- What a whole walk over selections gives.
--
-- **Whole walk.** The fields of a whole walk (`IsWalk`) are in the order of walks, from no opened name. They
-- are the reachable occurrences, each exactly as often as it stands there. The names that are opened are the
-- reachable ones.
use Rattle.std.specs.Prelude.{ℕ, List}
use Rattle.std.specs.List.Sorted.{IsPermutation}
use Rattle.apollo_walks.specs.Selections.{Selections, Fragments, no_names}
use Rattle.apollo_walks.specs.Reachable.{AreReachable, reachable_occurrences}
use Rattle.apollo_walks.specs.WalkOrder.{Order}

-- these fields are those of a whole walk over s
pub record IsWalk {F : Type 0} (fragments : Fragments F) (s : Selections F) (fields : List F) : Type 0 where
  -- the names that it opens, one after the other
  pub opened : List (List ℕ)
  -- the fields come in the order of a walk for which no name is opened
  pub order : Order fragments no_names s fields opened
  -- the names are those that s leads to
  pub reachable : AreReachable fragments s opened
  -- each field that is reached comes exactly as often as it stands there
  pub each_once : IsPermutation fields (reachable_occurrences fragments s opened)
