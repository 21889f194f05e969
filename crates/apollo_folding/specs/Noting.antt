-- What a build folds with after a step: GraphQL specification of October 2021, section 3.
use Rattle.std.specs.Prelude.{ℕ, List, ◌++◌}
use Rattle.apollo_meaning.specs.Faults.Collisions.{Fault}
use Rattle.apollo_folding.specs.Refusals.{after}
use Rattle.apollo_folding.specs.declared.fold.Fold.{Fold}

-- with these faults behind those found so far
abbrev pub noting : List Fault → Fold → Fold
noting faults fold = record fold { faults = fold.faults ++ faults }

-- with so many numbers given, and these faults behind those found so far
abbrev pub having_folded : ℕ → List Fault → Fold → Fold
having_folded n faults fold = record fold { ids = after fold.ids n; faults = fold.faults ++ faults }
