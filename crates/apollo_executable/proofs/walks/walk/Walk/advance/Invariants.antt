use Rattle.std.proofs.Common.{◌≡◌, false}
use Rattle.apollo_executable.specs.Walks.Left.{left_of}
use Rattle.apollo_executable.specs.Walks.Seen.{seen}
use Rattle.apollo_executable.proofs.Walking.NextLemmas.{IsLater}
use Rattle.apollo_executable.proofs.walks.walk.Walk.advance.Given as goal

abbrev pub invariant-loop-self : goal.invariant-loop-self
invariant-loop-self l = IsLater (seen l.initial.self) (seen l.self) × (l.self.refused ≡ false)

abbrev pub decreases-loop-self : goal.decreases-loop-self
decreases-loop-self l = (left_of l.self.lists).turns
