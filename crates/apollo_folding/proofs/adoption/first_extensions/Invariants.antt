use Rattle.apollo_meaning.proofs.Prelude.{◌≡◌, map, flat_map}
use Rattle.apollo_folding.specs.Adopting.{adopted_for, adopted_for_each}
use Rattle.apollo_folding.proofs.adoption.first_extensions.Given as goal

abbrev pub invariant-loop-extensions : goal.invariant-loop-extensions
invariant-loop-extensions l = adopted_for_each l.firsts ≡ flat_map adopted_for (map (λ t. t.now) l.yielded)
