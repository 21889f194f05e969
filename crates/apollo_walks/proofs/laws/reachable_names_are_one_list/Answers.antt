use Rattle.apollo_walks.proofs.Once.{reachable-shuffled, all-turns-same, turns-few}
use Rattle.apollo_walks.proofs.laws.reachable_names_are_one_list.Goals as goal

pub returns : goal.returns
returns g c = record { names = reachable-shuffled; turns = all-turns-same; few = turns-few }
