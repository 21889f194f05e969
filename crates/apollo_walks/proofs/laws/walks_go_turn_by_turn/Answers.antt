use Rattle.apollo_walks.proofs.Steps.{what_is_to_come, one-to-come, turn-by-turn, begins}
use Rattle.apollo_walks.proofs.laws.walks_go_turn_by_turn.Goals as goal

pub returns : goal.returns
returns g c = record { some = what_is_to_come; one = one-to-come; turns = turn-by-turn; begins = begins }
