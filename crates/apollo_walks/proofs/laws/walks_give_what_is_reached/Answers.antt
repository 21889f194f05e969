use Rattle.apollo_walks.proofs.Reached.{in-walk, walk-has}
use Rattle.apollo_walks.proofs.laws.walks_give_what_is_reached.Goals as goal

pub returns : goal.returns
returns g c = λ fragments s fields f w. (in-walk fragments f s fields w, walk-has fragments f s fields w)
