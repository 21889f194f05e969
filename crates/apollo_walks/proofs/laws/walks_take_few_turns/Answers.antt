use Rattle.std.proofs.Common.{refl, arith}
use Rattle.apollo_walks.specs.Selections.{no_names}
use Rattle.apollo_walks.proofs.Existence.{ordered}
use Rattle.apollo_walks.proofs.Once.{turns-few}
use Rattle.apollo_walks.proofs.Whole.{order_reaches}
use Rattle.apollo_walks.proofs.laws.walks_take_few_turns.Goals as goal

pub returns-clause-all : goal.returns-clause-all
returns-clause-all g c = λ fragments s. let o = ordered fragments no_names s in
    (_, (o.opened, order_reaches fragments s o.fields o.opened o.order, refl))

pub returns-clause-few : goal.returns-clause-few
returns-clause-few g c =
    λ fragments s turns all. (all.0, all.1, omega (arith, all.2, turns-few fragments s all.0 all.1))
