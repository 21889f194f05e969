use Rattle.apollo_walks.specs.Selections.{no_names}
use Rattle.apollo_walks.proofs.Existence.{ordered}
use Rattle.apollo_walks.proofs.Whole.{order_walk}
use Rattle.apollo_walks.proofs.laws.walks_reach_each_field_once.Goals as goal

pub returns : goal.returns
returns g c = λ fragments s. let o = ordered fragments no_names s in
    (o.fields, order_walk fragments s o.fields o.opened o.order)
