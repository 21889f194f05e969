use Rattle.graphql_nodes.proofs.Comparisons.{Compares, nodes, lists}
use Rattle.graphql_nodes.proofs.laws.equality_of_containers.Goals as goal

pub returns-clause-node : goal.returns-clause-node
returns-clause-node g c = λ f t. let w : Compares g.T.PartialEq.eq f = record { at = t } in (nodes w).at

pub returns-clause-items : goal.returns-clause-items
returns-clause-items g c = λ f t. let w : Compares g.T.PartialEq.eq f = record { at = t } in (lists w).at
