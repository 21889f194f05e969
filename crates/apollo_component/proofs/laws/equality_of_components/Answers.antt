use Rattle.graphql_nodes.proofs.Comparisons.{Compares}
use Rattle.apollo_component.proofs.ComponentEquality.{components}
use Rattle.apollo_component.proofs.laws.equality_of_components.Goals as goal

pub returns : goal.returns
returns g c = λ f t. let w : Compares g.T.PartialEq.eq f = record { at = t } in (components w).at
