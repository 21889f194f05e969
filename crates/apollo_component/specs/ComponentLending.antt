-- What may be written to a component, and what becomes of it then: GraphQL specification of October 2021,
-- section 3.4.3.
use Rattle.std.specs.Borrow.{Lends, MutBor, Fml}
use Rattle.graphql_nodes.specs.NodeView.{NodeView}
use Rattle.graphql_nodes.specs.contracts.node.Node as node
use Rattle.apollo_component.specs.declared.component.Component.{Component}
use Rattle.apollo_component.specs.contracts.component.Component.{the_row}
use denote.RattleType.{RattleType}

-- once the borrow r ends, the component has the node that was written last, of the origin that it had
abbrev pub LendsNode : (R : RattleType) → MutBor (Component R.Denot) → MutBor (NodeView R.Denot) → Fml
LendsNode R c r = Lends (the_row R) (node.the_row R) c r (λ n. record { origin = c.now.origin; node = n })
