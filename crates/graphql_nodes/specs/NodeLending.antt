use Rattle.std.specs.Prelude.{◌≡◌, Result}
use Rattle.std.specs.Borrow.{LendsSoOk, MutBor, Fml}
use Rattle.graphql_nodes.specs.NodeView.{NodeView}
use Rattle.graphql_nodes.specs.contracts.node.Node.{the_row}
use denote.RattleType.{RattleType}

-- once the borrow r ends, the node holds the last value written, where it stood; at `Err` it is unchanged
abbrev pub LendsValue : (R : RattleType) → MutBor (NodeView R.Denot) → {E : Type 0}
    → Result (MutBor R.Denot) E → Fml
LendsValue R c r =
    LendsSoOk (the_row R) R c r (λ n w. n ≡ record { value = w; location = c.now.location }) (λ n. n ≡ c.now)
