use Rattle.std.specs.Borrow.{Lends, MutBor, Fml}
use Rattle.graphql_nodes.specs.contracts.collections.boxed.Boxed.{the_row}
use denote.RattleType.{RattleType}

-- once the borrow r ends, the box holds the last value written
abbrev pub LendsInner : (R : RattleType) → MutBor R.Denot → MutBor R.Denot → Fml
LendsInner R b r = Lends (the_row R) R b r (λ w. w)
