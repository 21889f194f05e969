use Rattle.std.specs.Prelude.{◌≡◌, Option, None, Some, Result, OnSome}
use Rattle.std.specs.Borrow.{LendsSo, LendsSoOk, MutBor, Fml}
use Rattle.graphql_nodes.specs.NameView.{NameView}
use Rattle.graphql_nodes.specs.NodeView.{NodeView}
use Rattle.graphql_nodes.specs.SameText.{same_text}
use Rattle.graphql_nodes.specs.declared.source.SourceSpan.{SourceSpan}
use Rattle.graphql_nodes.specs.Tables.{set_value, set_value_at}
use Rattle.graphql_nodes.specs.contracts.node.Node as node
use Rattle.apollo_executable.specs.Requests.{requested}
use Rattle.apollo_executable.specs.declared.operation.Operation.{Operation}
use Rattle.apollo_executable.specs.declared.operation_map.OperationMap.{OperationMap}
use Rattle.apollo_executable.specs.contracts.operation.Operation as operation
use Rattle.apollo_executable.specs.contracts.operation_map.OperationMap as map

-- the map with this operation in the place of the only one
abbrev pub with_only : Option (NodeView Operation) → OperationMap → NodeView Operation → OperationMap
with_only (Some anonymous) m o = record { anonymous = Some o; named = m.named }
with_only None m o = record { anonymous = None; named = set_value_at m.named 0 o }

-- the map with this operation in the place of the one that a request asks for
abbrev pub with_requested : OperationMap → Option NameView → NodeView Operation → OperationMap
with_requested m (Some name) o =
    record { anonymous = m.anonymous; named = set_value (same_text name) m.named o }
with_requested m None o = with_only m.anonymous m o

-- once the borrow r ends, the node of the operation that was asked for is the last one written. All else is
-- as it was. At `None` the map is unchanged
abbrev pub LendsNode : MutBor OperationMap → Option NameView → Option (MutBor (NodeView Operation)) → Fml
LendsNode m name r =
    LendsSo map.the_row (node.the_row operation.the_row) m r
    (λ n w. OnSome r (n ≡ with_requested m.now name w)) (λ n. n ≡ m.now)

-- where an operation stands
abbrev pub operation_location : Option (NodeView Operation) → Option SourceSpan
operation_location (Some o) = o.location
operation_location None = None

-- once the borrow r ends, the operation that was asked for is the last value written, where it stood. All
-- else is as it was. At `Err` the map is unchanged
abbrev pub LendsOperation : MutBor OperationMap → Option NameView → {E : Type 0}
    → Result (MutBor Operation) E → Fml
LendsOperation m name r =
    LendsSoOk map.the_row operation.the_row m r (λ n w. n
    ≡ with_requested m.now name (record { value = w; location = operation_location (requested m.now name) }))
    (λ n. n ≡ m.now)
