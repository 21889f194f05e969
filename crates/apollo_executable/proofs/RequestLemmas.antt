-- The operation that a request asks for, written to.
use Rattle.std.proofs.Common.{◌≡◌, List, [], ◌∷◌, ◌++◌, Option, None, Some, sym, ap, ◌∙◌}
use Rattle.std.proofs.lemmas.Map.Steps.{set_value_same}
use Rattle.graphql_nodes.specs.NameView.{NameView}
use Rattle.graphql_nodes.specs.NodeView.{NodeView}
use Rattle.graphql_nodes.specs.SameText.{same_text}
use Rattle.graphql_nodes.specs.Tables.{values_of}
use Rattle.apollo_executable.specs.Listed.{listed}
use Rattle.apollo_executable.specs.Operations.{the_only}
use Rattle.apollo_executable.specs.Requests.{requested}
use Rattle.apollo_executable.specs.OperationLending.{with_only, with_requested, operation_location}
use Rattle.apollo_executable.specs.declared.operation.Operation.{Operation}
use Rattle.apollo_executable.specs.declared.operation_map.OperationMap.{OperationMap}

-- the only operation, put where it stands, changes nothing
only_put_back : (a : Option (NodeView Operation)) (es : List (NameView × NodeView Operation))
    (o : NodeView Operation) → the_only (listed a ++ values_of es) ≡ Some o
    → with_only a (record { anonymous = a; named = es }) o ≡ record { anonymous = a; named = es }
only_put_back (Some a) [] o h = λ i. record { anonymous = sym h i; named = [] }
only_put_back None (e ∷ []) o h =
    let same : o ≡ e.1 = cc in λ i. record { anonymous = None; named = (e.0, same i) ∷ [] }
only_put_back a es o h = cc

-- nor does any that is asked for
pub put_back : (m : OperationMap) (name : Option NameView) (o : NodeView Operation)
    → requested m name ≡ Some o → with_requested m name o ≡ m
put_back m (Some name) o h =
    let same = set_value_same (same_text name) m.named o h in
    λ i. record { anonymous = m.anonymous; named = same i }
put_back m None o h = only_put_back m.anonymous m.named o h

-- a node with another value stands where the operation stood
pub put_anew : (m : OperationMap) (name : Option NameView) (o written : NodeView Operation) (w : Operation)
    (final : OperationMap) → requested m name ≡ Some o → written ≡ record { value = w; location = o.location }
    → final ≡ with_requested m name written
    → final ≡ with_requested m name (record { value = w; location = operation_location (requested m name) })
put_anew m name o written w final there is put = rw there (put ∙ ap (with_requested m name) is)
