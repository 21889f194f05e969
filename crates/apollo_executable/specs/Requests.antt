-- The operation that a request asks for: GraphQL specification of October 2021, section 6.1.
--
-- **Requested operation.** Of a name, the one that stands under the name's text. Without a name, the
-- only operation of the document: where there is none, or more than one, none is requested.
use Rattle.std.specs.Prelude.{◌≡◌, Option, None, Some}
use Rattle.std.specs.Borrow.{Bor}
use Rattle.graphql_nodes.specs.NameView.{NameView}
use Rattle.graphql_nodes.specs.NodeView.{NodeView}
use Rattle.graphql_nodes.specs.SameText.{same_text}
use Rattle.graphql_nodes.specs.Tables.{lookup}
use Rattle.apollo_executable.specs.Operations.{all_operations, the_only}
use Rattle.apollo_executable.specs.declared.operation.Operation.{Operation}
use Rattle.apollo_executable.specs.declared.operation_map.OperationMap.{OperationMap}
use Rattle.apollo_executable.specs.declared.request_error.RequestError.{RequestError}
use Rattle.apollo_executable.specs.declared.request_error.RequestError.TheVariants.{NoSuchOperation}
use Rattle.apollo_executable.specs.declared.request_error.RequestError.TheVariants.{Ambiguous, Memory}

-- the operation of the name, or without a name the only one
abbrev pub requested : OperationMap → Option NameView → Option (NodeView Operation)
requested m (Some name) = lookup (same_text name) m.named
requested m None = the_only (all_operations m)

-- why there is none
abbrev pub request_error : Option (Bor NameView) → RequestError
request_error (Some name) = NoSuchOperation name
request_error None = Ambiguous

-- why it isn't lent: there is none, or else memory was wanted
abbrev pub IsRefusal : Option (NodeView Operation) → Option (Bor NameView) → RequestError → Type 0
IsRefusal (Some operation) name error = error ≡ Memory
IsRefusal None name error = error ≡ request_error name
