-- The value of an argument that is lent: GraphQL specification of October 2021, sections 2.6 and 3.6.1.
use Rattle.std.specs.Prelude.{◌≡◌, Option, Result, Ok, Err}
use Rattle.std.specs.Option.{option_copied}
use Rattle.std.specs.Borrow.{Bor}
use Rattle.graphql_nodes.specs.NodeView.{NodeView}
use Rattle.graphql_ast.specs.declared.value.Value.{Value}
use Rattle.graphql_ast.specs.declared.directive.ArgumentByNameError.{ArgumentByNameError}

-- the result refers to this value, or is this error
abbrev pub Answers : Result (Option (NodeView Value)) ArgumentByNameError
    → Result (Option (Bor (NodeView Value))) ArgumentByNameError → Type 0
Answers answer (Ok v) = answer ≡ Ok (option_copied v)
Answers answer (Err e) = answer ≡ Err e
