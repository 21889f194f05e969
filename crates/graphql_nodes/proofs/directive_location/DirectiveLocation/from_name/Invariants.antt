-- No location so far has the name.
use Rattle.std.proofs.Common.{◌≢◌, All, take}
use Rattle.graphql_nodes.specs.LocationTexts.{location_text}
use Rattle.graphql_nodes.proofs.directive_location.DirectiveLocation.from_name.Given as goal

abbrev pub invariant-loop-location : goal.invariant-loop-location
invariant-loop-location l = All (λ location. location_text location ≢ l.name) (take l.location-index
    l.location-items)
