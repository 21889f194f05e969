-- Each location stands among those that were tried.
use Rattle.std.proofs.Common.{◌≢◌, All, arith, lit<, ◌∙◌}
use Rattle.std.proofs.lemmas.List.{take_all}
use Rattle.std.proofs.lemmas.List.Elements.{All-more}
use Rattle.std.specs.Cmp.Lexicographic.{other_text}
use Rattle.graphql_nodes.specs.LocationTexts.{location_text}
use Rattle.graphql_nodes.specs.declared.directive_location.DirectiveLocation.{DirectiveLocation}
use Rattle.graphql_nodes.specs.declared.directive_location.DirectiveLocation.TheVariants as at
use Rattle.graphql_nodes.specs.declared.directive_location.TheConstants.DirectiveLocation.{ALL}
use Rattle.graphql_nodes.proofs.directive_location.DirectiveLocation.from_name.Goals as goal

-- what holds of all locations on the list holds of each location
of_each : (P : DirectiveLocation → Type 0) → All P ALL → (location : DirectiveLocation) → P location
of_each P all at.Query = all 0 at.Query (lit< tt)
of_each P all at.Mutation = all 1 at.Mutation (lit< tt)
of_each P all at.Subscription = all 2 at.Subscription (lit< tt)
of_each P all at.Field = all 3 at.Field (lit< tt)
of_each P all at.FragmentDefinition = all 4 at.FragmentDefinition (lit< tt)
of_each P all at.FragmentSpread = all 5 at.FragmentSpread (lit< tt)
of_each P all at.InlineFragment = all 6 at.InlineFragment (lit< tt)
of_each P all at.VariableDefinition = all 7 at.VariableDefinition (lit< tt)
of_each P all at.Schema = all 8 at.Schema (lit< tt)
of_each P all at.Scalar = all 9 at.Scalar (lit< tt)
of_each P all at.Object = all 10 at.Object (lit< tt)
of_each P all at.FieldDefinition = all 11 at.FieldDefinition (lit< tt)
of_each P all at.ArgumentDefinition = all 12 at.ArgumentDefinition (lit< tt)
of_each P all at.Interface = all 13 at.Interface (lit< tt)
of_each P all at.Union = all 14 at.Union (lit< tt)
of_each P all at.Enum = all 15 at.Enum (lit< tt)
of_each P all at.EnumValue = all 16 at.EnumValue (lit< tt)
of_each P all at.InputObject = all 17 at.InputObject (lit< tt)
of_each P all at.InputFieldDefinition = all 18 at.InputFieldDefinition (lit< tt)

pub loop-location-preserved : goal.loop-location-preserved
loop-location-preserved c = All-more (λ location. location_text location ≢ c.args.name.now) _
    c.loop-location.location-index _ c.loop-location-test.true c.loop-location.invariant
    (λ e. other_text _ _ c.if-eq.ensures (c.name.ensures ∙ e))

pub returns : goal.returns
returns c = of_each (λ location. location_text location ≢ c.args.name.now) (λ k d lt.
    grind (arith, take_all, c.loop-location.invariant k d))
