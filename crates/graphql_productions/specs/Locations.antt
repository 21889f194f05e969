-- The names of directive locations: GraphQL specification of October 2021, section 3.13.
use Rattle.std.specs.Prelude.{ℕ, List, [], ◌∷◌, nat_eq, Option, None, Some, if◌then◌else◌}
use lib.Pointwise.{pointwise}
use Rattle.graphql_nodes.specs.declared.directive_location.DirectiveLocation.{DirectiveLocation}
use Rattle.graphql_nodes.specs.declared.directive_location.DirectiveLocation.TheVariants as l
use Rattle.graphql_nodes.specs.LocationTexts.{location_text}

-- all locations
abbrev pub all_locations : List DirectiveLocation
all_locations =
    l.Query ∷ l.Mutation ∷ l.Subscription ∷ l.Field ∷ l.FragmentDefinition ∷ l.FragmentSpread
    ∷ l.InlineFragment ∷ l.VariableDefinition ∷ l.Schema ∷ l.Scalar ∷ l.Object ∷ l.FieldDefinition
    ∷ l.ArgumentDefinition ∷ l.Interface ∷ l.Union ∷ l.Enum ∷ l.EnumValue ∷ l.InputObject
    ∷ l.InputFieldDefinition ∷ []

-- the first of these locations that has this name
abbrev pub named_among : List DirectiveLocation → List ℕ → Option DirectiveLocation
named_among [] text = None
named_among (location ∷ locations) text = if pointwise nat_eq (location_text location) text then Some location
    else named_among locations text

-- the location of this name, if there is one
unfoldable pub location_of : List ℕ → Option DirectiveLocation
location_of text = named_among all_locations text
