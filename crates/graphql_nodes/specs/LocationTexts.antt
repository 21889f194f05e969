-- The names of directive locations: GraphQL specification of October 2021, section 3.13.
use Rattle.std.specs.Prelude.{ℕ, List, codes}
use Rattle.graphql_nodes.specs.declared.directive_location.DirectiveLocation.{DirectiveLocation}
use Rattle.graphql_nodes.specs.declared.directive_location.DirectiveLocation.TheVariants as at

-- the name of a directive location, as a directive definition writes it
abbrev pub location_text : DirectiveLocation → List ℕ
location_text at.Query = codes "QUERY"
location_text at.Mutation = codes "MUTATION"
location_text at.Subscription = codes "SUBSCRIPTION"
location_text at.Field = codes "FIELD"
location_text at.FragmentDefinition = codes "FRAGMENT_DEFINITION"
location_text at.FragmentSpread = codes "FRAGMENT_SPREAD"
location_text at.InlineFragment = codes "INLINE_FRAGMENT"
location_text at.VariableDefinition = codes "VARIABLE_DEFINITION"
location_text at.Schema = codes "SCHEMA"
location_text at.Scalar = codes "SCALAR"
location_text at.Object = codes "OBJECT"
location_text at.FieldDefinition = codes "FIELD_DEFINITION"
location_text at.ArgumentDefinition = codes "ARGUMENT_DEFINITION"
location_text at.Interface = codes "INTERFACE"
location_text at.Union = codes "UNION"
location_text at.Enum = codes "ENUM"
location_text at.EnumValue = codes "ENUM_VALUE"
location_text at.InputObject = codes "INPUT_OBJECT"
location_text at.InputFieldDefinition = codes "INPUT_FIELD_DEFINITION"
