-- What `==` compares of what lookups of coordinates answer: the sort of what is found, and its value, without
-- locations, origins and sources. GraphQL specification of October 2021, sections 3.4 to 3.10 and 3.13.
use Rattle.graphql_ast.specs.BareTypeSystem.{bare_directive_definition, bare_enum_value_definition}
use Rattle.graphql_ast.specs.BareTypeSystem.{bare_field_definition, bare_input_value_definition}
use Rattle.graphql_ast.specs.declared.type_system.DirectiveDefinition.{DirectiveDefinition}
use Rattle.graphql_ast.specs.declared.type_system.EnumValueDefinition.{EnumValueDefinition}
use Rattle.graphql_ast.specs.declared.type_system.FieldDefinition.{FieldDefinition}
use Rattle.graphql_ast.specs.declared.type_system.InputValueDefinition.{InputValueDefinition}
use Rattle.apollo_component.specs.BareComponents.{bare_component}
use Rattle.apollo_types.specs.BareTypes.{BareType, bare_extended_type}
use Rattle.apollo_coordinate.specs.declared.lookup_answers.SchemaCoordinateLookup.{SchemaCoordinateLookup}
use Rattle.apollo_coordinate.specs.declared.lookup_answers.SchemaCoordinateLookup.TheVariants as answers
use Rattle.apollo_coordinate.specs.declared.lookup_answers.TypeAttributeLookup.{TypeAttributeLookup}
use Rattle.apollo_coordinate.specs.declared.lookup_answers.TypeAttributeLookup.TheVariants as attributes

-- what a coordinate points to, as values
pub data BareLookup : Type 0 where
  Ty : BareType → BareLookup
  Directive : DirectiveDefinition → BareLookup
  Field : FieldDefinition → BareLookup
  InputField : InputValueDefinition → BareLookup
  EnumValue : EnumValueDefinition → BareLookup
  Argument : InputValueDefinition → BareLookup

-- the attribute that a coordinate points to, as a value
abbrev pub bare_attribute_lookup : TypeAttributeLookup → BareLookup
bare_attribute_lookup (attributes.Field found) =
    BareLookup.Field (bare_component bare_field_definition found.now)
bare_attribute_lookup (attributes.InputField found) =
    BareLookup.InputField (bare_component bare_input_value_definition found.now)
bare_attribute_lookup (attributes.EnumValue found) =
    BareLookup.EnumValue (bare_component bare_enum_value_definition found.now)

-- what a coordinate points to, as a value
abbrev pub bare_lookup : SchemaCoordinateLookup → BareLookup
bare_lookup (answers.Ty found) = BareLookup.Ty (bare_extended_type found.now)
bare_lookup (answers.Directive found) = BareLookup.Directive (bare_directive_definition found.now.value)
bare_lookup (answers.Field found) = BareLookup.Field (bare_component bare_field_definition found.now)
bare_lookup (answers.InputField found) =
    BareLookup.InputField (bare_component bare_input_value_definition found.now)
bare_lookup (answers.EnumValue found) =
    BareLookup.EnumValue (bare_component bare_enum_value_definition found.now)
bare_lookup (answers.Argument found) = BareLookup.Argument (bare_input_value_definition found.now.value)
