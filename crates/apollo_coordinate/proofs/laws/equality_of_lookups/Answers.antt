use Rattle.apollo_coordinate.proofs.LookupEquality.{answer_at, attribute_at}
use Rattle.apollo_coordinate.proofs.laws.equality_of_lookups.Goals as goal

pub returns : goal.returns
returns c =
    let parts = c.equality_of_the_type_system.ensures in
    record {
      attribute =
          attribute_at parts.field_definition parts.input_value_definition parts.enum_value_definition;
      coordinate = answer_at parts.field_definition parts.input_value_definition parts.enum_value_definition
          c.equality_of_types.ensures.extended_type parts.directive_definition;
    }
