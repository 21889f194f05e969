-- How often which coordinates come among fields.
use Rattle.std.specs.Prelude.{ℕ, List, map}
use Rattle.apollo_coordinate.specs.declared.type_attribute_coordinate.TypeAttributeCoordinate.{TypeAttributeCoordinate}
use Rattle.apollo_field_usage.specs.Coordinates.{coordinate}
pub use Rattle.apollo_field_usage.specs.Coordinates.{same_coordinate}
pub use Rattle.apollo_field_usage.specs.Occurrences.{Occurrence}
use Rattle.apollo_field_usage.specs.Tallies.{tally}
use Rattle.apollo_field_usage.specs.declared.counting.FieldUsage.{FieldUsage}

-- a coordinate, and how often it comes
abbrev pub usage_of : TypeAttributeCoordinate × ℕ → FieldUsage
usage_of e = record { coordinate = e.0; count = e.1 }

-- each coordinate once, as it stands where it comes first, with how often it comes
abbrev pub usage : List Occurrence → List FieldUsage
usage fields = map usage_of (tally same_coordinate (map coordinate fields))
