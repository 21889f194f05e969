-- What `==` compares of usages: coordinates without the locations of their names, and counts.
use Rattle.apollo_coordinate.specs.CoordinateText.{bare_attribute_coordinate}
use Rattle.apollo_field_usage.specs.declared.counting.FieldUsage.{FieldUsage}

-- a usage, its coordinate without locations
abbrev pub bare_usage : FieldUsage → FieldUsage
bare_usage usage = record { coordinate = bare_attribute_coordinate usage.coordinate; count = usage.count }
