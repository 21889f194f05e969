-- The coordinates of fields: the Schema Coordinates RFC of GraphQL.
use Rattle.std.specs.Prelude.{Bool, ◌&&◌}
use Rattle.graphql_nodes.specs.SameText.{same_text}
use Rattle.apollo_coordinate.specs.declared.type_attribute_coordinate.TypeAttributeCoordinate.{TypeAttributeCoordinate}
use Rattle.apollo_field_usage.specs.Occurrences.{Occurrence}

-- the type of the set, and the name of the field
abbrev pub coordinate : Occurrence → TypeAttributeCoordinate
coordinate o = record { ty = o.ty; attribute = o.field.value.name }

-- their names have the same texts
abbrev pub same_coordinate : TypeAttributeCoordinate → TypeAttributeCoordinate → Bool
same_coordinate a b = same_text a.ty b.ty && same_text a.attribute b.attribute
