-- Fields of leaf types without subselections: GraphQL specification of October 2021, section 5.3.3.
use Rattle.std.specs.Prelude.{◌≡◌, true, []}
use Rattle.apollo_types.specs.TypeKinds.{is_leaf}
use Rattle.apollo_schema.specs.Lookups.{refers_to}
use Rattle.apollo_schema.specs.declared.schema.Schema.{Schema}
use Rattle.apollo_executable.specs.declared.selection.Field.{Field}

-- if the type of a field is a scalar or enum of the schema, it has no subselections
abbrev pub IsBareOnLeaf : Schema → Field → Type 0
IsBareOnLeaf s f = refers_to is_leaf s.types f.definition.value.ty ≡ true → f.selection_set.selections ≡ []
