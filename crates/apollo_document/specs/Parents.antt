-- What a schema has under the name of a type that selections are from (GraphQL specification of October
-- 2021, section 2.4); nothing without a schema.
use Rattle.std.specs.Prelude.{Option, None, Some}
use Rattle.graphql_nodes.specs.NameView.{NameView}
use Rattle.graphql_nodes.specs.SameText.{same_text}
use Rattle.graphql_nodes.specs.Tables.{lookup_key}
use Rattle.apollo_types.specs.declared.extended_type.ExtendedType.{ExtendedType}
use Rattle.apollo_schema.specs.Lookups.{type_at}
use Rattle.apollo_schema.specs.declared.schema.Schema.{Schema}

-- the name as the schema has it
abbrev pub key_in : Option Schema → NameView → Option NameView
key_in None ty = None
key_in (Some s) ty = lookup_key (same_text ty) s.types

-- the type of this name
abbrev pub type_in : Option Schema → NameView → Option ExtendedType
type_in None ty = None
type_in (Some s) ty = type_at s.types ty
