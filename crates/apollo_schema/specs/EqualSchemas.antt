-- Schemas that are equal: GraphQL specification of October 2021, section 3. Their definitions are equal, and
-- they have equal types and directive definitions under each name, in any order. Locations, origins and
-- sources are left out.
--
-- **Equal schemas.** Two schemas are equal (`AreEqualSchemas`) if what is compared of them is the same
-- (`bare_schema`). That is the schema definition, and the types and directive definitions as *bare tables*.
-- So under each name both have no type, or types of one kind. These have the same name, description and
-- directives in order, and the same fields, values, interfaces or members under each name.
use Rattle.std.specs.Prelude.{◌≡◌, ℕ, List, Option}
use Rattle.graphql_nodes.specs.Comparing.{entries_by_text}
use Rattle.graphql_ast.specs.BareTypeSystem.{bare_directive_definition}
use Rattle.graphql_ast.specs.declared.type_system.DirectiveDefinition.{DirectiveDefinition}
use Rattle.apollo_types.specs.BareTypes.{BareType, BareSchemaDefinition, bare_extended_type}
use Rattle.apollo_types.specs.BareTypes.{bare_schema_definition}
use Rattle.apollo_schema.specs.declared.schema.Schema.{Schema}

-- what `==` compares of a schema: its definition, and what stands under each name
pub record BareSchema : Type 0 where
  pub definition : BareSchemaDefinition
  -- the directive definition of this name, if there is one
  pub directive_definitions : List ℕ → Option DirectiveDefinition
  -- the type of this name, if there is one
  pub types : List ℕ → Option BareType

-- a schema, without locations, origins and sources
abbrev pub bare_schema : Schema → BareSchema
bare_schema s = record {
  definition = bare_schema_definition s.schema_definition.value;
  directive_definitions = entries_by_text (λ d. bare_directive_definition d.value) s.directive_definitions;
  types = entries_by_text bare_extended_type s.types;
}

-- two schemas are equal
abbrev pub AreEqualSchemas : Schema → Schema → Type 0
AreEqualSchemas a b = bare_schema a ≡ bare_schema b
