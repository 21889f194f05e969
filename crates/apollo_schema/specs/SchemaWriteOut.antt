-- What a schema is written out as: GraphQL specification of October 2021, section 3.3.
--
-- **Write-out of a schema.** `write_schema`: first comes the write-out of its schema definition. Then come
-- its directive definitions that aren't built-in, in the order of the schema. Last comes the write-out of
-- each of its types, in the order of the schema. Of a type whose node is built-in the definition is left out,
-- and its extensions are written.
use Rattle.std.specs.Prelude.{List, ◌++◌, flat_map, map, filter, drop, if◌then◌else◌}
use Rattle.graphql_nodes.specs.NodeView.{NodeView}
use Rattle.graphql_nodes.specs.Tables.{values_of}
use Rattle.graphql_nodes.specs.BuiltIn.{is_built_in}
use Rattle.graphql_ast.specs.declared.definition.Definition.{Definition}
use Rattle.graphql_ast.specs.declared.definition.Definition.TheVariants as ast
use Rattle.graphql_ast.specs.declared.type_system.DirectiveDefinition.{DirectiveDefinition}
use Rattle.apollo_types.specs.SchemaDefinitionWriteOut.{write_schema_definition}
use Rattle.apollo_types.specs.TypeWriteOut.{type_location, write_type}
use Rattle.apollo_types.specs.declared.extended_type.ExtendedType.{ExtendedType}
use Rattle.apollo_meaning.specs.Directives.{is_handed_in}
use Rattle.apollo_schema.specs.declared.schema.Schema.{Schema}

-- the directive definitions that are handed in, in order
abbrev pub write_directives : List (NodeView DirectiveDefinition) → List Definition
write_directives ds = map ast.DirectiveDefinition (filter is_handed_in ds)

-- a type written out, without its definition where that is a built-in one
abbrev pub write_held_type : ExtendedType → List Definition
write_held_type t = if is_built_in (type_location t) then drop 1 (write_type t) else write_type t

-- the schema definition's part: the definition where it has a root of its own and says more than is implied,
-- and always its extensions
abbrev pub write_held_schema_definition : Schema → List Definition
write_held_schema_definition s =
    write_schema_definition s.schema_definition.value s.schema_definition.location s.types

-- the schema definition's part, then the directive definitions, and then the types, each in order
abbrev pub write_schema : Schema → List Definition
write_schema s = write_held_schema_definition s ++ write_directives (values_of s.directive_definitions)
    ++ flat_map write_held_type (values_of s.types)
