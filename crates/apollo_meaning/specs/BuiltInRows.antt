-- What rows of the table of built-in definitions stand for, as the code holds them: GraphQL specification of
-- October 2021, section 4.2.
use Rattle.std.specs.Prelude.{[], ◌∷◌, map}
use Rattle.graphql_nodes.specs.NodeView.{NodeView}
use Rattle.graphql_ast.specs.declared.type_reference.Type.{«Type» as TypeReference}
use Rattle.graphql_ast.specs.declared.type_system.FieldDefinition.{FieldDefinition}
use Rattle.graphql_ast.specs.declared.definition.Definition.{Definition}
use Rattle.apollo_meaning.specs.BuiltInNodes as nodes
use Rattle.apollo_meaning.specs.BuiltInTable.{include_deprecated}
use Rattle.apollo_meaning.specs.declared.built_in_nodes.TypeRow.{TypeRow}
use Rattle.apollo_meaning.specs.declared.built_in_nodes.TypeRow.TheVariants as type_rows
use Rattle.apollo_meaning.specs.declared.built_in_nodes.FieldRow.{FieldRow}
use Rattle.apollo_meaning.specs.declared.built_in_nodes.FieldRow.TheVariants as field_rows
use Rattle.apollo_meaning.specs.declared.built_in_nodes.DefinitionRow.{DefinitionRow}
use Rattle.apollo_meaning.specs.declared.built_in_nodes.DefinitionRow.TheVariants as rows

-- the type that a row has: `text`, `text!`, `[text!]` or `[text!]!`
abbrev pub row_type : TypeRow → TypeReference
row_type (type_rows.Named text) = nodes.named_type text.now
row_type (type_rows.NonNull text) = nodes.non_null text.now
row_type (type_rows.ListOf text) = nodes.list_of (nodes.non_null text.now)
row_type (type_rows.NonNullListOf text) = nodes.non_null_list_of (nodes.non_null text.now)

-- the field that a row is: without arguments, or with `includeDeprecated`
abbrev pub row_field : FieldRow → NodeView FieldDefinition
row_field (field_rows.Field text ty) = nodes.field text.now [] (row_type ty)
row_field (field_rows.Filtered text ty) = nodes.field text.now (include_deprecated ∷ []) (row_type ty)

-- the definition that a row is: a scalar type, an object type with fields, or an enum type with values
abbrev pub row_definition : DefinitionRow → Definition
row_definition (rows.Scalar text) = nodes.scalar text.now
row_definition (rows.Object text fields) = nodes.object text.now (map row_field fields.now)
row_definition (rows.Enumeration text values) =
    nodes.enumeration text.now (map (λ value. nodes.enum_value value.now) values.now)
