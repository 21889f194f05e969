-- The definitions that every schema has: GraphQL specification of October 2021, sections 3.5 (scalars), 3.13
-- (directives) and 4.2 (schema introspection).
--
-- **Built-in definitions.** There are 17. The scalars are `Int`, `Float`, `String`, `Boolean` and `ID`. The
-- directives are `skip`, `include`, `deprecated` and `specifiedBy`. The introspection types are `__Schema`,
-- `__Type`, `__TypeKind`, `__Field`, `__InputValue`, `__EnumValue`, `__Directive` and `__DirectiveLocation`.
-- All these have no descriptions, and every node and name in them is in file number 0.
use Prim.Native.String.{String}
use Rattle.std.specs.Prelude.{ℕ, List, [], ◌∷◌, ◌++◌, None, Some, false, map, codes}
use Rattle.graphql_nodes.specs.NodeView.{NodeView}
use Rattle.graphql_nodes.specs.declared.directive_location.DirectiveLocation.TheVariants as at
use Rattle.graphql_ast.specs.declared.type_reference.Type.{«Type» as TypeReference}
use Rattle.graphql_ast.specs.declared.value.Value.{Boolean, «String» as Text}
use Rattle.graphql_ast.specs.declared.type_system.FieldDefinition.{FieldDefinition}
use Rattle.graphql_ast.specs.declared.type_system.InputValueDefinition.{InputValueDefinition}
use Rattle.graphql_ast.specs.declared.type_system.EnumValueDefinition.{EnumValueDefinition}
use Rattle.graphql_ast.specs.declared.definition.Definition.{Definition}
use Rattle.apollo_meaning.specs.BuiltInNodes as nodes
use Rattle.apollo_meaning.specs.BuiltInNodes.{list_of, non_null_list_of}

-- a nullable type of this name
abbrev pub named_type : String → TypeReference
named_type text = nodes.named_type (codes text)

-- a non-null type of this name
abbrev pub non_null : String → TypeReference
non_null text = nodes.non_null (codes text)

-- a field without arguments
abbrev pub field : String → TypeReference → NodeView FieldDefinition
field text ty = nodes.field (codes text) [] ty

-- a field with one argument
abbrev pub field_with : String → NodeView InputValueDefinition → TypeReference → NodeView FieldDefinition
field_with text argument ty = nodes.field (codes text) (argument ∷ []) ty

-- a value of an enum type
abbrev pub value : String → NodeView EnumValueDefinition
value text = nodes.enum_value (codes text)

-- the field `name: String!` of what has a name always
abbrev pub name_field : NodeView FieldDefinition
name_field = field "name" (non_null "String")

-- the field `description: String`
abbrev pub description_field : NodeView FieldDefinition
description_field = field "description" (named_type "String")

-- the fields of what may be deprecated, its last ones: whether it is, and why
abbrev pub deprecation_fields : List (NodeView FieldDefinition)
deprecation_fields =
    field "isDeprecated" (non_null "Boolean") ∷ field "deprecationReason" (named_type "String") ∷ []

-- `includeDeprecated: Boolean = false`
abbrev pub include_deprecated : NodeView InputValueDefinition
include_deprecated = nodes.argument (codes "includeDeprecated") (named_type "Boolean") (Some (Boolean false))

-- the scalar types `Int`, `Float`, `String`, `Boolean` and `ID`
abbrev pub built_in_scalars : List Definition
built_in_scalars =
    map (λ text. nodes.scalar (codes text)) ("Int" ∷ "Float" ∷ "String" ∷ "Boolean" ∷ "ID" ∷ [])

-- a directive of selections: `directive @text(if: Boolean!) on FIELD | FRAGMENT_SPREAD | INLINE_FRAGMENT`
abbrev pub condition_directive : List ℕ → Definition
condition_directive text = nodes.directive text (nodes.argument (codes "if") (non_null "Boolean") None)
    (at.Field ∷ at.FragmentSpread ∷ at.InlineFragment ∷ [])

-- `directive @deprecated(reason: String = "No longer supported") on FIELD_DEFINITION | ENUM_VALUE`
abbrev pub deprecated_directive : Definition
deprecated_directive = nodes.directive (codes "deprecated")
    (nodes.argument (codes "reason") (named_type "String") (Some (Text (codes "No longer supported"))))
    (at.FieldDefinition ∷ at.EnumValue ∷ [])

-- `directive @specifiedBy(url: String!) on SCALAR`
abbrev pub specified_by_directive : Definition
specified_by_directive = nodes.directive (codes "specifiedBy")
    (nodes.argument (codes "url") (non_null "String") None)
    (at.Scalar ∷ [])

-- the directives `@skip`, `@include`, `@deprecated` and `@specifiedBy`
abbrev pub built_in_directives : List Definition
built_in_directives =
    condition_directive (codes "skip") ∷ condition_directive (codes "include") ∷ deprecated_directive
    ∷ specified_by_directive ∷ []

-- `__Schema`: what introspection says of the schema
abbrev pub schema_type : Definition
schema_type = nodes.object (codes "__Schema") (
    description_field
    ∷ field "types" (non_null_list_of (non_null "__Type"))
    ∷ field "queryType" (non_null "__Type")
    ∷ field "mutationType" (named_type "__Type")
    ∷ field "subscriptionType" (named_type "__Type")
    ∷ field "directives" (non_null_list_of (non_null "__Directive"))
    ∷ [])

-- `__Type`: what introspection says of a type
abbrev pub type_type : Definition
type_type = nodes.object (codes "__Type") (
    field "kind" (non_null "__TypeKind")
    ∷ field "name" (named_type "String")
    ∷ description_field
    ∷ field_with "fields" include_deprecated (list_of (non_null "__Field"))
    ∷ field "interfaces" (list_of (non_null "__Type"))
    ∷ field "possibleTypes" (list_of (non_null "__Type"))
    ∷ field_with "enumValues" include_deprecated (list_of (non_null "__EnumValue"))
    ∷ field "inputFields" (list_of (non_null "__InputValue"))
    ∷ field "ofType" (named_type "__Type")
    ∷ field "specifiedByURL" (named_type "String")
    ∷ [])

-- `__TypeKind`: what a type may be, where lists and non-null types count as well
abbrev pub type_kind_type : Definition
type_kind_type = nodes.enumeration (codes "__TypeKind") (map value (
    "SCALAR" ∷ "OBJECT" ∷ "INTERFACE" ∷ "UNION" ∷ "ENUM" ∷ "INPUT_OBJECT" ∷ "LIST" ∷ "NON_NULL" ∷ []))

-- `__Field`: what introspection says of a field
abbrev pub field_type : Definition
field_type = nodes.object (codes "__Field") (
    name_field ∷ description_field
    ∷ field "args" (non_null_list_of (non_null "__InputValue"))
    ∷ field "type" (non_null "__Type")
    ∷ deprecation_fields)

-- `__InputValue`: what introspection says of an argument or an input field
abbrev pub input_value_type : Definition
input_value_type = nodes.object (codes "__InputValue") (
    name_field ∷ description_field
    ∷ field "type" (non_null "__Type")
    ∷ field "defaultValue" (named_type "String")
    ∷ [])

-- `__EnumValue`: what introspection says of an enum value
abbrev pub enum_value_type : Definition
enum_value_type = nodes.object (codes "__EnumValue") (name_field ∷ description_field ∷ deprecation_fields)

-- `__Directive`: what introspection says of a directive
abbrev pub directive_type : Definition
directive_type = nodes.object (codes "__Directive") (
    name_field ∷ description_field
    ∷ field "locations" (non_null_list_of (non_null "__DirectiveLocation"))
    ∷ field "args" (non_null_list_of (non_null "__InputValue"))
    ∷ field "isRepeatable" (non_null "Boolean")
    ∷ [])

-- `__DirectiveLocation`: what a directive may be applied to
abbrev pub directive_location_type : Definition
directive_location_type = nodes.enumeration (codes "__DirectiveLocation") (map value (
    "QUERY" ∷ "MUTATION" ∷ "SUBSCRIPTION" ∷ "FIELD" ∷ "FRAGMENT_DEFINITION" ∷ "FRAGMENT_SPREAD"
    ∷ "INLINE_FRAGMENT"
    ∷ "VARIABLE_DEFINITION" ∷ "SCHEMA" ∷ "SCALAR" ∷ "OBJECT" ∷ "FIELD_DEFINITION" ∷ "ARGUMENT_DEFINITION"
    ∷ "INTERFACE"
    ∷ "UNION" ∷ "ENUM" ∷ "ENUM_VALUE" ∷ "INPUT_OBJECT" ∷ "INPUT_FIELD_DEFINITION" ∷ []))

-- the types of introspection, whose names begin with `__`
abbrev pub introspection_types : List Definition
introspection_types =
    schema_type ∷ type_type ∷ type_kind_type ∷ field_type ∷ input_value_type ∷ enum_value_type
    ∷ directive_type
    ∷ directive_location_type ∷ []

-- the built-in definitions: scalar types, directives and the types of introspection
unfoldable pub built_in_definitions : List Definition
built_in_definitions = built_in_scalars ++ built_in_directives ++ introspection_types
