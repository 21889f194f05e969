-- What `==` compares of types and of a schema's definition. That is no location and no origin, but directives
-- in order, and what stands under a name as a function of its text. GraphQL specification of October 2021,
-- sections 3.3 to 3.10.
use Rattle.std.specs.Prelude.{ℕ, Bool, List, [], Option, option_map}
use Rattle.graphql_nodes.specs.NameView.{NameView}
use Rattle.graphql_nodes.specs.Comparing.{bare_name, entries_by_text, members_by_text}
use Rattle.graphql_nodes.specs.declared.type_kind.TypeKind.{TypeKind}
use Rattle.graphql_nodes.specs.declared.type_kind.TypeKind.TheVariants as k
use Rattle.graphql_ast.specs.BareTypeSystem.{bare_field_definition, bare_enum_value_definition}
use Rattle.graphql_ast.specs.BareTypeSystem.{bare_input_value_definition}
use Rattle.graphql_ast.specs.declared.directive.Directive.{Directive}
use Rattle.graphql_ast.specs.declared.type_system.FieldDefinition.{FieldDefinition}
use Rattle.graphql_ast.specs.declared.type_system.EnumValueDefinition.{EnumValueDefinition}
use Rattle.graphql_ast.specs.declared.type_system.InputValueDefinition.{InputValueDefinition}
use Rattle.apollo_component.specs.BareComponents.{bare_component, bare_component_name, bare_directives}
use Rattle.apollo_component.specs.declared.component.Component.{Component}
use Rattle.apollo_component.specs.declared.component.ComponentName.{ComponentName}
use Rattle.apollo_component.specs.declared.directive_list.DirectiveList.{DirectiveList}
use Rattle.apollo_types.specs.declared.scalar_type.ScalarType.{ScalarType}
use Rattle.apollo_types.specs.declared.object_type.ObjectType.{ObjectType}
use Rattle.apollo_types.specs.declared.interface_type.InterfaceType.{InterfaceType}
use Rattle.apollo_types.specs.declared.union_type.UnionType.{UnionType}
use Rattle.apollo_types.specs.declared.enum_type.EnumType.{EnumType}
use Rattle.apollo_types.specs.declared.input_object_type.InputObjectType.{InputObjectType}
use Rattle.apollo_types.specs.declared.extended_type.ExtendedType.{ExtendedType}
use Rattle.apollo_types.specs.declared.extended_type.ExtendedType.TheVariants as t
use Rattle.apollo_types.specs.declared.schema_definition.SchemaDefinition.{SchemaDefinition}

-- a type of any kind, without locations and origins
pub record BareType : Type 0 where
  pub kind : TypeKind
  pub description : Option NameView
  pub name : NameView
  pub directives : List Directive
  -- whether an interface or a member of this name is listed
  pub names : List ℕ → Bool
  -- the field of an object or interface type with this name, if there is one
  pub fields : List ℕ → Option FieldDefinition
  -- the value of this name, if there is one
  pub values : List ℕ → Option EnumValueDefinition
  -- the field of an input object type with this name, if there is one
  pub input_fields : List ℕ → Option InputValueDefinition

-- the definition of a schema, with the name of the root of each operation type
pub record BareSchemaDefinition : Type 0 where
  pub description : Option NameView
  pub directives : List Directive
  pub query : Option NameView
  pub mutation : Option NameView
  pub subscription : Option NameView

-- what `==` compares of a type of this kind, with this description and name. It has these directives, these
-- interfaces or members, these fields, these values, and these fields of an input object type
abbrev pub bare_of_kind : TypeKind → Option NameView → NameView → DirectiveList → List ComponentName
    → List (NameView × Component FieldDefinition) → List (NameView × Component EnumValueDefinition)
    → List (NameView × Component InputValueDefinition) → BareType
bare_of_kind kind description name directives names fields values input_fields = record {
  kind = kind;
  description = option_map bare_name description;
  name = bare_name name;
  directives = bare_directives directives;
  names = members_by_text (λ c. c.name) names;
  fields = entries_by_text (bare_component bare_field_definition) fields;
  values = entries_by_text (bare_component bare_enum_value_definition) values;
  input_fields = entries_by_text (bare_component bare_input_value_definition) input_fields;
}

-- what `==` compares of a scalar type
abbrev pub bare_scalar : ScalarType → BareType
bare_scalar t = bare_of_kind k.Scalar t.description t.name t.directives [] [] [] []

-- what `==` compares of an object type
abbrev pub bare_object : ObjectType → BareType
bare_object t =
    bare_of_kind k.Object t.description t.name t.directives t.implements_interfaces t.fields [] []

-- what `==` compares of an interface type
abbrev pub bare_interface : InterfaceType → BareType
bare_interface t =
    bare_of_kind k.Interface t.description t.name t.directives t.implements_interfaces t.fields [] []

-- what `==` compares of a union type
abbrev pub bare_union : UnionType → BareType
bare_union t = bare_of_kind k.Union t.description t.name t.directives t.members [] [] []

-- what `==` compares of an enum type
abbrev pub bare_enum : EnumType → BareType
bare_enum t = bare_of_kind k.Enum t.description t.name t.directives [] [] t.values []

-- what `==` compares of an input object type
abbrev pub bare_input_object : InputObjectType → BareType
bare_input_object t = bare_of_kind k.InputObject t.description t.name t.directives [] [] [] t.fields

-- what `==` compares of a type of any kind
abbrev pub bare_extended_type : ExtendedType → BareType
bare_extended_type (t.Scalar n) = bare_scalar n.value
bare_extended_type (t.Object n) = bare_object n.value
bare_extended_type (t.Interface n) = bare_interface n.value
bare_extended_type (t.Union n) = bare_union n.value
bare_extended_type (t.Enum n) = bare_enum n.value
bare_extended_type (t.InputObject n) = bare_input_object n.value

-- what `==` compares of the definition of a schema
abbrev pub bare_schema_definition : SchemaDefinition → BareSchemaDefinition
bare_schema_definition d = record {
  description = option_map bare_name d.description;
  directives = bare_directives d.directives;
  query = option_map bare_component_name d.query;
  mutation = option_map bare_component_name d.mutation;
  subscription = option_map bare_component_name d.subscription;
}
