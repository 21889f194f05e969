-- What the lookups of coordinates answer, over the maps of any schema value alone: Schema Coordinates RFC,
-- and the GraphQL specification of October 2021, sections 3.5 to 3.10, 3.13, 4.1 and 4.2.
--
-- **Attribute.** The attribute a of a name T, over any schema value: the enum value or input field a that the
-- type of T declares. Else it is the *field* a of T, which may be a meta-field. (So a value `__schema` of an
-- enum that is the query root is found before the meta-field.)
use Rattle.std.specs.Prelude.{◌≡◌, ◌⊎◌, Bool, true, false, Option, None, Some, option_map, IsSome}
use Rattle.std.specs.Option.{option_map_or}
use Rattle.graphql_nodes.specs.NameView.{NameView}
use Rattle.graphql_nodes.specs.NodeView.{NodeView}
use Rattle.graphql_nodes.specs.SameText.{same_text}
use Rattle.graphql_nodes.specs.Tables.{lookup}
use Rattle.graphql_ast.specs.ArgumentsByName.{defined_argument}
use Rattle.graphql_ast.specs.declared.type_system.DirectiveDefinition.{DirectiveDefinition}
use Rattle.graphql_ast.specs.declared.type_system.EnumValueDefinition.{EnumValueDefinition}
use Rattle.graphql_ast.specs.declared.type_system.InputValueDefinition.{InputValueDefinition}
use Rattle.apollo_component.specs.declared.component.Component.{Component}
use Rattle.apollo_types.specs.declared.extended_type.ExtendedType.{ExtendedType}
use Rattle.apollo_types.specs.declared.extended_type.ExtendedType.TheVariants.{Scalar, Object, Interface}
use Rattle.apollo_types.specs.declared.extended_type.ExtendedType.TheVariants.{Union, Enum, InputObject}
use Rattle.apollo_schema.specs.Lookups.{Types, type_at, field_at}
use Rattle.apollo_schema.specs.declared.schema.Schema.{Schema}
use Rattle.apollo_coordinate.specs.declared.schema_coordinate.SchemaCoordinate.{SchemaCoordinate}
use Rattle.apollo_coordinate.specs.declared.schema_coordinate.SchemaCoordinate.TheVariants as coordinates
use Rattle.apollo_coordinate.specs.declared.lookup_answers.SchemaCoordinateLookup.{SchemaCoordinateLookup}
use Rattle.apollo_coordinate.specs.declared.lookup_answers.SchemaCoordinateLookup.TheVariants as answers
use Rattle.apollo_coordinate.specs.declared.lookup_answers.SchemaLookupError.{SchemaLookupError}
use Rattle.apollo_coordinate.specs.declared.lookup_answers.SchemaLookupError.TheVariants.{MissingType}
use Rattle.apollo_coordinate.specs.declared.lookup_answers.SchemaLookupError.TheVariants.{MissingAttribute}
use Rattle.apollo_coordinate.specs.declared.lookup_answers.SchemaLookupError.TheVariants.{InvalidArgumentAttribute}
use Rattle.apollo_coordinate.specs.declared.lookup_answers.SchemaLookupError.TheVariants.{MissingArgument}
use Rattle.apollo_coordinate.specs.declared.lookup_answers.SchemaLookupError.TheVariants.{InvalidType}
use Rattle.apollo_coordinate.specs.declared.lookup_answers.TypeAttributeLookup.{TypeAttributeLookup}
use Rattle.apollo_coordinate.specs.declared.lookup_answers.TypeAttributeLookup.TheVariants as attributes

-- an attribute as what any coordinate points to
abbrev pub of_attribute : TypeAttributeLookup → SchemaCoordinateLookup
of_attribute (attributes.Field d) = answers.Field d
of_attribute (attributes.InputField d) = answers.InputField d
of_attribute (attributes.EnumValue d) = answers.EnumValue d

-- the value of this name that an enum type declares
abbrev pub declared_enum_value : ExtendedType → NameView → Option (Component EnumValueDefinition)
declared_enum_value (Enum n) a = lookup (same_text a) n.value.values
declared_enum_value _ a = None

-- the field of this name that an input object type declares
abbrev pub declared_input_field : ExtendedType → NameView → Option (Component InputValueDefinition)
declared_input_field (InputObject n) a = lookup (same_text a) n.value.fields
declared_input_field _ a = None

-- the value of the second name in the enum type of the first
abbrev pub enum_value_at : Types → NameView → NameView → Option (Component EnumValueDefinition)
enum_value_at types t a = option_map_or (λ type. declared_enum_value type a) (type_at types t) None

-- the field of the second name in the input object type of the first
abbrev pub input_field_at : Types → NameView → NameView → Option (Component InputValueDefinition)
input_field_at types t a = option_map_or (λ type. declared_input_field type a) (type_at types t) None

-- the directive of this name
abbrev pub directive_at : Schema → NameView → Option (NodeView DirectiveDefinition)
directive_at s d = lookup (same_text d) s.directive_definitions

-- a type of a kind that declares fields
abbrev pub declares_fields : ExtendedType → Bool
declares_fields (Object n) = true
declares_fields (Interface n) = true
declares_fields _ = false

-- a type of a kind that declares attributes: fields, input fields or enum values
abbrev pub declares_attributes : ExtendedType → Bool
declares_attributes (Scalar n) = false
declares_attributes (Union n) = false
declares_attributes _ = true

-- neither an enum value nor an input field has the name in the type
abbrev pub IsFieldName : Schema → NameView → NameView → Type 0
IsFieldName s t a = (enum_value_at s.types t a ≡ None) × (input_field_at s.types t a ≡ None)

-- an attribute: an enum value or input field of the name, or else a field, which may be a meta-field
abbrev pub IsAttribute : Schema → NameView → NameView → TypeAttributeLookup → Type 0
IsAttribute s t a (attributes.EnumValue v) = enum_value_at s.types t a ≡ Some v.now
IsAttribute s t a (attributes.InputField f) = input_field_at s.types t a ≡ Some f.now
IsAttribute s t a (attributes.Field f) = IsFieldName s t a × (field_at s t a ≡ Some f.now)

-- the type has no attribute of the name
abbrev pub HasNoAttribute : Schema → NameView → NameView → Type 0
HasNoAttribute s t a = IsFieldName s t a × (field_at s t a ≡ None)

-- the first definition of an argument of this name, of the field of this name in the type of this name
abbrev pub field_argument_at : Schema → NameView → NameView → NameView
    → Option (Option (NodeView InputValueDefinition))
field_argument_at s t f a = option_map (λ d. defined_argument d.node.value.arguments a) (field_at s t f)

-- the first definition of an argument of this name, of the directive of this name
abbrev pub directive_argument_at : Schema → NameView → NameView
    → Option (Option (NodeView InputValueDefinition))
directive_argument_at s d a =
    option_map (λ definition. defined_argument definition.value.arguments a) (directive_at s d)

-- there is no type of the name
abbrev pub IsMissingType : Types → NameView → SchemaLookupError → Type 0
IsMissingType types t (MissingType n) = (n.now ≡ t) × (type_at types t ≡ None)
IsMissingType types t _ = ⊥

-- the type is of a kind that declares what is looked for, but has none of the name; or it is of another kind
abbrev pub IsMissingHere : Bool → ExtendedType → NameView → SchemaLookupError → Type 0
IsMissingHere declares type a (MissingAttribute n) = (n.now ≡ a) × (declares ≡ true)
IsMissingHere declares type a (InvalidType other) = (other.now ≡ type) × (declares ≡ false)
IsMissingHere declares type a _ = ⊥

-- there is no type of the name. Or it is of a kind that declares what is looked for, but has none of the
-- name. Or it is of another kind
abbrev pub IsMissingAttribute : (ExtendedType → Bool) → Types → NameView → NameView
    → SchemaLookupError → Type 0
IsMissingAttribute declares types t a (MissingType n) = (n.now ≡ t) × (type_at types t ≡ None)
IsMissingAttribute declares types t a (MissingAttribute n) =
    (n.now ≡ a) × (option_map declares (type_at types t) ≡ Some true)
IsMissingAttribute declares types t a (InvalidType type) =
    (type_at types t ≡ Some type.now) × (declares type.now ≡ false)
IsMissingAttribute declares types t a _ = ⊥

-- an argument: the attribute is an enum value or an input field. Or the field has no argument of the name. Or
-- there is no attribute of the name, as in its own lookup
abbrev pub IsMissingFieldArgument : Schema → NameView → NameView → NameView → SchemaLookupError → Type 0
IsMissingFieldArgument s t f a (InvalidArgumentAttribute n) =
    (n.now ≡ f) × (IsSome (enum_value_at s.types t f) ⊎ IsSome (input_field_at s.types t f))
IsMissingFieldArgument s t f a (MissingArgument n) =
    (n.now ≡ a) × IsFieldName s t f × (field_argument_at s t f a ≡ Some None)
IsMissingFieldArgument s t f a e = HasNoAttribute s t f × IsMissingAttribute declares_attributes s.types t f e

-- there is no directive of the name, which is said in the words for a type
abbrev pub IsMissingDirective : Schema → NameView → SchemaLookupError → Type 0
IsMissingDirective s d (MissingType n) = (n.now ≡ d) × (directive_at s d ≡ None)
IsMissingDirective s d _ = ⊥

-- there is no directive of the name, or it has no argument of the name
abbrev pub IsMissingDirectiveArgument : Schema → NameView → NameView → SchemaLookupError → Type 0
IsMissingDirectiveArgument s d a (MissingArgument n) = (n.now ≡ a) × (directive_argument_at s d a ≡ Some None)
IsMissingDirectiveArgument s d a e = IsMissingDirective s d e

-- what a coordinate points to
abbrev pub PointsTo : Schema → SchemaCoordinate → SchemaCoordinateLookup → Type 0
PointsTo s (coordinates.Ty c) (answers.Ty type) = type_at s.types c.ty ≡ Some type.now
PointsTo s (coordinates.TypeAttribute c) (answers.Field f) =
    IsAttribute s c.ty c.attribute (attributes.Field f)
PointsTo s (coordinates.TypeAttribute c) (answers.InputField f) =
    IsAttribute s c.ty c.attribute (attributes.InputField f)
PointsTo s (coordinates.TypeAttribute c) (answers.EnumValue v) =
    IsAttribute s c.ty c.attribute (attributes.EnumValue v)
PointsTo s (coordinates.FieldArgument c) (answers.Argument a) =
    IsFieldName s c.ty c.field × (field_argument_at s c.ty c.field c.argument ≡ Some (Some a.now))
PointsTo s (coordinates.Directive c) (answers.Directive d) = directive_at s c.directive ≡ Some d.now
PointsTo s (coordinates.DirectiveArgument c) (answers.Argument a) =
    directive_argument_at s c.directive c.argument ≡ Some (Some a.now)
PointsTo s _ _ = ⊥

-- why a coordinate points to nothing
abbrev pub PointsToNothing : Schema → SchemaCoordinate → SchemaLookupError → Type 0
PointsToNothing s (coordinates.Ty c) e = IsMissingType s.types c.ty e
PointsToNothing s (coordinates.TypeAttribute c) e =
    HasNoAttribute s c.ty c.attribute × IsMissingAttribute declares_attributes s.types c.ty c.attribute e
PointsToNothing s (coordinates.FieldArgument c) e = IsMissingFieldArgument s c.ty c.field c.argument e
PointsToNothing s (coordinates.Directive c) e = IsMissingDirective s c.directive e
PointsToNothing s (coordinates.DirectiveArgument c) e = IsMissingDirectiveArgument s c.directive c.argument e
