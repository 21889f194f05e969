-- What lookups in a schema answer, over the maps of any schema value alone: GraphQL specification of October
-- 2021, sections 2, 3.6 to 3.8, 4.1 and 4.2.
--
-- **Type of a name.** The one that stands under the name's text, whatever name the type has itself.
--
-- **Field.** A name T has a field f (`field_at` of `apollo_schema`) in two cases. The type of T is an object
-- or an interface that declares f, and that is the field. Or else one of its meta-fields is called f, and
-- that is the field.
--
-- **Subtype.** A type **declares** an interface if it is an object or an interface and lists the interface's
-- name. A name t is a subtype of a name a (`is_subtype`) in two cases. The type of a is an interface which
-- the type of t declares. Or the type of a is a union that lists t, whether t has a type or not. Nothing is a
-- subtype through something else, and of itself only what lists its own name.
use Rattle.std.specs.Prelude.{◌≡◌, Bool, false, List, [], ◌∷◌, ◌++◌, Option, None, Some, if◌then◌else◌}
use Rattle.std.specs.List.{find}
use Rattle.std.specs.Option.{option_map, option_map_or, option_or}
use Rattle.graphql_nodes.specs.KeySets.{has_key}
use Rattle.graphql_nodes.specs.NameView.{NameView}
use Rattle.graphql_nodes.specs.NodeView.{NodeView}
use Rattle.graphql_nodes.specs.SameText.{same_text}
use Rattle.graphql_nodes.specs.Tables.{lookup, lookup_key}
use Rattle.graphql_nodes.specs.declared.operation_type.OperationType.TheVariants.{Query}
use Rattle.graphql_ast.specs.TypeReferences.{inner_name}
use Rattle.graphql_ast.specs.declared.type_reference.Type.{«Type» as TypeReference}
use Rattle.graphql_ast.specs.declared.type_system.FieldDefinition.{FieldDefinition}
use Rattle.apollo_component.specs.declared.component.Component.{Component}
use Rattle.apollo_component.specs.declared.component.ComponentName.{ComponentName}
use Rattle.apollo_types.specs.SchemaRoots.{root_of}
use Rattle.apollo_types.specs.TypeKinds.{is_composite}
use Rattle.apollo_types.specs.TypeWriteOut.{type_location}
use Rattle.apollo_types.specs.declared.extended_type.ExtendedType.{ExtendedType}
use Rattle.apollo_types.specs.declared.extended_type.ExtendedType.TheVariants.{Object, Interface}
use Rattle.apollo_types.specs.declared.extended_type.ExtendedType.TheVariants.{Union}
use Rattle.apollo_schema.specs.MetaFields.{typename_field, schema_field, type_by_name_field}
use Rattle.apollo_schema.specs.declared.field_lookup_error.FieldLookupError.{FieldLookupError}
use Rattle.apollo_schema.specs.declared.field_lookup_error.FieldLookupError.TheVariants.{NoSuchType}
use Rattle.apollo_schema.specs.declared.field_lookup_error.FieldLookupError.TheVariants.{NoSuchField}
use Rattle.apollo_schema.specs.declared.schema.Schema.{Schema}

-- the types of a schema, under their names
abbrev pub Types : Type 0
Types = List (NameView × ExtendedType)

-- the type of a name
abbrev pub type_at : Types → NameView → Option ExtendedType
type_at types n = lookup (same_text n) types

-- the type as a node of one kind, seen so, if it is there and of this kind
abbrev pub node_if : {T : Type 0} → (ExtendedType → Option T) → Option ExtendedType → Option (NodeView T)
node_if seen None = None
node_if seen (Some type) =
    option_map (λ value. record { value = value; location = type_location type }) (seen type)

-- a reference to a type that passes; one to a name without a type is none
abbrev pub refers_to : (ExtendedType → Bool) → Types → TypeReference → Bool
refers_to test types ty = option_map_or test (type_at types (inner_name ty)) false

-- the field of this name that a type declares
abbrev pub declared_field : ExtendedType → NameView → Option (Component FieldDefinition)
declared_field (Object n) f = lookup (same_text f) n.value.fields
declared_field (Interface n) f = lookup (same_text f) n.value.fields
declared_field _ f = None

-- the name is that of the root type of queries
abbrev pub is_query_root : Schema → NameView → Bool
is_query_root s t =
    option_map_or (λ root. same_text t root.name) (root_of s.schema_definition.value Query) false

-- the fields that the type of this name has without declaring them. An object, interface or union has
-- `__typename`. The root type of queries has two others, whatever its kind
abbrev pub meta_fields : Schema → NameView → ExtendedType → List (Component FieldDefinition)
meta_fields s t type =
    (if is_composite type then typename_field ∷ [] else []) ++ (if is_query_root s t
    then schema_field ∷ type_by_name_field ∷ [] else [])

-- the field of this name that the type of this name has without declaring it
abbrev pub meta_field : Schema → NameView → ExtendedType → NameView → Option (Component FieldDefinition)
meta_field s t type f = find (λ field. same_text f field.node.value.name) (meta_fields s t type)

-- the field of this name in the type of this name: the one that it declares, or else a meta-field
abbrev pub field_of_type : Schema → NameView → NameView → ExtendedType → Option (Component FieldDefinition)
field_of_type s t f type = option_or (declared_field type f) (meta_field s t type f)

-- the field of this name in the type of this name; none where there is no such type
abbrev pub field_at : Schema → NameView → NameView → Option (Component FieldDefinition)
field_at s t f = option_map_or (field_of_type s t f) (type_at s.types t) None

-- the error says whether there is a type of this name: if so, with its key and the type
abbrev pub IsMissingIn : Types → NameView → FieldLookupError → Type 0
IsMissingIn types t NoSuchType = type_at types t ≡ None
IsMissingIn types t (NoSuchField key type) = (lookup_key (same_text t) types ≡ Some key.now)
    × (type_at types t ≡ Some type.now)

-- the name is among these
abbrev pub is_listed : NameView → List ComponentName → Bool
is_listed n names = has_key (λ listed. same_text n listed.name) names

-- the interfaces that a type declares
abbrev pub declared_interfaces : ExtendedType → List ComponentName
declared_interfaces (Object n) = n.value.implements_interfaces
declared_interfaces (Interface n) = n.value.implements_interfaces
declared_interfaces _ = []

-- a type declares an interface
abbrev pub declares : NameView → ExtendedType → Bool
declares i type = is_listed i (declared_interfaces type)

-- the type of a name is a subtype of an interface if it declares it. A name is a subtype of a union if that
-- lists it
abbrev pub is_subtype_of : Option ExtendedType → Types → NameView → NameView → Bool
is_subtype_of (Some (Interface n)) types a t = option_map_or (declares a) (type_at types t) false
is_subtype_of (Some (Union n)) types a t = is_listed t n.value.members
is_subtype_of _ types a t = false

-- the second name is that of a subtype of an interface, or of a member of a union, of the first name
abbrev pub is_subtype : Types → NameView → NameView → Bool
is_subtype types a t = is_subtype_of (type_at types a) types a t
