-- The types that a list means: of each name its first definition, with its kind's extensions folded in.
-- GraphQL specification of October 2021, sections 3.4.3, and 3.5 to 3.10.
--
-- **Number of an extension.** The builder's first number plus how many extensions stand before it in the
-- folding order. So different extensions have different numbers, one extension has one number for all
-- its components, and an extension that is not folded has none. An extension gets its number even if it
-- holds nothing, or if everything it holds is dropped.
--
-- **Parts of a name.** The parts of a name are its first definition, with the origin "definition", and then
-- its folded extensions by number. Each extension has its identity as origin. The first definition comes
-- first even if extensions stand before it.
--
-- **Type that a name means.** The type that a name means is of the kind of its first definition, and has
--
-- - description, name and location: those of the first definition;
-- - directives: those of all parts, joined, repeated ones kept;
-- - interfaces, fields, members, values, as its kind has them: those of all parts, joined, and of these
--   the first of each name.
--
-- Each component keeps its node (value and location) and has the origin of its part.
--
-- **Types that a list means.** `AreTypesOf`: there is one for each name that is defined, in the order of
-- first definition. It stands under that name as its first definition writes it. Looking up any text gives
-- the type that this name means, or nothing.
use Rattle.std.specs.Prelude.{ℕ, List, ◌∷◌, None, map, ◌≡◌, Option, filter, Some}
use Rattle.std.specs.List.{filter_map, flat_map, enumerate_from}
use Rattle.std.specs.Option.{option_map}
use Rattle.graphql_nodes.specs.SameText.{same, by_text}
use Rattle.graphql_nodes.specs.NameView.{NameView}
use Rattle.graphql_nodes.specs.NodeView.{NodeView}
use Rattle.graphql_nodes.specs.Tables.{lookup, keys_of}
use Rattle.graphql_nodes.specs.declared.type_kind.TypeKind.{TypeKind}
use Rattle.graphql_nodes.specs.declared.type_kind.TypeKind.TheVariants as kinds
use Rattle.apollo_component.specs.FirstOfEach.{first_of_each, same_key}
use Rattle.apollo_component.specs.declared.extension.ComponentOrigin.TheVariants.{Definition, Extension}
use Rattle.apollo_component.specs.Extensions.{extension_id}
use Rattle.apollo_types.specs.declared.extended_type.ExtendedType.TheVariants.{Scalar, Object, Interface}
use Rattle.apollo_types.specs.declared.extended_type.ExtendedType.TheVariants.{Union, Enum, InputObject}
use Rattle.apollo_types.specs.declared.extended_type.ExtendedType.{ExtendedType}
use Rattle.apollo_types.specs.declared.scalar_type.ScalarType.{ScalarType}
use Rattle.apollo_types.specs.declared.object_type.ObjectType.{ObjectType}
use Rattle.apollo_types.specs.declared.interface_type.InterfaceType.{InterfaceType}
use Rattle.apollo_types.specs.declared.union_type.UnionType.{UnionType}
use Rattle.apollo_types.specs.declared.enum_type.EnumType.{EnumType}
use Rattle.apollo_types.specs.declared.input_object_type.InputObjectType.{InputObjectType}
use Rattle.apollo_meaning.specs.Items.Parts.{TypePart, key_of}
use Rattle.apollo_meaning.specs.Items.ListItems.{ListItem, Folding, OfType, OfSchema}
use Rattle.apollo_meaning.specs.Items.Named.{first, definitions}
use Rattle.apollo_meaning.specs.Types.Components.{Sourced, sourced_directives, names_of, fields_of, values_of}
use Rattle.apollo_meaning.specs.Types.Components.{input_fields_of, distinct_names, distinct_entries}

-- the names that are defined, as their first definitions write them, in the order of those
abbrev pub type_names : List ListItem → List NameView
type_names xs = map (λ e. e.1.name) (first_of_each (same_key same) (definitions xs))

-- an extension with its number, and the origin of its components
abbrev pub extension_part : ℕ × TypePart → Sourced
extension_part e = (Extension (extension_id e.0 e.1.location), e.1)

-- the extensions of types among those that are folded, with their numbers
abbrev pub of_type : ℕ × Folding → Option (ℕ × TypePart)
of_type (i, OfType p) = Some (i, p)
of_type (i, OfSchema s) = None

-- the folded extensions of a name, with their origins
abbrev pub extensions_with_origin : List ℕ → ℕ → List Folding → List Sourced
extensions_with_origin n start folded =
    map extension_part (filter (λ e. same n (key_of e.1)) (filter_map of_type (enumerate_from start folded)))

-- the parts of a name with this first definition, where these extensions are folded, in this order
abbrev pub parts : ℕ → List Folding → List ℕ → TypePart → List Sourced
parts start folded n d = (Definition, d) ∷ extensions_with_origin n start folded

-- the scalar type of these parts: directives joined
abbrev pub scalar_of : TypePart → List Sourced → ScalarType
scalar_of head parts = record {
  description = head.description;
  name = head.name;
  directives = record { 0 = flat_map sourced_directives parts };
}

-- the object type of these parts: directives joined, and of each name the first interface and field
abbrev pub object_of : TypePart → List Sourced → ObjectType
object_of head parts = record {
  description = head.description;
  name = head.name;
  implements_interfaces = distinct_names (flat_map names_of parts);
  directives = record { 0 = flat_map sourced_directives parts };
  fields = distinct_entries (flat_map fields_of parts);
}

-- the interface type of these parts: directives joined, and of each name the first interface and field
abbrev pub interface_of : TypePart → List Sourced → InterfaceType
interface_of head parts = record {
  description = head.description;
  name = head.name;
  implements_interfaces = distinct_names (flat_map names_of parts);
  directives = record { 0 = flat_map sourced_directives parts };
  fields = distinct_entries (flat_map fields_of parts);
}

-- the union type of these parts: directives joined, and of each name the first member
abbrev pub union_of : TypePart → List Sourced → UnionType
union_of head parts = record {
  description = head.description;
  name = head.name;
  directives = record { 0 = flat_map sourced_directives parts };
  members = distinct_names (flat_map names_of parts);
}

-- the enum type of these parts: directives joined, and of each name the first value
abbrev pub enum_of : TypePart → List Sourced → EnumType
enum_of head parts = record {
  description = head.description;
  name = head.name;
  directives = record { 0 = flat_map sourced_directives parts };
  values = distinct_entries (flat_map values_of parts);
}

-- the input object type of these parts: directives joined, and of each name the first field
abbrev pub input_object_of : TypePart → List Sourced → InputObjectType
input_object_of head parts = record {
  description = head.description;
  name = head.name;
  directives = record { 0 = flat_map sourced_directives parts };
  fields = distinct_entries (flat_map input_fields_of parts);
}

-- a value where a part stands
abbrev pub node_at : {T : Type 0} → TypePart → T → NodeView T
node_at head value = record { value = value; location = head.location }

-- the type that these parts make, of this kind, with the description, name and location of the head
abbrev pub type_of_kind : TypeKind → TypePart → List Sourced → ExtendedType
type_of_kind kinds.Scalar head parts = Scalar (node_at head (scalar_of head parts))
type_of_kind kinds.Object head parts = Object (node_at head (object_of head parts))
type_of_kind kinds.Interface head parts = Interface (node_at head (interface_of head parts))
type_of_kind kinds.Union head parts = Union (node_at head (union_of head parts))
type_of_kind kinds.Enum head parts = Enum (node_at head (enum_of head parts))
type_of_kind kinds.InputObject head parts = InputObject (node_at head (input_object_of head parts))

-- the type that these parts make, with the description, name and location of the head
abbrev pub type_from : TypePart → List Sourced → ExtendedType
type_from head parts = type_of_kind head.kind head parts

-- the type of a name, where these extensions are folded, in this order
abbrev pub type_of : ℕ → List Folding → List ListItem → List ℕ → Option ExtendedType
type_of start folded xs n = option_map (λ d. type_from d (parts start folded n d)) (first xs n)

-- these types are those of the list, where these extensions are folded, in this order: each under its name,
-- in the order of first definition
pub record AreTypesOf (start : ℕ) (folded : List Folding) (xs : List ListItem) (types : List (NameView
    × ExtendedType)) : Type 0 where
  -- the names that are defined, in order
  pub names : keys_of types ≡ type_names xs
  -- under each name the type that it means, and under each other text none
  pub each : (n : List ℕ) → lookup (by_text n) types ≡ type_of start folded xs n

-- extensions that are folded, each with its number
abbrev pub numbered : ℕ → List TypePart → List (ℕ × TypePart)
numbered start folded = enumerate_from start folded
