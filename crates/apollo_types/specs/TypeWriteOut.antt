-- What types are written out as: GraphQL specification of October 2021, sections 3.4.3 and 3.5 to 3.10.
--
-- **Write-out of a type.** First comes its definition, at the given location, with the type's description and
-- name and the components of the origin "definition". Then, for each identity in order, comes an extension at
-- that identity's location. It has the type's name and the components of that identity. The definition is
-- written even where it holds nothing. An extension of which no component is left is not written.
use Rattle.std.specs.Prelude.{List, ◌++◌, map, Option}
use Rattle.std.specs.Option.{option_copied}
use Rattle.graphql_nodes.specs.NameView.{NameView}
use Rattle.graphql_nodes.specs.Tables.{values_of}
use Rattle.graphql_nodes.specs.declared.source.SourceSpan.{SourceSpan}
use Rattle.graphql_nodes.specs.declared.type_kind.TypeKind.{TypeKind}
use Rattle.graphql_nodes.specs.declared.type_kind.TypeKind.TheVariants as kinds
use Rattle.graphql_ast.specs.declared.definition.Definition.{Definition}
use Rattle.apollo_component.specs.WriteOut.{SourcedPart, by_origin, written_type}
use Rattle.apollo_component.specs.declared.directive_list.DirectiveList.{DirectiveList}
use Rattle.apollo_types.specs.Components.{of_directive, of_name, of_field, of_value, of_input_field}
use Rattle.apollo_types.specs.declared.scalar_type.ScalarType.{ScalarType}
use Rattle.apollo_types.specs.declared.object_type.ObjectType.{ObjectType}
use Rattle.apollo_types.specs.declared.interface_type.InterfaceType.{InterfaceType}
use Rattle.apollo_types.specs.declared.union_type.UnionType.{UnionType}
use Rattle.apollo_types.specs.declared.enum_type.EnumType.{EnumType}
use Rattle.apollo_types.specs.declared.input_object_type.InputObjectType.{InputObjectType}
use Rattle.apollo_types.specs.declared.extended_type.ExtendedType.{ExtendedType}
use Rattle.apollo_types.specs.declared.extended_type.ExtendedType.TheVariants.{Scalar, Object, Interface}
use Rattle.apollo_types.specs.declared.extended_type.ExtendedType.TheVariants.{Union, Enum, InputObject}
use Rattle.apollo_types.specs.declared.write_out.Head.{Head}

-- the kind of a type
abbrev pub type_kind : ExtendedType → TypeKind
type_kind (Scalar n) = kinds.Scalar
type_kind (Object n) = kinds.Object
type_kind (Interface n) = kinds.Interface
type_kind (Union n) = kinds.Union
type_kind (Enum n) = kinds.Enum
type_kind (InputObject n) = kinds.InputObject

-- the name of a type
abbrev pub type_name : ExtendedType → NameView
type_name (Scalar n) = n.value.name
type_name (Object n) = n.value.name
type_name (Interface n) = n.value.name
type_name (Union n) = n.value.name
type_name (Enum n) = n.value.name
type_name (InputObject n) = n.value.name

-- where a type stands
abbrev pub type_location : ExtendedType → Option SourceSpan
type_location (Scalar n) = n.location
type_location (Object n) = n.location
type_location (Interface n) = n.location
type_location (Union n) = n.location
type_location (Enum n) = n.location
type_location (InputObject n) = n.location

-- the description of a type, if it has one
abbrev pub type_description : ExtendedType → Option NameView
type_description (Scalar n) = n.value.description
type_description (Object n) = n.value.description
type_description (Interface n) = n.value.description
type_description (Union n) = n.value.description
type_description (Enum n) = n.value.description
type_description (InputObject n) = n.value.description

-- the directives of a type, each with its origin
abbrev pub type_directives : ExtendedType → DirectiveList
type_directives (Scalar n) = n.value.directives
type_directives (Object n) = n.value.directives
type_directives (Interface n) = n.value.directives
type_directives (Union n) = n.value.directives
type_directives (Enum n) = n.value.directives
type_directives (InputObject n) = n.value.directives

-- the components of a scalar type: directives
abbrev pub scalar_components : ScalarType → List SourcedPart
scalar_components t = map of_directive t.directives.0

-- the components of an object type: directives, interfaces, fields
abbrev pub object_components : ObjectType → List SourcedPart
object_components t = (map of_directive t.directives.0 ++ map of_name t.implements_interfaces)
    ++ map of_field (values_of t.fields)

-- the components of an interface type: directives, interfaces, fields
abbrev pub interface_components : InterfaceType → List SourcedPart
interface_components t = (map of_directive t.directives.0 ++ map of_name t.implements_interfaces)
    ++ map of_field (values_of t.fields)

-- the components of a union type: directives, members
abbrev pub union_components : UnionType → List SourcedPart
union_components t = map of_directive t.directives.0 ++ map of_name t.members

-- the components of an enum type: directives, values
abbrev pub enum_components : EnumType → List SourcedPart
enum_components t = map of_directive t.directives.0 ++ map of_value (values_of t.values)

-- the components of an input object type: directives, fields
abbrev pub input_object_components : InputObjectType → List SourcedPart
input_object_components t = map of_directive t.directives.0 ++ map of_input_field (values_of t.fields)

-- the components of a type of any kind
abbrev pub type_components : ExtendedType → List SourcedPart
type_components (Scalar n) = scalar_components n.value
type_components (Object n) = object_components n.value
type_components (Interface n) = interface_components n.value
type_components (Union n) = union_components n.value
type_components (Enum n) = enum_components n.value
type_components (InputObject n) = input_object_components n.value

-- a type with this head and these components: its definition, at this location, then an extension for each
-- identity
abbrev pub headed_type : Head → List SourcedPart → Option SourceSpan → List Definition
headed_type head components location =
    written_type head.kind (option_copied head.description) head.name.now (by_origin components) location

-- the definition of a type of any kind, where the type stands, then its extensions
abbrev pub write_type : ExtendedType → List Definition
write_type t =
    written_type (type_kind t) (type_description t) (type_name t) (by_origin (type_components t))
    (type_location t)
