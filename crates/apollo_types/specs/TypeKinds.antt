-- A type as one of each kind, and what its kind allows: GraphQL specification of October 2021, sections 3.4
-- and 3.4.2.
use Rattle.std.specs.Prelude.{Option, None, Some, is_some, Bool, not, ◌||◌}
use Rattle.apollo_types.specs.declared.scalar_type.ScalarType.{ScalarType}
use Rattle.apollo_types.specs.declared.object_type.ObjectType.{ObjectType}
use Rattle.apollo_types.specs.declared.interface_type.InterfaceType.{InterfaceType}
use Rattle.apollo_types.specs.declared.union_type.UnionType.{UnionType}
use Rattle.apollo_types.specs.declared.enum_type.EnumType.{EnumType}
use Rattle.apollo_types.specs.declared.input_object_type.InputObjectType.{InputObjectType}
use Rattle.apollo_types.specs.declared.extended_type.ExtendedType.{ExtendedType}
use Rattle.apollo_types.specs.declared.extended_type.ExtendedType.TheVariants.{Scalar, Object, Interface}
use Rattle.apollo_types.specs.declared.extended_type.ExtendedType.TheVariants.{Union, Enum, InputObject}

-- the type, if it is a scalar type
abbrev pub as_scalar : ExtendedType → Option ScalarType
as_scalar (Scalar n) = Some n.value
as_scalar _ = None

-- the type, if it is an object type
abbrev pub as_object : ExtendedType → Option ObjectType
as_object (Object n) = Some n.value
as_object _ = None

-- the type, if it is an interface type
abbrev pub as_interface : ExtendedType → Option InterfaceType
as_interface (Interface n) = Some n.value
as_interface _ = None

-- the type, if it is a union type
abbrev pub as_union : ExtendedType → Option UnionType
as_union (Union n) = Some n.value
as_union _ = None

-- the type, if it is an enum type
abbrev pub as_enum : ExtendedType → Option EnumType
as_enum (Enum n) = Some n.value
as_enum _ = None

-- the type, if it is an input object type
abbrev pub as_input_object : ExtendedType → Option InputObjectType
as_input_object (InputObject n) = Some n.value
as_input_object _ = None

-- it is a scalar type
abbrev pub is_scalar : ExtendedType → Bool
is_scalar t = is_some (as_scalar t)

-- it is an object type
abbrev pub is_object : ExtendedType → Bool
is_object t = is_some (as_object t)

-- it is an interface type
abbrev pub is_interface : ExtendedType → Bool
is_interface t = is_some (as_interface t)

-- it is a union type
abbrev pub is_union : ExtendedType → Bool
is_union t = is_some (as_union t)

-- it is an enum type
abbrev pub is_enum : ExtendedType → Bool
is_enum t = is_some (as_enum t)

-- it is an input object type
abbrev pub is_input_object : ExtendedType → Bool
is_input_object t = is_some (as_input_object t)

-- it is a scalar or enum type
abbrev pub is_leaf : ExtendedType → Bool
is_leaf t = is_scalar t || is_enum t

-- it is an object, interface or union type: selections are from such a type
abbrev pub is_composite : ExtendedType → Bool
is_composite t = is_object t || is_interface t || is_union t

-- it can be the type of an input: it is a scalar, enum or input object type
abbrev pub is_input_type : ExtendedType → Bool
is_input_type t = is_scalar t || is_enum t || is_input_object t

-- it can be the type of an output: it is a scalar, object, interface, union or enum type
abbrev pub is_output_type : ExtendedType → Bool
is_output_type t = not (is_input_object t)
