-- What a type reference names: GraphQL specification of October 2021, section 2.11.
use Rattle.std.specs.Prelude.{Bool, true, false, not}
use Rattle.graphql_nodes.specs.NameView.{NameView}
use Rattle.graphql_ast.specs.declared.type_reference.Type.{«Type» as TypeReference, NonNullNamed, NonNullList}
use Rattle.graphql_ast.specs.declared.type_reference.Type.{Named, «List» as ListOf, fold-Type, out-Type}
use Rattle.graphql_ast.specs.declared.type_reference.Type.TheOpen.{Type-F}

-- the name at one level, where what is inside a list has given its own
abbrev pub inner_step : Type-F NameView → NameView
inner_step (Type-F.Named n) = n
inner_step (Type-F.NonNullNamed n) = n
inner_step (Type-F.List n) = n
inner_step (Type-F.NonNullList n) = n

-- the name inside all lists
abbrev pub inner_name : TypeReference → NameView
inner_name = fold-Type NameView inner_step

-- whether the outermost level of a type is non-null
abbrev pub required_step : Type-F TypeReference → Bool
required_step (Type-F.Named n) = false
required_step (Type-F.NonNullNamed n) = true
required_step (Type-F.List n) = false
required_step (Type-F.NonNullList n) = true

-- null is no value of the type
abbrev pub is_required : TypeReference → Bool
is_required t = required_step (out-Type t)

-- the type with its outermost level non-null
abbrev pub non_null_step : Type-F TypeReference → TypeReference
non_null_step (Type-F.Named n) = NonNullNamed n
non_null_step (Type-F.NonNullNamed n) = NonNullNamed n
non_null_step (Type-F.List n) = NonNullList n
non_null_step (Type-F.NonNullList n) = NonNullList n

-- the type, but that null is no value of it
abbrev pub made_non_null : TypeReference → TypeReference
made_non_null t = non_null_step (out-Type t)

-- the type with its outermost level nullable
abbrev pub nullable_step : Type-F TypeReference → TypeReference
nullable_step (Type-F.Named n) = Named n
nullable_step (Type-F.NonNullNamed n) = Named n
nullable_step (Type-F.List t) = ListOf t
nullable_step (Type-F.NonNullList t) = ListOf t

-- the type, and null is a value of it
abbrev pub made_nullable : TypeReference → TypeReference
made_nullable t = nullable_step (out-Type t)

-- whether the outermost level of a type is a list
abbrev pub list_step : Type-F TypeReference → Bool
list_step (Type-F.Named n) = false
list_step (Type-F.NonNullNamed n) = false
list_step (Type-F.List t) = true
list_step (Type-F.NonNullList t) = true

-- the type is one of lists, non-null or not
abbrev pub is_list : TypeReference → Bool
is_list t = list_step (out-Type t)

-- the type is a name, non-null or not
abbrev pub is_named : TypeReference → Bool
is_named t = not (is_list t)

-- what is inside the outermost level of a type, if that is a list, else the type
abbrev pub item_step : Type-F TypeReference → TypeReference
item_step (Type-F.Named n) = Named n
item_step (Type-F.NonNullNamed n) = NonNullNamed n
item_step (Type-F.List t) = t
item_step (Type-F.NonNullList t) = t

-- the type of the items of a list type, else the type itself
abbrev pub item_type : TypeReference → TypeReference
item_type t = item_step (out-Type t)
