-- The types that implement interfaces, over the types of any schema value alone: GraphQL specification of
-- October 2021, sections 3.6 and 3.7.
--
-- **Implementers.** The implementers of a name (`implementers_of`) are the keys of the object types, and the
-- keys of the interface types, that declare it. They are in the order of the types, each once. The
-- **implementers map** has them under each name that some type declares, in the order of the first
-- declarations.
use Rattle.std.specs.Prelude.{Bool, false, ◌&&◌, ◌||◌, List, map, filter, Option, None, Some, IsSome}
use Rattle.std.specs.List.{flat_map}
use Rattle.graphql_nodes.specs.KeySets.{has_key}
use Rattle.graphql_nodes.specs.NameView.{NameView}
use Rattle.graphql_nodes.specs.SameText.{same_text}
use Rattle.graphql_nodes.specs.Tables.{lookup, keys_of}
use Rattle.apollo_component.specs.FirstOfEach.{first_of_each}
use Rattle.apollo_types.specs.TypeKinds.{as_interface, is_object, is_interface}
use Rattle.apollo_types.specs.declared.extended_type.ExtendedType.{ExtendedType}
use Rattle.apollo_schema.specs.Lookups.{Types, type_at, node_if, declared_interfaces, declares}
use Rattle.apollo_schema.specs.declared.implementers.Implementers.{Implementers}

-- the names of the interfaces that a type declares
abbrev pub names_declared : ExtendedType → List NameView
names_declared type = map (λ listed. listed.name) (declared_interfaces type)

-- the names of the interfaces that types declare, each where it stands first
abbrev pub interfaces_declared : Types → List NameView
interfaces_declared types = first_of_each same_text (flat_map (λ e. names_declared e.1) types)

-- the keys of the types of one kind that declare an interface, in order
abbrev pub declaring : (ExtendedType → Bool) → Types → NameView → List NameView
declaring kind types i = first_of_each same_text (keys_of (filter (λ e. kind e.1 && declares i e.1) types))

-- the object types and the interface types that declare an interface: no type does through another
abbrev pub implementers_of : Types → NameView → Implementers
implementers_of types i =
    record { objects = declaring is_object types i; interfaces = declaring is_interface types i }

-- under each name that is declared, the types that declare it
abbrev pub implementers_map : Types → List (NameView × Implementers)
implementers_map types = map (λ i. (i, implementers_of types i)) (interfaces_declared types)

-- the type of this name is an interface
abbrev pub IsInterface : Types → NameView → Type 0
IsInterface types i = IsSome (node_if as_interface (type_at types i))

-- whether a name is one of an interface's implementers
abbrev pub is_among : NameView → Option Implementers → Bool
is_among t None = false
is_among t (Some m) = has_key (same_text t) m.objects || has_key (same_text t) m.interfaces

-- whether the second name is one of the implementers of the interface of the first
abbrev pub is_implementer : Types → NameView → NameView → Bool
is_implementer types i t = is_among t (lookup (same_text i) (implementers_map types))
