-- Named components that a name before them keeps out: GraphQL specification of October 2021, sections 3.6 to
-- 3.10.
--
-- **Collision.** It may arise among interfaces, fields, members or values of a type (`collisions`). A
-- component is at fault if one of the same name is before it, in the same part or in an earlier one. The
-- parts are the first definition, which counts as the earliest wherever it stands, and then the extensions of
-- its kind, by place. The fault is at the component: for an interface or member at its name, for a field or
-- value at its node. It has the kept name: the first of this text, with its location. It has the type's name
-- as the definition or extension of the faulty component writes it.
--
-- | component | fault |
-- |---|---|
-- | interface of an object type | `DuplicateImplementsInterfaceInObject` |
-- | interface of an interface type | `DuplicateImplementsInterfaceInInterface` |
-- | field of an object type | `ObjectFieldNameCollision` |
-- | field of an interface type | `InterfaceFieldNameCollision` |
-- | value of an enum type | `EnumValueNameCollision` |
-- | member of a union type | `UnionMemberNameCollision` |
-- | field of an input object type | `InputFieldNameCollision` |
--
-- Directives that are applied again are kept, and are no fault here.
use Rattle.std.specs.Prelude.{Bool, List, [], ◌∷◌, ◌++◌, map, Option}
use Rattle.std.specs.Option.{option_map_or}
use Rattle.std.specs.List.{find}
use Rattle.graphql_nodes.specs.NameView.{NameView}
use Rattle.graphql_nodes.specs.SameText.{same_text}
use Rattle.graphql_nodes.specs.declared.source.SourceSpan.{SourceSpan}
use Rattle.apollo_component.specs.EachAfter.{each_after}
use Rattle.apollo_component.specs.FirstOfEach.{same_key, kept_for}
use Rattle.apollo_meaning.specs.declared.build_error.BuildError.{BuildError}
use Rattle.apollo_meaning.specs.declared.collision.Collection.{Collection}
use Rattle.apollo_meaning.specs.declared.collision.Collection.TheVariants.{ObjectInterfaces}
use Rattle.apollo_meaning.specs.declared.collision.Collection.TheVariants.{InterfaceInterfaces, ObjectFields}
use Rattle.apollo_meaning.specs.declared.collision.Collection.TheVariants.{InterfaceFields, EnumValues}
use Rattle.apollo_meaning.specs.declared.collision.Collection.TheVariants.{UnionMembers, InputFields}
use Rattle.apollo_meaning.specs.declared.build_error.BuildError.TheVariants as errors

-- a fault, and the location that it is about
abbrev pub Fault : Type 0
Fault = Option SourceSpan × BuildError

-- what is wrong with a second component of a name in a collection. It has the name that is kept, and the name
-- of the type where the second one stands
abbrev pub collision : Collection → NameView → NameView → BuildError
collision ObjectInterfaces kept ty = errors.DuplicateImplementsInterfaceInObject kept ty
collision InterfaceInterfaces kept ty = errors.DuplicateImplementsInterfaceInInterface kept ty
collision ObjectFields kept ty = errors.ObjectFieldNameCollision kept ty
collision InterfaceFields kept ty = errors.InterfaceFieldNameCollision kept ty
collision EnumValues kept ty = errors.EnumValueNameCollision kept ty
collision UnionMembers kept ty = errors.UnionMemberNameCollision kept ty
collision InputFields kept ty = errors.InputFieldNameCollision kept ty

-- a component's name, and the location of the component
abbrev pub Entry : Type 0
Entry = NameView × Option SourceSpan

-- the fault of a component with these names before it: one if its name is among them, at the component
abbrev pub collision_at : Collection → NameView → List NameView → Entry → List Fault
collision_at c ty before e =
    option_map_or (λ kept. (e.1, collision c kept ty) ∷ []) (find (same_text e.0) before) []

-- the faults of components with these names before them, in order
abbrev pub collisions : Collection → NameView → List NameView → List Entry → List Fault
collisions c ty before = each_after (λ done. collision_at c ty (before ++ map (λ e. e.0) done)) []

-- components are the same by the texts of their names
abbrev pub same_name : Entry → Entry → Bool
same_name = same_key same_text

-- the fault of a component that is dropped where these are kept: at the component, with the name of the kept
-- one
abbrev pub dropped_component : Collection → NameView → List Entry → Entry → Fault
dropped_component c ty kept e = (e.1, collision c (kept_for same_name kept e).0 ty)
