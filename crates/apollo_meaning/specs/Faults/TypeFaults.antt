-- What is wrong with the definitions and extensions of one type: GraphQL specification of October 2021,
-- sections 3.3 and 3.4.3, and the type validation of sections 3.5 to 3.10.
--
-- **Further definition.** `further_definition`: a definition of a type's name that isn't the first one.
-- If the first one is built-in, and the further one was added while further definitions of built-in
-- types were ignored: no fault, whatever its kind. Else, if the first one is built-in and the further
-- one is a scalar definition: `BuiltInScalarTypeRedefinition`, at the definition's node. Else:
-- `TypeDefinitionCollision`, at the definition's name, with the name and the location of the first
-- definition's name. The components of a further definition are not looked at. It is the first
-- definition's location that counts as built-in or not, never that of the further one.
--
-- **Kind mismatch.** `kind_mismatch`: an extension whose name has a first definition of another kind.
-- `TypeExtensionKindMismatch`, at the extension's name. It has that name, and the location of the first
-- definition's name. It has the texts of both kinds, as `an enum type extension` and `an object type`. The
-- components of the extension are not looked at.
--
-- **Orphan.** `orphan`: an extension whose name has no definition in the whole list.
-- `OrphanTypeExtension`, at the extension's name, with that name. With adoption there is none.
use Rattle.std.specs.Prelude.{List, [], ◌∷◌, ◌++◌, ◌&&◌, map, if◌then◌else◌, codes}
use Rattle.std.specs.List.{flat_map}
use Rattle.graphql_nodes.specs.NameView.{NameView}
use Rattle.graphql_nodes.specs.NodeView.{NodeView}
use Rattle.graphql_nodes.specs.BuiltIn.{is_built_in}
use Rattle.graphql_nodes.specs.KindTexts.{kind_text}
use Rattle.graphql_nodes.specs.declared.type_kind.TypeKind.{TypeKind}
use Rattle.graphql_ast.specs.Parts.{Sort, Names, Fields, Values, InputFields}
use Rattle.apollo_meaning.specs.Items.Parts.{TypePart, held_parts, kind_of, same_kind}
use Rattle.apollo_meaning.specs.Faults.Collisions.{Fault, Entry, collisions}
use Rattle.apollo_meaning.specs.Items.Named.{of_kind}
use Rattle.apollo_meaning.specs.declared.build_error.BuildError.TheVariants as errors
use Rattle.apollo_meaning.specs.declared.collision.Collection.{Collection}
use Rattle.apollo_meaning.specs.declared.collision.Collection.TheVariants as c
use Rattle.graphql_nodes.specs.declared.type_kind.TypeKind.TheVariants as kinds

-- the collections that definitions and extensions of a kind have, interfaces first
abbrev pub collections_of : TypeKind → List Collection
collections_of kinds.Scalar = []
collections_of kinds.Object = c.ObjectInterfaces ∷ c.ObjectFields ∷ []
collections_of kinds.Interface = c.InterfaceInterfaces ∷ c.InterfaceFields ∷ []
collections_of kinds.Union = c.UnionMembers ∷ []
collections_of kinds.Enum = c.EnumValues ∷ []
collections_of kinds.InputObject = c.InputFields ∷ []

-- the sort of parts that a collection holds
abbrev pub held_sort : Collection → Sort
held_sort c.ObjectInterfaces = Names
held_sort c.InterfaceInterfaces = Names
held_sort c.UnionMembers = Names
held_sort c.ObjectFields = Fields
held_sort c.InterfaceFields = Fields
held_sort c.EnumValues = Values
held_sort c.InputFields = InputFields

-- names, each with its location
abbrev pub name_entries : List NameView → List Entry
name_entries = map (λ n. (n, n.location))

-- nodes, each by its name and its location
abbrev pub named_entries : {A : Type 0} → (A → NameView) → List (NodeView A) → List Entry
named_entries name = map (λ n. (name n.value, n.location))

-- what a part of a type holds of a sort, each by its name and its location; directives and roots have none
abbrev pub entries_of : Sort → TypePart → List Entry
entries_of Names p = name_entries (held_parts p).names
entries_of Fields p = named_entries (λ f. f.name) (held_parts p).fields
entries_of Values p = named_entries (λ v. v.value) (held_parts p).values
entries_of InputFields p = named_entries (λ f. f.name) (held_parts p).input_fields
entries_of _ p = []

-- the names of what these parts hold of a sort, joined
abbrev pub names_in : Sort → List TypePart → List NameView
names_in s = flat_map (λ p. map (λ e. e.0) (entries_of s p))

-- the components that are dropped from a collection where a part joins these parts
abbrev pub dropped_from : List TypePart → TypePart → Collection → List Fault
dropped_from parts p c = collisions c p.name (names_in (held_sort c) parts) (entries_of (held_sort c) p)

-- components that are dropped, interfaces first, where a part joins these parts
abbrev pub part_faults : List TypePart → TypePart → List Fault
part_faults parts p = flat_map (dropped_from parts p) (collections_of p.kind)

-- the fault of an extension of another kind than its name's definition
abbrev pub kind_mismatch : TypePart → TypePart → Fault
kind_mismatch d e = (
  e.name.location,
  errors.TypeExtensionKindMismatch e.name (kind_text (kind_of e) ++ codes " extension") d.name.location
      (kind_text (kind_of d)),
)

-- what is wrong with an extension: it doesn't have the kind of this definition, or components are dropped
-- where it joins these parts
abbrev pub joining_fault : TypePart → List TypePart → TypePart → List Fault
joining_fault d parts e = if same_kind (kind_of d) (kind_of e) then part_faults parts e
    else kind_mismatch d e ∷ []

-- what is wrong with an extension of a name with this first definition, where these extensions of the name
-- stand before it
abbrev pub extension_faults : TypePart → List TypePart → TypePart → List Fault
extension_faults d before e = joining_fault d (d ∷ of_kind (kind_of d) before) e

-- the fault of a further definition of a name with this first one; a scalar of a built-in type's name has an
-- error of its own
abbrev pub further_type : TypePart → TypePart → Fault
further_type d e =
    if is_built_in d.location && same_kind kinds.Scalar (kind_of e)
    then (e.location, errors.BuiltInScalarTypeRedefinition)
    else (e.name.location, errors.TypeDefinitionCollision d.name.location e.name)

-- what is wrong with a further definition of a name with this first one: nothing if it is ignored
abbrev pub further_definition : TypePart → TypePart → List Fault
further_definition d e = if is_built_in d.location && e.ignorable then [] else further_type d e ∷ []

-- the fault of an extension of a name without a definition
abbrev pub orphan : TypePart → Fault
orphan e = (e.name.location, errors.OrphanTypeExtension e.name)
