-- The components of types, sort by sort, and types that have what another is written out as: GraphQL
-- specification of October 2021, sections 3.4.3 and 3.5 to 3.10.
use Rattle.std.specs.Prelude.{◌≡◌, Bool, true, false, List, [], map, Option}
use Rattle.std.specs.List.{IsDistinct}
use Rattle.graphql_nodes.specs.NameView.{NameView}
use Rattle.graphql_nodes.specs.NodeView.{NodeView}
use Rattle.graphql_nodes.specs.SameText.{same_text}
use Rattle.graphql_nodes.specs.Tables.{values_of}
use Rattle.graphql_nodes.specs.declared.source.SourceSpan.{SourceSpan}
use Rattle.graphql_ast.specs.Parts.{Sort, Directives, Names, Fields, Values, InputFields, Roots, Item}
use Rattle.graphql_ast.specs.declared.parts.Parts.{Parts}
use Rattle.apollo_component.specs.Extensions.{extension_location, same_id}
use Rattle.apollo_component.specs.WriteOut.{by_origin}
use Rattle.apollo_component.specs.declared.component.Component.{Component}
use Rattle.apollo_component.specs.declared.component.ComponentName.{ComponentName}
use Rattle.apollo_component.specs.declared.extension.ComponentOrigin.{ComponentOrigin}
use Rattle.apollo_component.specs.declared.extension.ExtensionId.{ExtensionId}
use Rattle.apollo_component.specs.declared.parts_by_origin.PartsByOrigin.{PartsByOrigin}
use Rattle.apollo_types.specs.TypeWriteOut.{type_kind, type_name, type_location, type_description}
use Rattle.apollo_types.specs.TypeWriteOut.{type_components, type_directives}
use Rattle.apollo_types.specs.declared.extended_type.ExtendedType.{ExtendedType}
use Rattle.apollo_types.specs.declared.extended_type.ExtendedType.TheVariants.{Object, Interface, Union}
use Rattle.apollo_types.specs.declared.extended_type.ExtendedType.TheVariants.{Enum, InputObject}
use Rattle.apollo_schema_laws.specs.Sections.{Sections, sections_of}

-- a component's node, with its origin
abbrev pub node_with_origin : {T : Type 0} → Component T → ComponentOrigin × NodeView T
node_with_origin c = (c.origin, c.node)

-- an interface or union member, with its origin
abbrev pub name_with_origin : ComponentName → ComponentOrigin × NameView
name_with_origin c = (c.origin, c.name)

-- the components of a type, sort by sort
abbrev pub type_sections : ExtendedType → Sections
type_sections t Directives = map node_with_origin (type_directives t).0
type_sections (Object n) Names = map name_with_origin n.value.implements_interfaces
type_sections (Object n) Fields = map node_with_origin (values_of n.value.fields)
type_sections (Interface n) Names = map name_with_origin n.value.implements_interfaces
type_sections (Interface n) Fields = map node_with_origin (values_of n.value.fields)
type_sections (Union n) Names = map name_with_origin n.value.members
type_sections (Enum n) Values = map node_with_origin (values_of n.value.values)
type_sections (InputObject n) InputFields = map node_with_origin (values_of n.value.fields)
type_sections _ _ = []

-- the parts of extensions, each where it stands
abbrev pub placed : List (ExtensionId × Parts) → List (Option SourceSpan × Parts)
placed = map (λ e. (extension_location e.0, e.1))

-- type u has what type t is written out as: its definition's parts and those of its extensions, where these
-- stand, under any distinct numbers
pub record HasWhatIsWritten (t u : ExtendedType) : Type 0 where
  pub kind : type_kind u ≡ type_kind t
  pub description : type_description u ≡ type_description t
  pub name : type_name u ≡ type_name t
  pub location : type_location u ≡ type_location t
  -- the parts of its own definition and of its extensions
  pub parts : PartsByOrigin
  -- those of the definition are what is written as the definition
  pub definition : parts.definition ≡ (by_origin (type_components t)).definition
  -- those of the extensions are what is written as extensions, where these stand
  pub extensions : placed parts.extensions ≡ placed (by_origin (type_components t)).extensions
  -- no two extensions have one number
  pub distinct : IsDistinct same_id (map (λ e. e.0) parts.extensions)
  -- it has these parts and nothing else
  pub sections : type_sections u ≡ sections_of parts

-- the name of one of a sort
abbrev pub name_of : (s : Sort) → Item s → NameView
name_of Directives d = d.value.name
name_of Names n = n
name_of Fields f = f.value.name
name_of Values v = v.value.value
name_of InputFields f = f.value.name
name_of Roots r = r.value.1

-- whether a type has each name of a sort once: not of directives
abbrev pub is_keyed : Sort → Bool
is_keyed Directives = false
is_keyed Roots = false
is_keyed _ = true

-- no two of these have one name, if they are of such a sort
abbrev pub HaveDistinctNames : (s : Sort) → List (ComponentOrigin × Item s) → Type 0
HaveDistinctNames s xs = is_keyed s ≡ true → IsDistinct same_text (map (λ x. name_of s x.1) xs)

-- no two names, fields, enum values or input fields have one name
abbrev pub HasEachNameOnce : Sections → Type 0
HasEachNameOnce sections = (s : Sort) → HaveDistinctNames s (sections s)
