-- What types and the schema's definition are written out as: the identities of their extensions, and what is
-- of one origin. GraphQL specification of October 2021, sections 3.3 and 3.4.3.
--
-- **Identities of a type.** The identities of a type are the distinct ones among its *origins*, in order
-- of first appearance. Of equal identities the first gives the location.
--
-- **Components of one origin.** The components of one origin (`of_origin`) are exactly those of that
-- origin, each sort in the type's own order.
use Rattle.std.specs.Prelude.{List, [], ◌∷◌, ◌++◌, map, filter, Bool, Option, if◌then◌else◌}
use Rattle.std.specs.List.{filter_map}
use Rattle.graphql_nodes.specs.NameView.{NameView}
use Rattle.graphql_nodes.specs.NodeView.{NodeView}
use Rattle.graphql_nodes.specs.declared.source.SourceSpan.{SourceSpan}
use Rattle.graphql_nodes.specs.declared.type_kind.TypeKind.{TypeKind}
use Rattle.graphql_ast.specs.Declarations.{type_definition, type_extension, schema_definition}
use Rattle.graphql_ast.specs.Declarations.{schema_extension}
use Rattle.graphql_ast.specs.Parts.{parts_of}
use Rattle.graphql_ast.specs.declared.definition.Definition.{Definition}
use Rattle.graphql_ast.specs.declared.parts.Part.{Part}
use Rattle.graphql_ast.specs.declared.parts.Parts.{Parts}
use Rattle.apollo_component.specs.Extensions.{id_of, extension_location, same_id, same_origin}
use Rattle.apollo_component.specs.FirstOfEach.{first_of_each}
use Rattle.graphql_ast.specs.declared.parts.Part.TheVariants as p
use Rattle.apollo_component.specs.declared.component.Component.{Component}
use Rattle.apollo_component.specs.declared.component.ComponentName.{ComponentName}
use Rattle.apollo_component.specs.declared.extension.ComponentOrigin.{ComponentOrigin}
use Rattle.apollo_component.specs.declared.extension.ComponentOrigin.TheVariants as origins
use Rattle.apollo_component.specs.declared.extension.ExtensionId.{ExtensionId}
use Rattle.apollo_component.specs.declared.parts_by_origin.PartsByOrigin.{PartsByOrigin}

-- a component: the definition or extension that it comes from, and what it is there
abbrev pub SourcedPart : Type 0
SourcedPart = ComponentOrigin × Part

-- a component, where nodes of this sort are that part
abbrev pub sourced : {A : Type 0} → (NodeView A → Part) → Component A → SourcedPart
sourced part c = (c.origin, part c.node)

-- a name that a type lists, an interface or a union member, as a component
abbrev pub sourced_name : ComponentName → SourcedPart
sourced_name c = (c.origin, p.Name c.name)

-- the origins of components, in order
abbrev pub origins_in : List SourcedPart → List ComponentOrigin
origins_in = map (λ c. c.0)

-- the distinct identities of extensions among these origins, by first appearance
abbrev pub identities : List ComponentOrigin → List ExtensionId
identities os = first_of_each same_id (filter_map id_of os)

-- the parts of one origin
abbrev pub of_origin : ComponentOrigin → List SourcedPart → Parts
of_origin origin cs = parts_of (map (λ c. c.1) (filter (λ c. same_origin origin c.0) cs))

-- the identities of the extensions that these come from, each with its parts
abbrev pub of_extensions : List SourcedPart → List (ExtensionId × Parts)
of_extensions cs = map (λ e. (e, of_origin (origins.Extension e) cs)) (identities (origins_in cs))

-- the parts of the definition, and those of each extension
abbrev pub by_origin : List SourcedPart → PartsByOrigin
by_origin cs = record { definition = of_origin origins.Definition cs; extensions = of_extensions cs }

-- the definition of a type, at this location, then its extensions, each where it stands
abbrev pub written_type : TypeKind → Option NameView → NameView → PartsByOrigin → Option SourceSpan
    → List Definition
written_type kind description name parts location =
    type_definition kind description name parts.definition location
    ∷ map (λ e. type_extension kind name e.1 (extension_location e.0)) parts.extensions

-- the definition of the schema, at this location, if it is written, then its extensions, each where it stands
abbrev pub written_schema : Bool → Option NameView → PartsByOrigin → Option SourceSpan → List Definition
written_schema is_written description parts location =
    (if is_written then schema_definition description parts.definition location ∷ [] else [])
    ++ map (λ e. schema_extension e.1 (extension_location e.0)) parts.extensions
