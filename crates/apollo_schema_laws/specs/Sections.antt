-- The components of a type or of the schema's definition, sort by sort, and those that parts under their
-- origins make: GraphQL specification of October 2021, sections 3.3, 3.4.3 and 3.5 to 3.10.
use Rattle.std.specs.Prelude.{◌≡◌, List, ◌∷◌, map}
use Rattle.std.specs.List.{IsDistinct, flat_map}
use Rattle.std.specs.List.Sorted.{IsPermutation}
use Rattle.graphql_nodes.specs.NodeView.{NodeView}
use Rattle.graphql_ast.specs.Parts.{Sort, Directives, Item, listed, part_of, sorts}
use Rattle.graphql_ast.specs.declared.parts.Part.{Part}
use Rattle.graphql_ast.specs.declared.parts.Parts.{Parts}
use Rattle.graphql_ast.specs.declared.directive.Directive.{Directive}
use Rattle.apollo_component.specs.Extensions.{same_id}
use Rattle.apollo_component.specs.WriteOut.{SourcedPart, by_origin}
use Rattle.apollo_component.specs.declared.extension.ComponentOrigin.{ComponentOrigin}
use Rattle.apollo_component.specs.declared.extension.ComponentOrigin.TheVariants.{Definition, Extension}
use Rattle.apollo_component.specs.declared.parts_by_origin.PartsByOrigin.{PartsByOrigin}

-- the components of each sort, in order
abbrev pub Sections : Type 0
Sections = (s : Sort) → List (ComponentOrigin × Item s)

-- components of one sort
abbrev pub as_parts : {X : Type 0} → (X → Part) → List (ComponentOrigin × X) → List SourcedPart
as_parts part = map (λ x. (x.0, part x.1))

-- all components, sort by sort
abbrev pub in_sections : Sections → List SourcedPart
in_sections sections = flat_map (λ s. as_parts (part_of s) (sections s)) sorts

-- the definition's parts and those of each extension, with their origins
abbrev pub with_origins : PartsByOrigin → List (ComponentOrigin × Parts)
with_origins p = (Definition, p.definition) ∷ map (λ e. (Extension e.0, e.1)) p.extensions

-- what these have of one sort, joined
abbrev pub joined : {X : Type 0} → (Parts → List X) → List (ComponentOrigin × Parts)
    → List (ComponentOrigin × X)
joined sort = flat_map (λ g. map (λ x. (g.0, x)) (sort g.1))

-- the components that parts under their origins make
abbrev pub sections_of : PartsByOrigin → Sections
sections_of p = λ s. joined (λ d. listed d s) (with_origins p)

-- the directives without their origins
abbrev pub section_directives : Sections → List (NodeView Directive)
section_directives sections = map (λ d. d.1) (sections Directives)

-- the definition has what the components of that make
abbrev pub HasDefinitionOf : Sections → PartsByOrigin → Type 0
HasDefinitionOf s p = p.definition ≡ (by_origin (in_sections s)).definition

-- the extensions have, in order, what the components of extensions make, whatever identities they have
abbrev pub HasExtensionsOf : Sections → PartsByOrigin → Type 0
HasExtensionsOf s p = map (λ e. e.1) p.extensions ≡ map (λ e. e.1) (by_origin (in_sections s)).extensions

-- no two extensions have one identity
abbrev pub HasDistinctIdentities : PartsByOrigin → Type 0
HasDistinctIdentities p = IsDistinct same_id (map (λ e. e.0) p.extensions)

-- the same components but for their origins, those of each sort in any order
abbrev pub HasSameComponents : Sections → Sections → Type 0
HasSameComponents a b = (s : Sort) → IsPermutation (map (λ x. x.1) (a s)) (map (λ x. x.1) (b s))
