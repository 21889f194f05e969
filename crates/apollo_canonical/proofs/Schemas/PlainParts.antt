-- Plain components are put under their origins as plain parts, and written out as what the components are
-- written out as, without locations.
use Rattle.apollo_canonical.proofs as canonical
use canonical.Prelude.{ComponentOrigin, Declaration, Definition, Directives, ExtensionId, Fields, InputFields}
use canonical.Prelude.{Item, List, NameView, Names, None, OfDirective, OfFragment, OfOperation, Option, Part}
use canonical.Prelude.{Parts, PartsByOrigin, Roots, Sort, SourceSpan, SourcedPart, TypeKind, Values, [], ap}
use canonical.Prelude.{arith, bare_definition, bare_item, bare_name, bare_parts, by_origin, declaration_of}
use canonical.Prelude.{extension_location, filter, filter-map, filter_map, first_of_each-map, id_of}
use canonical.Prelude.{identities, made, map, map-map, mark, of_extensions, of_origin, of_sort, option_map}
use canonical.Prelude.{origins_in, part_of, parts_of, refl, same_id, same_origin, type_definition}
use canonical.Prelude.{type_extension, with_lists, written_type, ◌∙◌, ◌∷◌, ◌≡◌}
use Rattle.graphql_ast.specs.Declarations.{OfSchema, OfType}
use Rattle.graphql_ast.specs.declared.parts.Part.TheVariants as p
use Rattle.apollo_component.specs.declared.extension.ComponentOrigin.TheVariants as origins

-- ---- components and their origins

-- the identity of an extension, and the origin of a component: its number stays
abbrev pub plain_id : ExtensionId → ExtensionId
plain_id e = record { number = e.number; location = mark e.location }

abbrev pub plain_origin : ComponentOrigin → ComponentOrigin
plain_origin origins.Definition = origins.Definition
plain_origin (origins.Extension e) = origins.Extension (plain_id e)

pub same-plain : (a b : ComponentOrigin) → same_origin (plain_origin a) (plain_origin b) ≡ same_origin a b
same-plain a b = grind arith

-- what a definition is made of
abbrev bare_of : (s : Sort) → Item s → Part
bare_of s x = part_of s (bare_item s x)

abbrev pub bare_part : Part → Part
bare_part (p.Directive x) = bare_of Directives x
bare_part (p.Name x) = bare_of Names x
bare_part (p.Field x) = bare_of Fields x
bare_part (p.EnumValue x) = bare_of Values x
bare_part (p.InputField x) = bare_of InputFields x
bare_part (p.Root x) = bare_of Roots x

-- a component with its origin
abbrev pub plain_part_of : SourcedPart → SourcedPart
plain_part_of c = (plain_origin c.0, bare_part c.1)

-- ---- parts under their origins

-- a part is of the sort that it was of
sort-bare : (s : Sort) (c : Part) → of_sort s (bare_part c) ≡ option_map (bare_item s) (of_sort s c)
sort-bare Directives (p.Directive x) = refl
sort-bare Names (p.Name x) = refl
sort-bare Fields (p.Field x) = refl
sort-bare Values (p.EnumValue x) = refl
sort-bare InputFields (p.InputField x) = refl
sort-bare Roots (p.Root x) = refl
sort-bare _ _ = refl

list-bare : (s : Sort) (cs : List SourcedPart)
    → filter_map (of_sort s) (map (λ c. c.1) (map plain_part_of cs))
    ≡ map (bare_item s) (filter_map (of_sort s) (map (λ c. c.1) cs))
list-bare s [] = refl
list-bare s (c ∷ cs) = grind (arith, sort-bare s c.1, list-bare s cs)

-- the parts of one origin
of_origin-plain : (o : ComponentOrigin) (cs : List SourcedPart)
    → of_origin (plain_origin o) (map plain_part_of cs) ≡ bare_parts (of_origin o cs)
of_origin-plain o cs = ap (λ l. parts_of (map (λ c. c.1) l)) (filter-map _ plain_part_of cs
    ∙ (λ i. map plain_part_of (filter (λ c. same-plain o c.0 i) cs)))
    ∙ (λ i. with_lists (λ s. list-bare s (filter (λ c. same_origin o c.0) cs) i))

-- the identities of extensions
ids-plain : (cs : List SourcedPart)
    → filter_map id_of (origins_in (map plain_part_of cs)) ≡ map plain_id (filter_map id_of (origins_in cs))
ids-plain [] = refl
ids-plain (c ∷ cs) = grind (arith, ids-plain cs)

pub identities-plain : (cs : List SourcedPart)
    → identities (origins_in (map plain_part_of cs)) ≡ map plain_id (identities (origins_in cs))
identities-plain cs = rw (ids-plain cs, first_of_each-map same_id plain_id _)

abbrev pub plain_by_origin : PartsByOrigin → PartsByOrigin
plain_by_origin p = record {
  definition = bare_parts p.definition;
  extensions = map (λ e. (plain_id e.0, bare_parts e.1)) p.extensions;
}

pub by_origin-plain : (cs : List SourcedPart)
    → by_origin (map plain_part_of cs) ≡ plain_by_origin (by_origin cs)
by_origin-plain cs = λ i.
    record { definition = of_origin-plain origins.Definition cs i; extensions = extensions i }
  where
    extensions : of_extensions (map plain_part_of cs) ≡ map (λ e. (plain_id e.0, bare_parts e.1))
        (of_extensions cs)
    extensions = ap (map (λ e. (e, of_origin (origins.Extension e) (map plain_part_of cs))))
        (identities-plain cs)
        ∙ simp map-map (λ i. map (λ e. (plain_id e, of_origin-plain (origins.Extension e) cs i))
        (identities (origins_in cs)))

-- ---- definitions

-- a definition without the location of its own
abbrev nowhere_declared : Declaration → Declaration
nowhere_declared (OfType t) = OfType (record t { location = None })
nowhere_declared (OfSchema s) = OfSchema (record s { location = None })
nowhere_declared (OfDirective n) = OfDirective (record n { location = None })
nowhere_declared (OfOperation n) = OfOperation (record n { location = None })
nowhere_declared (OfFragment n) = OfFragment (record n { location = None })

abbrev pub nowhere : Definition → Definition
nowhere x = made (nowhere_declared (declaration_of x))

-- what is made of plain parts is bare but for that
abbrev AgreesWith : (Parts → Option SourceSpan → Definition) → (Parts → Option SourceSpan → Definition)
    → Type 0
AgreesWith makes make = (ps : Parts) (at other : Option SourceSpan) → nowhere (makes (bare_parts ps) at)
    ≡ bare_definition (make ps other)

-- so with all extensions
pub extensions-plain : (make makes : Parts → Option SourceSpan → Definition) → AgreesWith makes make
    → (es : List (ExtensionId × Parts))
    → map nowhere (map (λ (e : ExtensionId × Parts). makes e.1 (extension_location e.0))
    (map (λ (e : ExtensionId × Parts). (plain_id e.0, bare_parts e.1)) es))
    ≡ map bare_definition (map (λ (e : ExtensionId × Parts). make e.1 (extension_location e.0)) es)
extensions-plain make makes agree es =
    simp map-map (λ i. map (λ e. agree e.1 (extension_location (plain_id e.0)) (extension_location e.0) i) es)

-- and with all that a type is written out as
pub type-written : (kind : TypeKind) (text : Option NameView) (name : NameView) (ps : PartsByOrigin)
    (at other : Option SourceSpan)
    → map nowhere (written_type kind (option_map bare_name text) (bare_name name) (plain_by_origin ps) at)
    ≡ map bare_definition (written_type kind text name ps other)
type-written kind text name ps at other = λ i. definition kind ps.definition at other i
    ∷ extensions-plain (type_extension kind name) (type_extension kind (bare_name name))
    (λ qs at other. grind arith) ps.extensions i
  where
    definition : (kind : TypeKind)
        → AgreesWith (type_definition kind (option_map bare_name text) (bare_name name))
        (type_definition kind text name)
    definition kind ps at other = grind arith
