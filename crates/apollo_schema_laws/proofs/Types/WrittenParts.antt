-- What a type is written out as, and types of a table, read as items of a list, and what that says of one
-- name.
use Rattle.apollo_schema_laws.proofs as laws
pub use laws.Words.{◌≡◌, Bool, List, [], ◌∷◌, None, Option, map, refl, ℕ, true, false, cond, ◌++◌, filter}
pub use laws.Words.{flat_map, sym, ap, subst, ◌∙◌, append_assoc, append-nil, map-append, filter-append}
pub use laws.Words.{AllByRecursion, list_any, option_map_or, map-map, arith, filter_map-unmade, NameView}
pub use laws.Words.{SourceSpan, TypeKind, type_definition, type_extension, Parts, is_built_in, same}
pub use laws.Words.{same_text, by_text, HasUniqueKeys, keys_of, values_of, lookup, extension_location}
pub use laws.Words.{by_origin, of_origin, identities, origins_in, ComponentOrigin, ExtensionId, PartsByOrigin}
pub use laws.Words.{type_kind, type_name, type_location, type_description, type_components, write_type}
pub use laws.Words.{ExtendedType, Scalar, Object, Interface, Defined, Extended, item_of, added, added_items}
pub use laws.Words.{ignorable_if, ListItem, TypePart, write_held_type, TypeNamed, in_sections, type_sections}
use laws.Words.{IsDistinct}
pub use laws.Words.{new_to_these, each-made, filter-alike}
pub use laws.Sections.{of_origin-sections, parts_in}
pub use laws.Items.{about, is_about, lookup-past, defined_names, defined_names-append}
use Rattle.graphql_ast.specs.declared.definition.Definition.{Definition}
pub use Rattle.graphql_ast.specs.Parts.{Sort, Directives, has, listed}
use Rattle.graphql_ast.specs.Parts.{of_type}
use Rattle.apollo_component.specs.declared.extension.ComponentOrigin.TheVariants as origins

-- the components of a type are those of its sections
pub components-sections : (t : ExtendedType) → type_components t ≡ in_sections (type_sections t)
components-sections (Object n) = simp (map-map, append_assoc, append-nil)
components-sections (Interface n) = simp (map-map, append_assoc, append-nil)
components-sections t = simp (map-map, append-nil)

-- parts are nothing but what definitions and extensions of a kind have
abbrev pub IsOfKind : TypeKind → Parts → Type 0
IsOfKind kind parts = of_type kind parts ≡ parts

sections-of_kind : (t : ExtendedType) (o : ComponentOrigin)
    → IsOfKind (type_kind t) (parts_in o (type_sections t))
sections-of_kind (Scalar n) o = refl
sections-of_kind t o = refl

-- so of a sort that the kind doesn't have they have nothing
pub of_kind-listed : (kind : TypeKind) (parts : Parts) → IsOfKind kind parts → (s : Sort)
    → cond (has kind s) (listed parts s) [] ≡ listed parts s
of_kind-listed kind parts own Directives = ap (λ d. listed d Directives) own
of_kind-listed kind parts own s = ap (λ d. listed d s) own

-- the part that a definition or extension of a type is
abbrev pub part_of : TypeKind → NameView → Option NameView → Option SourceSpan → Parts → TypePart
part_of kind name description location parts = record {
  kind = kind;
  name = name;
  location = location;
  description = description;
  parts = parts;
  ignorable = false;
}

-- of a definition, and of an extension, that is made of such parts
item-made : (kind : TypeKind) (name : NameView) (description : Option NameView) (location : Option SourceSpan)
    (parts : Parts) → IsOfKind kind parts
    → (item_of (type_definition kind description name parts location)
    ≡ Defined (part_of kind name description location parts))
    × (item_of (type_extension kind name parts location) ≡ Extended (part_of kind name None location parts))
item-made kind name description location parts own = (grind (arith, own), grind (arith, own))

module _ (t : ExtendedType) where
  -- the parts of its definition and of its extensions
  abbrev pub written : PartsByOrigin
  written = by_origin (type_components t)

  -- as parts of a list
  abbrev pub definition_part : TypePart
  definition_part = part_of (type_kind t) (type_name t) (type_description t) (type_location t)
      written.definition

  -- the definition, which may be ignored or not
  abbrev pub definition_as : Bool → TypePart
  definition_as b = record definition_part { ignorable = b }

  abbrev pub extension_of : ExtensionId × Parts → TypePart
  extension_of e = part_of (type_kind t) (type_name t) None (extension_location e.0) e.1

  -- what is of one origin, by sections, is of the type's kind
  pub of_sections : (o : ComponentOrigin) → of_origin o (type_components t) ≡ parts_in o (type_sections t)
  of_sections o = simp (components-sections, of_origin-sections)

  pub of_kind-origin : (o : ComponentOrigin) → IsOfKind (type_kind t) (of_origin o (type_components t))
  of_kind-origin o = subst (IsOfKind (type_kind t)) (sym (of_sections o)) (sections-of_kind t o)

  pub each-of_kind : AllByRecursion (λ e. IsOfKind (type_kind t) e.1) written.extensions
  each-of_kind = each-made _ _ (λ e. of_kind-origin (origins.Extension e)) _

  items-extensions : (b : Bool)
      → added_items (added b (map (λ e. type_extension (type_kind t) (type_name t) e.1 (extension_location
      e.0)) written.extensions)) ≡ map (λ e. Extended (extension_of e)) written.extensions
  items-extensions b = simp map-map
      (λ i. map (λ e. ignorable_if b ((item-made _ (type_name t) None (extension_location e) _
      (of_kind-origin (origins.Extension e))).1 i)) (identities (origins_in (type_components t))))

  items-written : (b : Bool)
      → added_items (added b (write_type t)) ≡ Defined (definition_as b)
      ∷ map (λ e. Extended (extension_of e)) written.extensions
  items-written b = λ i. ignorable_if b ((item-made _ (type_name t) (type_description t) (type_location t)
      written.definition (of_kind-origin origins.Definition)).0 i) ∷ items-extensions b i

-- the items of a document
abbrev pub document_items : Bool → List Definition → List ListItem
document_items ignores ds = added_items (added ignores ds)

pub document_items-append : (c : Bool) (xs ys : List Definition)
    → document_items c (xs ++ ys) ≡ document_items c xs ++ document_items c ys
document_items-append c xs ys = simp map-append

module _ (c : Bool) where
  -- a type's extensions, and its definition before them where that isn't a built-in one
  abbrev pub extension_items : ExtendedType → List ListItem
  extension_items t = map (λ e. Extended (extension_of t e)) (written t).extensions

  abbrev pub held_items : ExtendedType → List ListItem
  held_items t = cond (is_built_in (type_location t)) (extension_items t) (Defined (definition_as t c)
      ∷ extension_items t)

  items-held : (t : ExtendedType) → document_items c (write_held_type t) ≡ held_items t
  items-held t = grind (arith, items-extensions, items-written t c)

  pub items-types : (ts : List ExtendedType)
      → document_items c (flat_map write_held_type ts) ≡ flat_map held_items ts
  items-types [] = refl
  items-types (t ∷ ts) = document_items-append c _ _ ∙ (λ i. items-held t i ++ items-types ts i)

  module _ (n : List ℕ) where
    -- the items of a type are about its name
    each-held : (t : ExtendedType)
        → AllByRecursion (λ x. is_about (TypeNamed n) x ≡ same n (type_name t).text) (held_items t)
    each-held t =
        let extensions = each-made _ _ (λ e. refl) (written t).extensions in
        elim (is_built_in (type_location t)) as (λ b. AllByRecursion (λ x. is_about (TypeNamed n) x
        ≡ same n (type_name t).text) (cond b (extension_items t) (Defined (definition_as t c)
        ∷ extension_items t))) [ true ↦ extensions | false ↦ (refl, extensions) ]

    -- so a table of types says of a name what its type does
    pub about-types : (es : List (NameView × ExtendedType)) → HasUniqueKeys same_text es
        → AllByRecursion (λ e. type_name e.1 ≡ e.0) es
        → about (TypeNamed n) (flat_map held_items (values_of es))
        ≡ option_map_or held_items (lookup (by_text n) es) []
    unfolding IsDistinct
    about-types [] d named = refl
    about-types (e ∷ es) d named = grind (
      arith,
      filter-append (is_about (TypeNamed n)) (held_items e.1) (flat_map held_items (values_of es)),
      filter-alike _ _ _ (each-held e.1),
      named.0,
      about-types es d.1 named.1,
      lookup-past n e es d,
      append-nil,
    )

  -- and defines the types that aren't built in
  defines-held : (t : ExtendedType)
      → defined_names (held_items t) ≡ cond (is_built_in (type_location t)) [] (type_name t ∷ [])
  defines-held t = grind (arith, filter_map-unmade)

  pub defines-types : (known : List NameView) (es : List (NameView × ExtendedType))
      → AllByRecursion (λ e. type_name e.1 ≡ e.0) es
      → AllByRecursion (λ e. is_built_in (type_location e.1) ≡ list_any (same_text e.0) known) es
      → defined_names (flat_map held_items (values_of es)) ≡ filter (new_to_these same_text known)
      (keys_of es)
  defines-types known [] named marked = refl
  defines-types known (e ∷ es) named marked = grind (
    arith,
    defined_names-append (held_items e.1) (flat_map held_items (values_of es)),
    defines-held e.1,
    marked.0,
    named.0,
    defines-types known es named.1 marked.1,
  )
