-- The types that plain parts make have the components that the parts make, plain. They are written out as the
-- types that the parts make, without locations.
use Rattle.apollo_canonical.proofs as canonical
use canonical.Prelude.{Bool, ComponentOrigin, Definition, Directives, ExtendedType, Folding, Item, List}
use canonical.Prelude.{ListItem, None, Option, Parts, Some, Sort, SourceSpan, Sourced, SourcedPart, TypeKind}
use canonical.Prelude.{TypePart, [], ap, arith, bare_definition, bare_item, bare_parts, by_origin, cond, drop}
use canonical.Prelude.{extensions_with_origin, false, first, first-unplaced, first_of_each, flat_map}
use canonical.Prelude.{flat_map-map, folding_order, has, held_parts, is_built_in, is_object, listed, map}
use canonical.Prelude.{map-flat_map, map-map, mark-kept, of_type-bare, option_map, part_of, parts, refl}
use canonical.Prelude.{same_text, sorts, sym, true, type_components, type_from, type_of, type_of_kind}
use canonical.Prelude.{write_held_type, written_type, ℕ, ◌+◌, ◌∙◌, ◌∷◌, ◌≡◌}
use canonical.Schemas.Plain.{folding_order-plain, plain_folding, plain_list, plain_part}
use canonical.Schemas.PlainParts.{bare_part, by_origin-plain, nowhere, plain_origin, plain_part_of}
use canonical.Schemas.PlainParts.{type-written}
use Rattle.apollo_component.specs.declared.extension.ComponentOrigin.TheVariants as origins
use Rattle.apollo_schema_laws.specs.Sections.{as_parts, in_sections}
use Rattle.apollo_schema_laws.specs.TypeSections.{is_keyed, name_of}
use Rattle.apollo_schema_laws.proofs.Types.Kinds.{held, kept, kept-map, sections-made, shown_in}
use Rattle.apollo_schema_laws.proofs.Types.WrittenParts.{components-sections}

-- a part of a type with its origin, and one of a sort
abbrev plain_sourced : Sourced → Sourced
plain_sourced q = (plain_origin q.0, plain_part q.1)

abbrev plain_item : (s : Sort) → ComponentOrigin × Item s → ComponentOrigin × Item s
plain_item s x = (plain_origin x.0, bare_item s x.1)

-- ---- components

-- what a plain part holds of a sort
pub held-plain : (s : Sort) (p : TypePart) → held s (plain_part p) ≡ map (bare_item s) (held s p)
held-plain s p = ap (λ d. listed d s) (of_type-bare p.kind p.parts) ∙ by s (held_parts p)
  where
    by : (s : Sort) (ps : Parts) → listed (bare_parts ps) s ≡ map (bare_item s) (listed ps s)
    by Directives ps = refl
    by s ps = refl

shown-plain : (s : Sort) (ps : List Sourced)
    → shown_in (held s) (map plain_sourced ps) ≡ map (plain_item s) (shown_in (held s) ps)
shown-plain s ps = simp (flat_map-map, map-flat_map, map-map)
    (λ i. flat_map (λ q. (ap (map (λ x. (plain_origin q.0, x))) (held-plain s q.1) ∙ map-map _ _ _) i) ps)

-- names are told apart without locations as with them
kept-plain : (s : Sort) (xs : List (ComponentOrigin × Item s))
    → kept s (map (plain_item s) xs) ≡ map (plain_item s) (kept s xs)
kept-plain s xs = sym (kept-map s (λ x. name_of s x.1) _ xs)
    ∙ (λ i. map (plain_item s) (cond (is_keyed s) (first_of_each (λ a b. same s a.1 b.1 i) xs) xs))
  where
    same : (s : Sort) (a b : Item s)
        → same_text (name_of s (bare_item s a)) (name_of s (bare_item s b))
        ≡ same_text (name_of s a) (name_of s b)
    same Directives a b = refl
    same s a b = refl

-- the components of a sort, as parts
section-plain : (ps : List Sourced) (s : Sort) (b : Bool)
    → as_parts (part_of s) (cond b (kept s (shown_in (held s) (map plain_sourced ps))) [])
    ≡ map plain_part_of (as_parts (part_of s) (cond b (kept s (shown_in (held s) ps)) []))
section-plain ps s false = refl
section-plain ps s true = ap (as_parts (part_of s)) (ap (kept s) (shown-plain s ps) ∙ kept-plain s _)
    ∙ simp map-map (λ i. map (λ x. (plain_origin x.0, by s x.1 i)) (kept s (shown_in (held s) ps)))
  where
    by : (s : Sort) (x : Item s) → part_of s (bare_item s x) ≡ bare_part (part_of s x)
    by Directives x = refl
    by s x = refl

components-plain : (kind : TypeKind) (head : TypePart) (ps : List Sourced)
    → type_components (type_of_kind kind (plain_part head) (map plain_sourced ps))
    ≡ map plain_part_of (type_components (type_of_kind kind head ps))
components-plain kind head ps = components _ _
    ∙ (λ i. flat_map (λ s. section-plain ps s (has kind s) i) sorts)
    ∙ sym (map-flat_map plain_part_of (λ s. as_parts (part_of s) (cond (has kind s)
    (kept s (shown_in (held s) ps)) [])) sorts) ∙ ap (map plain_part_of) (sym (components head ps))
  where
    components : (head : TypePart) (qs : List Sourced)
        → type_components (type_of_kind kind head qs)
        ≡ in_sections (λ s. cond (has kind s) (kept s (shown_in (held s) qs)) [])
    components head qs = components-sections _ ∙ ap in_sections (sections-made kind head qs)

-- ---- types

-- what is seen of a type: whether it is one of objects, and what it is written out as, without locations
abbrev pub seen : ExtendedType → Bool × List Definition
seen t = (is_object t, map bare_definition (write_held_type t))

abbrev pub seen_plain : ExtendedType → Bool × List Definition
seen_plain t = (is_object t, map nowhere (write_held_type t))

-- what is written of a type with this head and these components
abbrev headed : TypeKind → TypePart → List SourcedPart → List Definition
headed kind head cs =
    cond (is_built_in head.location) (drop 1 (written_type kind head.description head.name (by_origin cs)
    head.location)) (written_type kind head.description head.name (by_origin cs) head.location)

headed-plain : (kind : TypeKind) (head : TypePart) (cs : List SourcedPart)
    → map nowhere (headed kind (plain_part head) (map plain_part_of cs))
    ≡ map bare_definition (headed kind head cs)
headed-plain kind head cs = grind (arith, mark-kept head.location, all)
  where
    at : Option SourceSpan
    at = (plain_part head).location

    plain : List Definition
    plain = written_type kind (plain_part head).description (plain_part head).name
        (by_origin (map plain_part_of cs)) at

    full : List Definition
    full = written_type kind head.description head.name (by_origin cs) head.location

    all : map nowhere plain ≡ map bare_definition full
    all = ap (λ ps. map nowhere (written_type kind (plain_part head).description (plain_part head).name ps
        at)) (by_origin-plain cs) ∙ type-written kind head.description head.name _ at head.location

-- so with the types that parts make
made-plain : (d : TypePart) (ps : List Sourced)
    → seen_plain (type_from (plain_part d) (map plain_sourced ps)) ≡ seen (type_from d ps)
made-plain d ps = λ i. (objects d.kind i, written i)
  where
    objects : (kind : TypeKind)
        → is_object (type_of_kind kind (plain_part d) (map plain_sourced ps))
        ≡ is_object (type_of_kind kind d ps)
    objects kind = grind arith

    by : (kind : TypeKind) (head : TypePart) (qs : List Sourced)
        → write_held_type (type_of_kind kind head qs)
        ≡ headed kind head (type_components (type_of_kind kind head qs))
    by kind head qs = grind arith

    written : map nowhere (write_held_type (type_from (plain_part d) (map plain_sourced ps)))
        ≡ map bare_definition (write_held_type (type_from d ps))
    written = ap (map nowhere) (by d.kind (plain_part d) (map plain_sourced ps))
        ∙ ap (λ cs. map nowhere (headed d.kind (plain_part d) cs)) (components-plain d.kind d ps)
        ∙ headed-plain d.kind d (type_components (type_from d ps))
        ∙ sym (ap (map bare_definition) (by d.kind d ps))

-- the extensions of a name that are folded, with their numbers
sourced-plain : (n : List ℕ) (start : ℕ) (fs : List Folding)
    → extensions_with_origin n start (map plain_folding fs)
    ≡ map plain_sourced (extensions_with_origin n start fs)
sourced-plain n start [] = refl
sourced-plain n start (f ∷ fs) = grind (arith, sourced-plain n (start + 1) fs)

-- the type of a name
pub type_of-plain : (start : ℕ) (xs : List ListItem) (n : List ℕ)
    → option_map seen_plain (type_of start (folding_order (plain_list xs)) (plain_list xs) n)
    ≡ option_map seen (type_of start (folding_order xs) xs n)
type_of-plain start xs n =
    (λ i. option_map seen_plain
    (option_map (λ d. type_from d ((origins.Definition, d)
    ∷ (ap (extensions_with_origin n start) (folding_order-plain xs)
    ∙ sourced-plain n start (folding_order xs)) i)) (first-unplaced true xs n i))) ∙ by (first xs n)
  where
    by : (o : Option TypePart)
        → option_map seen_plain
        (option_map (λ d. type_from d ((origins.Definition, d)
        ∷ map plain_sourced (extensions_with_origin n start (folding_order xs)))) (option_map plain_part o))
        ≡ option_map seen (option_map (λ d. type_from d (parts start (folding_order xs) n d)) o)
    by None = refl
    by (Some d) = ap Some (made-plain d _)
