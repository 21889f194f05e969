-- What components are written out as, under their origins: well-formed definitions and extensions.
use Rattle.apollo_canonical.proofs as canonical
use canonical.Prelude.{AllByRecursion, Bool, ComponentOrigin, Directives, ExtensionId, Fields, InputFields}
use canonical.Prelude.{IsName, IsWellFormed, IsWellFormedDefinition, IsWellFormedPart, List, NameView, Names}
use canonical.Prelude.{None, Option, Part, Parts, Roots, Some, Sort, SourceSpan, SourcedPart, TreePart}
use canonical.Prelude.{TypeKind, Values, [], ap, arith, body_parts, by_origin, cons_option, description_parts}
use canonical.Prelude.{directive_list, directives_parts, each-append, each-first, each-weaken, false, filter}
use canonical.Prelude.{filter_map, flat_map, has, id_of, identities, if◌then◌else◌, is_none, is_some}
use canonical.Prelude.{list_any, listed, map, name_parts, not, of_extensions, of_origin, of_sort, or_right}
use canonical.Prelude.{origins_in, parts_of, refl, same_id, same_origin, schema_definition, schema_has, sym}
use canonical.Prelude.{true, type_definition, type_extension, written_schema, written_type, ◌&&◌, ◌++◌, ◌||◌}
use canonical.Prelude.{◌∙◌, ◌∷◌, ◌≡◌}
use canonical.Schemas.WellFormedLists.{each-flat_map, each-map, each-passing, some-passes}
use canonical.Schemas.Items.{AreWellFormedParts, EachWellFormed, trees}
use canonical.Schemas.Components.{Suits, made_of, one_says, one_says_of_schema, says_of_kind, says_of_schema}
use canonical.Schemas.Components.{part_sort}
use Rattle.graphql_nodes.specs.declared.type_kind.TypeKind.TheVariants as k
use Rattle.apollo_component.specs.declared.extension.ComponentOrigin.TheVariants.{Definition, Extension}

-- whether some component comes from the extension of an identity
abbrev is_source : List SourcedPart → ExtensionId → Bool
is_source cs e = list_any (λ c. same_origin (Extension e) c.0) cs

-- each identity that is written is such a one
sources : (cs : List SourcedPart) → AllByRecursion (λ e. is_source cs e ≡ true) (identities (origins_in cs))
sources cs = each-first _ same_id _ (all cs)
  where
    all : (ds : List SourcedPart)
        → AllByRecursion (λ e. is_source ds e ≡ true) (filter_map id_of (origins_in ds))
    all [] = tt
    all (c ∷ ds) = by c.0 c.1 (each-weaken _ _ (λ e. or_right _ _) _ (all ds))
      where
        by : (o : ComponentOrigin) (part : Part)
            → AllByRecursion (λ e. is_source ((o, part) ∷ ds) e ≡ true) (filter_map id_of (origins_in ds))
            → AllByRecursion (λ e. is_source ((o, part) ∷ ds) e ≡ true) (cons_option (id_of o)
            (filter_map id_of (origins_in ds)))
        by Definition part rest = rest
        by (Extension e) part rest =
            let same : same_id e e ≡ true = grind arith in (ap (λ b. b || is_source ds e) same, rest)

module _ (is_there : Sort → Bool) (cs : List SourcedPart) (a : AllByRecursion (λ c. Suits is_there c.1)
    cs) where
  -- the components of one origin
  alike : (origin : ComponentOrigin)
      → AllByRecursion (Suits is_there) (map (λ c. c.1) (filter (λ c. same_origin origin c.0) cs))
  alike origin = each-map _ _ _ (each-passing _ _ cs a)

  -- make well-formed parts
  of_one : (origin : ComponentOrigin) → AreWellFormedParts (of_origin origin cs)
  of_one origin = made_of _ (each-weaken _ _ (λ c h. h.0) _ (alike origin))

  -- and those of an extension that is written say something
  each_says : (says : Parts → Bool)
      → ((c : Part) (rest : List Part) → is_there (part_sort c) ≡ true → says (parts_of (c ∷ rest)) ≡ true)
      → AllByRecursion (λ e. AreWellFormedParts e.1 × (says e.1 ≡ true)) (of_extensions cs)
  each_says says one = each-map _ _ _ (each-weaken _ _ (λ e h.
      let some = some-passes _ cs h in
      (of_one (Extension e), there _ some (alike (Extension e)))) _ (sources cs))
    where
      there : (ds : List SourcedPart) → (ds ≡ [] → ⊥) → AllByRecursion (Suits is_there) (map (λ c. c.1) ds)
          → says (parts_of (map (λ c. c.1) ds)) ≡ true
      there [] some b = absurd (some refl)
      there (c ∷ ds) some b = one c.1 (map (λ c. c.1) ds) b.0.1

all : {A : Type 0} (parts : A → List TreePart) (xs : List A) → EachWellFormed parts xs
    → IsWellFormed (flat_map parts xs)
all parts xs = each-flat_map IsWellFormedPart parts xs

join : (xs ys : List TreePart) → IsWellFormed xs → IsWellFormed ys → IsWellFormed (xs ++ ys)
join = each-append IsWellFormedPart

-- any description will do
description : (text : Option NameView) → IsWellFormed (description_parts text)
description None = tt
description (Some t) = (tt, tt)

-- directives, and the parts of a sort behind them
module _ (ps : Parts) (w : AreWellFormedParts ps) where
  directed : (s : Sort)
      → IsWellFormed (directives_parts true (directive_list ps) ++ flat_map (trees s) (listed ps s))
  directed s = join _ _ (all (trees Directives) ps.directives (w Directives)) (all (trees s) _ (w s))

  -- what stands behind the name of a type
  behind_name : (kind : TypeKind) → IsWellFormed (body_parts kind ps)
  behind_name k.Scalar = all (trees Directives) ps.directives (w Directives)
  behind_name k.Union = directed Names
  behind_name k.Enum = directed Values
  behind_name k.InputObject = directed InputFields
  behind_name _ = join _ _ (all name_parts ps.names (w Names)) (directed Fields)

module _ (name : NameView) (named : IsName name.text) where
  definition : (kind : TypeKind) (text : Option NameView) (ps : Parts) (location : Option SourceSpan)
      → AreWellFormedParts ps → IsWellFormedDefinition (type_definition kind text name ps location)
  definition k.Scalar text ps location w =
      (tt, join _ _ (description text) (named, behind_name ps w k.Scalar))
  definition kind text ps location w = (tt, join _ _ (description text) (named, behind_name ps w kind))

  extension : (kind : TypeKind) (ps : Parts) (location : Option SourceSpan) → AreWellFormedParts ps
      → says_of_kind kind ps ≡ true → IsWellFormedDefinition (type_extension kind name ps location)
  extension k.Scalar ps location w says = (tt, (says, (named, behind_name ps w k.Scalar)))
  extension kind ps location w says = (tt, (says, (named, behind_name ps w kind)))

  -- a type's definition and its extensions
  pub type_written : (kind : TypeKind) (text : Option NameView) (cs : List SourcedPart)
      (location : Option SourceSpan) → AllByRecursion (λ c. Suits (has kind) c.1) cs
      → AllByRecursion IsWellFormedDefinition (written_type kind text name (by_origin cs) location)
  type_written kind text cs location a = (
    definition kind text _ location (of_one (has kind) cs a Definition),
    each-map _ _ _ (each-weaken _ _ (λ e h. extension kind e.1 _ h.0 h.1) _
        (each_says (has kind) cs a (says_of_kind kind) (one_says kind))),
  )

-- whether a component is a root
abbrev pub is_root : Part → Bool
is_root c = is_some (of_sort Roots c)

-- whether some root comes from an origin
abbrev pub has_root : ComponentOrigin → List SourcedPart → Bool
has_root origin cs = list_any (λ c. is_root c.1 && same_origin origin c.0) cs

-- it is among the roots of that origin's parts
root_among : (origin : ComponentOrigin) (cs : List SourcedPart)
    → has_root origin cs ≡ not (is_none (of_origin origin cs).roots)
root_among origin [] = refl
root_among origin (c ∷ cs) = grind (arith, root_among origin cs)

-- the schema's definition, where it is written, and its extensions
pub schema_written : (is_written : Bool) (text : Option NameView) (cs : List SourcedPart)
    (location : Option SourceSpan) → AllByRecursion (λ c. Suits schema_has c.1) cs
    → (is_written ≡ true → has_root Definition cs ≡ true)
    → AllByRecursion IsWellFormedDefinition (written_schema is_written text (by_origin cs) location)
schema_written is_written text cs location a rooted =
    each-append _ _ _ (by is_written rooted)
    (each-map _ _ _ (each-weaken _ _ (λ e h. (tt, (h.1, directed e.1 h.0 Roots))) _
    (each_says schema_has cs a says_of_schema one_says_of_schema)))
  where
    ps : Parts
    ps = of_origin Definition cs

    own : AreWellFormedParts ps
    own = of_one schema_has cs a Definition

    by : (b : Bool) → (b ≡ true → has_root Definition cs ≡ true)
        → AllByRecursion IsWellFormedDefinition (if b then schema_definition text ps location ∷ [] else [])
    by false rooted = tt
    by true rooted = (
      (
        tt,
        join _ _ (description text) (join _ _ (all (trees Directives) ps.directives (own Directives))
            (sym (root_among Definition cs) ∙ rooted refl, all (trees Roots) ps.roots (own Roots))),
      ),
      tt,
    )
