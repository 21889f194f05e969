-- Components in sections: their identities, what is of one origin, and what parts make again.
use Rattle.apollo_schema_laws.proofs as laws
use laws.Words.{◌≡◌, Bool, true, cond, not, List, [], ◌∷◌, ◌++◌, Option, map, filter, refl, sym, ap, ◌∙◌}
use laws.Words.{arith, map-append, append-nil, map-id, filter-append, filter_map-append, map-map}
use laws.Words.{IsEquivalence, on_equiv, nat_eq_equiv, AllByRecursion, IsDistinct, filter_map, flat_map}
use laws.Words.{list_any, each-weaken, filter-map, filter-fails, Part, Parts, id_of, number_of, same_id}
use laws.Words.{same_origin, first_of_each, SourcedPart, of_origin, of_extensions, by_origin, ComponentOrigin}
use laws.Words.{Definition, Extension, ExtensionId, PartsByOrigin, Sections, as_parts, in_sections}
use laws.Words.{with_origins, joined, sections_of, false, subst, true≢false, or_right, not-true, flat_map-map}
use laws.Words.{IsPermutation-map, IsPermutation, each-filter, flat_map-each, flat_map-append, map-flat_map}
use laws.Words.{list_any-map, NodeView, Directive, origins_in, identities, list_any-first_of_each}
use laws.Words.{first_of_each-distinct, HasSameComponents}
use laws.Words.{in_order, is_nothing, in_order-map, first-in_order, filter_map-none, filter_map-some}
use laws.Words.{map-each, each-made, own-group, marked, shown, first-shown_again, each-flat_map_back}
use laws.Words.{each-from_map, keys-distinct, groups, passes, new_to_these, first_of_each-append, first-shown}
use laws.Words.{flat_map-nothing}
use Rattle.graphql_ast.specs.Parts.{Sort, Directives, Names, Fields, Values, InputFields, Roots, listed}
use Rattle.graphql_ast.specs.Parts.{of_sort, part_of, sorts, with_lists}

pub same_id-equiv : IsEquivalence same_id
same_id-equiv = on_equiv number_of nat_eq_equiv

-- the identities of extensions that these come from
abbrev pub ids_in : {A : Type 0} → List (ComponentOrigin × A) → List ExtensionId
ids_in xs = filter_map id_of (map (λ x. x.0) xs)

pub ids_in-append : {A : Type 0} (xs ys : List (ComponentOrigin × A))
    → ids_in (xs ++ ys) ≡ ids_in xs ++ ids_in ys
ids_in-append xs ys = simp (map-append, filter_map-append)

-- the identities of each section
abbrev section_ids : Sections → List (List ExtensionId)
section_ids s = map (λ sort. ids_in (s sort)) sorts

pub ids_in-sections : (s : Sections) → ids_in (in_sections s) ≡ flat_map (λ ids. ids) (section_ids s)
ids_in-sections s = simp (ids_in-append, map-map)

module _ (origin : ComponentOrigin) where
  -- what is of the origin
  abbrev pub picked : {A : Type 0} → List (ComponentOrigin × A) → List A
  picked xs = map (λ x. x.1) (filter (λ x. same_origin origin x.0) xs)

  pub picked-append : {A : Type 0} (xs ys : List (ComponentOrigin × A))
      → picked (xs ++ ys) ≡ picked xs ++ picked ys
  picked-append xs ys = simp (filter-append, map-append)

  -- what a choice takes of parts of one sort, and of parts of several
  found-in : {A B : Type 0} (part : A → Part) (which : Part → Option B) (xs : List (ComponentOrigin × A))
      → filter_map which (picked (as_parts part xs)) ≡ filter_map (λ a. which (part a)) (picked xs)
  found-in part which [] = refl
  found-in part which (x ∷ xs) = grind (arith, found-in part which xs)

  module _ (s : Sections) where
    found : {A : Type 0} (which : Part → Option A) (ss : List Sort)
        → filter_map which (picked (flat_map (λ sort. as_parts (part_of sort) (s sort)) ss))
        ≡ flat_map (λ sort. filter_map (λ a. which (part_of sort a)) (picked (s sort))) ss
    found which [] = refl
    found which (sort ∷ ss) = simp (picked-append, filter_map-append, found-in, found which ss)

    -- what is of one origin, sort by sort
    abbrev pub parts_in : Parts
    parts_in = with_lists (λ sort. picked (s sort))

    picked-sort : (sort : Sort) → filter_map (of_sort sort) (picked (in_sections s)) ≡ picked (s sort)
    picked-sort Directives = found _ sorts ∙ simp (filter_map-some, filter_map-none, append-nil)
    picked-sort sort = found _ sorts ∙ simp (filter_map-some, filter_map-none, append-nil)

    pub of_origin-sections : of_origin origin (in_sections s) ≡ parts_in
    of_origin-sections = λ i. with_lists (λ sort. picked-sort sort i)

    pub sort-picked : (sort : Sort) → listed (of_origin origin (in_sections s)) sort ≡ picked (s sort)
    sort-picked Directives = picked-sort Directives
    sort-picked sort = picked-sort sort

  -- of joined parts
  pub picked-of : {A : Type 0} (o : ComponentOrigin) (xs : List A)
      → picked (map (λ x. (o, x)) xs) ≡ cond (same_origin origin o) xs []
  picked-of o [] = grind arith
  picked-of o (x ∷ xs) = grind (arith, picked-of o xs)

  pub picked-joined : {A : Type 0} (sort : Parts → List A) (gs : List (ComponentOrigin × Parts))
      → picked (joined sort gs) ≡ flat_map (λ g. sort g.1) (filter (λ g. same_origin origin g.0) gs)
  picked-joined sort [] = refl
  picked-joined sort (g ∷ gs) = grind (arith, picked-append, picked-of g.0 (sort g.1), picked-joined sort gs)

  -- where one group alone is of the origin
  pub of-alone : {A : Type 0} (sort : Parts → List A) (gs : List (ComponentOrigin × Parts))
      (g : ComponentOrigin × Parts) → filter (λ g. same_origin origin g.0) gs ≡ g ∷ []
      → picked (joined sort gs) ≡ sort g.1
  of-alone sort gs g alone = simp (picked-joined, alone, append-nil)

  of_origin-again : (p : PartsByOrigin) (g : ComponentOrigin × Parts)
      → filter (λ g. same_origin origin g.0) (with_origins p) ≡ g ∷ []
      → of_origin origin (in_sections (sections_of p)) ≡ g.1
  of_origin-again p g alone = of_origin-sections (sections_of p)
      ∙ (λ i. with_lists (λ sort. of-alone (λ d. listed d sort) (with_origins p) g alone i))

-- a mark for each of these
abbrev pub marks : {A : Type 0} → List A → List (Unit {0})
marks = map (λ _. tt)

abbrev pub has_some : {A : Type 0} → List A → Bool
has_some xs = not (is_nothing (marks xs))

-- an identity has something in a section where it is one of the section's
pub has_some-picked : {A : Type 0} (id : ExtensionId) (xs : List (ComponentOrigin × A))
    → has_some (picked (Extension id) xs) ≡ list_any (same_id id) (ids_in xs)
has_some-picked id [] = refl
has_some-picked id (x ∷ xs) = grind (arith, has_some-picked id xs)

-- the parts of extensions are written in the order in which these tests take them, where tests see which of
-- the identities there are
pub written-in_order : (cs : List SourcedPart) (tests : List (Parts → Bool)) (lists : List (List ExtensionId))
    → ids_in cs ≡ flat_map (λ ids. ids) lists
    → map {B = ExtensionId → Bool} (λ t e. t (of_origin (Extension e) cs)) tests
    ≡ map (λ ids e. list_any (same_id e) ids) lists
    → in_order tests (map (λ e. e.1) (of_extensions cs)) ≡ true
written-in_order cs tests lists listed seen =
    rw (map-map, in_order-map, seen, listed, first-in_order same_id same_id-equiv lists)

-- whether parts have some of each sort
abbrev have_some : List (Parts → Bool)
have_some = map (λ sort d. has_some (listed d sort)) sorts

sections-in_order : (s : Sections)
    → in_order have_some (map (λ e. e.1) (of_extensions (in_sections s))) ≡ true
sections-in_order s = written-in_order (in_sections s) have_some (section_ids s) (ids_in-sections s)
    (ap (λ (f : ExtensionId → Parts). map (λ t e. t (f e)) have_some) (λ i e. of_origin-sections (Extension e)
    s i) ∙ (λ i. map (λ sort e. has_some-picked e (s sort) i) sorts))

-- the definition's parts alone are of the definition, and those of an extension of its identity
pub definition-alone : (p : PartsByOrigin)
    → filter (λ g. same_origin Definition g.0) (with_origins p) ≡ (Definition, p.definition) ∷ []
definition-alone p = ap (λ l. (Definition, p.definition) ∷ l) (filter-fails _ _ (λ g e. e) _
    (each-made _ _ (λ e. refl) p.extensions))

pub extension-alone : (p : PartsByOrigin) (e : ExtensionId × Parts)
    → filter (λ h. same_id e.0 h.0) p.extensions ≡ e ∷ []
    → filter (λ g. same_origin (Extension e.0) g.0) (with_origins p) ≡ (Extension e.0, e.1) ∷ []
extension-alone p e alone = simp (filter-map, alone)

-- the identities of what parts have of one sort
pub shown-joined : (p : PartsByOrigin) {A : Type 0} (sort : Parts → List A)
    → ids_in (joined sort (with_origins p)) ≡ shown (λ e. e.0) (λ e. marks (sort e.1)) p.extensions
shown-joined p {A} sort = ids_in-append (map (λ x. (Definition, x)) (sort p.definition)) _
    ∙ (λ i. of_definition (sort p.definition) i ++ of_each p.extensions i)
  where
    of_definition : (xs : List A) → ids_in (map (λ x. (Definition, x)) xs) ≡ []
    of_definition [] = refl
    of_definition (x ∷ xs) = of_definition xs

    of_one : (id : ExtensionId) (xs : List A)
        → ids_in (map (λ x. (Extension id, x)) xs) ≡ map (λ _. id) (marks xs)
    of_one id [] = refl
    of_one id (x ∷ xs) = ap (λ l. id ∷ l) (of_one id xs)

    of_each : (es : List (ExtensionId × Parts))
        → ids_in (joined sort (map (λ e. (Extension e.0, e.1)) es)) ≡ shown (λ e. e.0) (λ e. marks (sort e.1))
        es
    of_each [] = refl
    of_each (e ∷ es) = simp (ids_in-append, of_one e.0 (sort e.1), of_each es)

module _ (p : PartsByOrigin) (distinct : IsDistinct same_id (map (λ e. e.0) p.extensions)) where
  -- each extension is alone of its identity
  pub each-alone : AllByRecursion (λ e. filter (λ h. same_id e.0 h.0) p.extensions ≡ e ∷ []) p.extensions
  each-alone = own-group same_id same_id-equiv _ p.extensions distinct

  -- parts that stand in the order in which they are written are written again as themselves
  pub parts-again : (cs : List SourcedPart) (sorts : List (ExtensionId × Parts → List (Unit {0})))
      → ids_in cs ≡ flat_map (λ m. shown (λ e. e.0) m p.extensions) sorts
      → in_order (map marked sorts) p.extensions ≡ true → of_origin Definition cs ≡ p.definition
      → AllByRecursion (λ e. of_origin (Extension e.0) cs ≡ e.1) p.extensions → by_origin cs ≡ p
  parts-again cs sorts listed ordered first each = λ i. record {
    definition = first i;
    extensions = (ap (map (λ e. (e, of_origin (Extension e) cs)))
        (ap (first_of_each same_id) listed ∙ first-shown_again same_id same_id-equiv _ sorts p.extensions
        distinct ordered) ∙ map-map _ _ p.extensions ∙ map-each _ _ p.extensions
        (each-weaken _ _ (λ e same. ap (λ d. (e.0, d)) same) p.extensions each) ∙ map-id p.extensions) i;
  }

  written-again : in_order have_some (map (λ e. e.1) p.extensions) ≡ true
      → by_origin (in_sections (sections_of p)) ≡ p
  written-again ordered = parts-again (in_sections (sections_of p)) (map (λ sort e. marks (listed e.1 sort))
      sorts) (ids_in-sections (sections_of p)
      ∙ (λ i. flat_map (λ ids. ids) (map (λ sort. shown-joined p (λ d. listed d sort) i) sorts)))
      (sym (in_order-map _ have_some p.extensions) ∙ ordered) (of_origin-again Definition p
      (Definition, p.definition) (definition-alone p)) (each-weaken _ _ (λ e alone. of_origin-again
      (Extension e.0) p (Extension e.0, e.1) (extension-alone p e alone)) p.extensions each-alone)

pub written-parts-again : (s : Sections) (p : PartsByOrigin)
    → map (λ e. e.1) p.extensions ≡ map (λ e. e.1) (of_extensions (in_sections s))
    → IsDistinct same_id (map (λ e. e.0) p.extensions) → by_origin (in_sections (sections_of p)) ≡ p
written-parts-again s p same_parts distinct = written-again p distinct (ap (in_order have_some) same_parts
    ∙ sections-in_order s)

-- what holds at all sorts holds at each
pub at_sort : (Q : Sort → Type 0) → AllByRecursion Q sorts → (sort : Sort) → Q sort
at_sort Q a Directives = a.0
at_sort Q a Names = a.1.0
at_sort Q a Fields = a.1.1.0
at_sort Q a Values = a.1.1.1.0
at_sort Q a InputFields = a.1.1.1.1.0
at_sort Q a Roots = a.1.1.1.1.1.0

-- whether an origin is the definition or among these identities
abbrev pub is_among : List ExtensionId → ComponentOrigin → Bool
is_among ids Definition = true
is_among ids (Extension e) = list_any (same_id e) ids

pub each-among : {A : Type 0} (cs : List (ComponentOrigin × A))
    → AllByRecursion (λ c. is_among (ids_in cs) c.0 ≡ true) cs
each-among [] = tt
each-among (c ∷ cs) = (
  grind (arith, same_id-equiv.refl),
  each-weaken _ _ (λ d h. grind (arith, or_right, h)) cs (each-among cs),
)

distinct-with_definition : (ids : List ExtensionId) → IsDistinct same_id ids
    → IsDistinct same_origin (Definition ∷ map (λ e. Extension e) ids)
unfolding IsDistinct
distinct-with_definition ids d = (each-made _ _ (λ k. refl) ids, keys-distinct same_origin _ ids d)

-- what parts have of one sort, without origins
pub joined-values : {A : Type 0} (sort : Parts → List A) (gs : List (ComponentOrigin × Parts))
    → map (λ x. x.1) (joined sort gs) ≡ flat_map (λ g. sort g.1) gs
joined-values sort gs = simp (map-flat_map, map-map, map-id)

module _ (s : Sections) (p : PartsByOrigin) (same_definition : p.definition
    ≡ of_origin Definition (in_sections s)) (same_parts : map (λ e. e.1) p.extensions
    ≡ map (λ e. e.1) (of_extensions (in_sections s))) where
  abbrev ids : List ExtensionId
  ids = identities (origins_in (in_sections s))

  abbrev origins : List ComponentOrigin
  origins = Definition ∷ map (λ e. Extension e) ids

  -- each component comes from one of the origins
  has_origin : (o : ComponentOrigin) → is_among (ids_in (in_sections s)) o ≡ true
      → list_any (λ a. same_origin a o) origins ≡ true
  has_origin Definition h = refl
  has_origin (Extension e) h = list_any-map _ _ ids ∙ (λ i. list_any (λ k. same_id-equiv.symm k e i) ids)
      ∙ list_any-first_of_each same_id same_id-equiv e _ ∙ h

  abbrev pub HasOrigins : {A : Type 0} → List (ComponentOrigin × A) → Type 0
  HasOrigins xs = AllByRecursion (λ x. list_any (λ a. same_origin a x.0) origins ≡ true) xs

  -- the written parts have of one sort what is picked of each origin
  pub written-values : {A : Type 0} (sort : Parts → List A) (xs : List (ComponentOrigin × A))
      → ((o : ComponentOrigin) → sort (of_origin o (in_sections s)) ≡ picked o xs)
      → map (λ x. x.1) (joined sort (with_origins p)) ≡ picked Definition xs
      ++ flat_map (λ e. picked (Extension e) xs) ids
  written-values sort xs is = joined-values sort (with_origins p)
      ∙ (λ i. (ap sort same_definition ∙ is Definition) i
      ++ (flat_map-map (λ (g : ComponentOrigin × Parts). sort g.1) (λ e. (Extension e.0, e.1)) p.extensions
      ∙ sym (flat_map-map sort _ p.extensions) ∙ ap (flat_map sort) same_parts
      ∙ ap (flat_map sort) (map-map _ _ ids) ∙ flat_map-map sort _ ids) i)
      ∙ (λ i. picked Definition xs ++ flat_map (λ e. is (Extension e) i) ids)

  -- the components of one sort are those of the written parts
  pub kept : {A : Type 0} (sort : Parts → List A) (xs : List (ComponentOrigin × A))
      → ((o : ComponentOrigin) → sort (of_origin o (in_sections s)) ≡ picked o xs) → HasOrigins xs
      → IsPermutation (map (λ x. x.1) xs) (map (λ x. x.1) (joined sort (with_origins p)))
  kept sort xs is there = subst (λ l. IsPermutation (map (λ x. x.1) xs) l)
      (map-flat_map _ (λ o. filter (λ x. same_origin o x.0) xs) origins
      ∙ simp (flat_map-map, written-values sort xs is))
      (IsPermutation-map _ xs _ (groups same_origin (record {
        refl = λ a. grind (arith, same_id-equiv.refl);
        symm = λ a b. grind (arith, same_id-equiv.symm);
        congr = λ a b c e. grind (arith, same_id-equiv.congr, e);
      }) _ origins xs (distinct-with_definition ids (first_of_each-distinct same_id _)) there))

  abbrev Among : SourcedPart → Type 0
  Among c = list_any (λ a. same_origin a c.0) origins ≡ true

  pub sort-there : (sort : Sort) → HasOrigins (s sort)
  sort-there sort = each-from_map Among _ _ (at_sort (λ t. AllByRecursion Among (as_parts (part_of t) (s t)))
      (each-flat_map_back Among (λ t. as_parts (part_of t) (s t)) sorts
      (each-weaken _ _ (λ c h. has_origin c.0 h) _ (each-among _))) sort)

  pub written-keeps : HasSameComponents s (sections_of p)
  written-keeps sort = kept (λ d. listed d sort) (s sort) (λ o. sort-picked o s sort) (sort-there sort)

-- what a filter leaves out may be empty
flat_map-filter : {X Y : Type 0} (f : X → List Y) (p : X → Bool) → ((x : X) → p x ≡ false → f x ≡ [])
    → (xs : List X) → flat_map f (filter p xs) ≡ flat_map f xs
flat_map-filter f p out [] = refl
flat_map-filter f p out (x ∷ xs) = grind (arith, out x, flat_map-filter f p out xs)

pub has_none : {A : Type 0} (xs : List A) → has_some xs ≡ false → xs ≡ []
has_none [] h = refl
has_none (x ∷ xs) h = absurd (true≢false h)

-- the directives of parts
abbrev of_parts : Parts → List (NodeView Directive)
of_parts d = d.directives

module _ (q : PartsByOrigin) (distinct : IsDistinct same_id (map (λ e. e.0) q.extensions)) where
  abbrev directives : List (ComponentOrigin × NodeView Directive)
  directives = joined of_parts (with_origins q)

  abbrev has_directives : ExtensionId × Parts → Bool
  has_directives = marked (λ e. marks (of_parts e.1))

  -- extensions with directives come first, in order
  first-ids : (later : List ExtensionId)
      → first_of_each same_id (ids_in directives ++ later) ≡ map (λ e. e.0) (filter has_directives
      q.extensions) ++ filter (new_to_these same_id (ids_in directives)) (first_of_each same_id later)
  first-ids later = rw (
    first_of_each-append same_id same_id-equiv _ later,
    shown-joined,
    first-shown same_id same_id-equiv _ _ q.extensions distinct,
  )

  -- those with directives have all of them
  of_first : flat_map (λ e. picked (Extension e) directives)
      (map (λ e. e.0) (filter has_directives q.extensions)) ≡ flat_map (λ g. of_parts g.1) q.extensions
  of_first = flat_map-map _ _ (filter has_directives q.extensions) ∙ flat_map-each _ _ _ (λ g h. h.0) _
      (each-filter _ has_directives q.extensions
      (each-weaken _ _ (λ g alone. of-alone (Extension g.0) of_parts (with_origins q) (Extension g.0, g.1)
      (extension-alone q g alone)) q.extensions (each-alone q distinct))) ∙ flat_map-filter _ has_directives
      (λ g none. has_none _ none) q.extensions

  -- and the others have none
  of_later : (later : List ExtensionId)
      → flat_map (λ e. picked (Extension e) directives) (filter (new_to_these same_id (ids_in directives))
      later) ≡ []
  of_later later = flat_map-nothing _ _ (each-weaken _ _ (λ e new. has_none _ (has_some-picked e directives
      ∙ not-true _ new)) _ (passes _ later))

  all_directives : (later : List ExtensionId)
      → picked Definition directives ++ flat_map (λ e. picked (Extension e) directives)
      (first_of_each same_id (ids_in directives ++ later)) ≡ map (λ d. d.1) directives
  all_directives later = rw (first-ids later) (simp (
    flat_map-append,
    of_first,
    of_later,
    append-nil,
    of-alone Definition of_parts (with_origins q) (Definition, q.definition) (definition-alone q),
    flat_map-map,
    joined-values,
  ))

pub directives-in_order : (s : Sections) (q p : PartsByOrigin)
    → IsDistinct same_id (map (λ e. e.0) q.extensions) → s Directives ≡ sections_of q Directives
    → p.definition ≡ of_origin Definition (in_sections s)
    → map (λ e. e.1) p.extensions ≡ map (λ e. e.1) (of_extensions (in_sections s))
    → map (λ d. d.1) (sections_of p Directives) ≡ map (λ d. d.1) (s Directives)
directives-in_order s q p distinct first same_definition same_parts =
    let later = flat_map (λ ids. ids) (map (λ t. ids_in (s t)) (Names ∷ Fields ∷ Values ∷ InputFields ∷ Roots
    ∷ [])) in
    written-values s p same_definition same_parts of_parts (s Directives) (λ o. sort-picked o s Directives)
    ∙ rw (ids_in-sections s, first) (all_directives q distinct later)
