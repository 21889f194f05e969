-- What a list of definitions says of a name, of the schema and of directives, and where nothing in it is at
-- fault.
use Rattle.apollo_meaning.proofs.Prelude.{Added, added, added_item, added_items, adopted, adopted_by}
use Rattle.apollo_meaning.proofs.Prelude.{AllByRecursion, ap, append-nil, append_assoc, arith, Bool, by_text}
use Rattle.apollo_meaning.proofs.Prelude.{collision_at, collisions, completed, cond, Defined, defined_part}
use Rattle.apollo_meaning.proofs.Prelude.{defined_schema, Definition, directive_definitions, each-filter}
use Rattle.apollo_meaning.proofs.Prelude.{each-weaken, each_after, Entry, Extended}
use Rattle.apollo_meaning.proofs.Prelude.{extended_names, extended_part, extended_schema, extensions_of}
use Rattle.apollo_meaning.proofs.Prelude.{false, filter, filter-all, filter_map, filter_map-append}
use Rattle.apollo_meaning.proofs.Prelude.{filter_map-made, find, find-made, first, first_of_each}
use Rattle.apollo_meaning.proofs.Prelude.{first_schema, flat_map, flat_map-append, found, found-any, found_at}
use Rattle.apollo_meaning.proofs.Prelude.{implied_schema, is_built_in, is_some, IsEquivalence, item_of}
use Rattle.apollo_meaning.proofs.Prelude.{key_of, keys_of, kind_of, List, list_any, ListItem, lookup}
use Rattle.apollo_meaning.proofs.Prelude.{lookup-keyed, map, map-append, name_laws, NameView}
use Rattle.apollo_meaning.proofs.Prelude.{nat_list_eq_equiv, None, of_kind, Option, option_map, option_map_or}
use Rattle.apollo_meaning.proofs.Prelude.{orphans_of, Other, part_faults, refl, same, same-is, same_kind}
use Rattle.apollo_meaning.proofs.Prelude.{same_text, schema_extensions, SchemaDefined, SchemaExtended}
use Rattle.apollo_meaning.proofs.Prelude.{SchemaPart, slice_get, Some, subst, sym, true, type_names, TypePart}
use Rattle.apollo_meaning.proofs.Prelude.{whole, with_adopted, ℕ, [], ◌++◌, ◌∙◌, ◌∷◌, ◌≡◌}
use Rattle.apollo_meaning.specs.Faults.TypeFaults.{entries_of, names_in}
use Rattle.apollo_schema_laws.proofs.Rearranged.Words.{chosen-wider, directive_part, each-append}
use Rattle.apollo_schema_laws.proofs.Rearranged.Words.{filter-wider, filter_map-wider, flat_map-map, IsOwn}
use Rattle.apollo_schema_laws.proofs.Rearranged.Words.{recursion_from_All}
use Rattle.apollo_schema_laws.proofs.Words.Lists.{All-contains_itself, All-weaker, find-none, found-passes}
use Rattle.apollo_schema_laws.proofs.Words.Lists.{is_some-map, IsDistinct, lookup-none, none-by_subject}
use Rattle.apollo_schema_laws.proofs.Words.Lists.{none_past_head, ◌≢◌}
use Rattle.apollo_schema_laws.proofs.Words.Syntax.{built_in_definitions, HasUniqueKeys, same-refl, values_of}
use Rattle.apollo_schema_laws.proofs.Words.Types.{given-by_keys}
use Rattle.apollo_schema_laws.proofs.Words.Meaning.{first-is, found_at-agree, ignorable_if, in-subject, named}
use Rattle.apollo_schema_laws.proofs.Words.Meaning.{NoSubject, same_subject, Schema, Subject, subject}
use Rattle.apollo_schema_laws.proofs.Words.Meaning.{subject_laws, TheSchema, TypeNamed}
use Rattle.apollo_schema_laws.proofs.Words.Faults.{dropped_from, held_sort}
use Rattle.std.proofs.lemmas.Map.Views.{lookup-from_Contains}
use Rattle.apollo_component.proofs.Lists.Kept.{distinct-from_first, each-flat_map, each-map, each-of}
use Rattle.apollo_component.proofs.Lists.Groups.{each-found}
use Rattle.apollo_component.proofs.Lists.Kept.{each-split, flat_map-none, found-holds, map-same}
use Rattle.apollo_meaning.proofs.Types.NameLemmas.{type_names-first}
use Rattle.apollo_schema_laws.proofs.Words.Written.{IsMeantByList, name_of, with_built_ins}
use Rattle.graphql_ast.specs.Definitions.{definition_location}
use Rattle.graphql_ast.specs.Parts.{listed, Names, of_type, Sort}
use Rattle.graphql_ast.specs.declared.definition.Definition.TheVariants as ast
use Rattle.apollo_schema_laws.proofs.Types.Kinds.{HasOwnNames}
use Rattle.apollo_meaning.specs.declared.collision.Collection.{Collection}
use Rattle.apollo_meaning.proofs.Order.FoldingLemmas.{same_kind-refl}

module _ {V : Type 0} where
  -- after an entry nothing stands under its key
  pub lookup-past : (n : List ℕ) (e : NameView × V) (es : List (NameView × V))
      → HasUniqueKeys same_text (e ∷ es) → same n e.0.text ≡ true → lookup (by_text n) es ≡ None
  lookup-past n e es d is = lookup-none _ es (none_past_head name_laws (record { text = n; location = None })
      e es d is)

  -- each entry is found under its key
  pub each-entry : (es : List (NameView × V)) → HasUniqueKeys same_text es
      → AllByRecursion (λ e. lookup (by_text e.0.text) es ≡ Some e.1) es
  each-entry es d = recursion_from_All _ es (All-weaker _ _ (λ e there. lookup-from_Contains name_laws e.0 e.1
      es d there) es (All-contains_itself es))

  -- what the values give, one after another, is what stands under the keys
  pub values-by_keys : {X : Type 0} (give : V → List X) (es : List (NameView × V))
      → HasUniqueKeys same_text es
      → flat_map give (values_of es) ≡ flat_map (λ k. option_map_or give (lookup (by_text k.text) es) [])
      (keys_of es)
  values-by_keys give es d = flat_map-map give _ es ∙ given-by_keys name_laws (λ k o. option_map_or give o [])
      es d

abbrev pub defined_names : List ListItem → List NameView
defined_names xs = map (λ p. p.name) (filter_map defined_part xs)

pub defined_names-append : (xs ys : List ListItem)
    → defined_names (xs ++ ys) ≡ defined_names xs ++ defined_names ys
defined_names-append xs ys = simp (filter_map-append, map-append)

find-defined : (k : NameView) (ps : List TypePart)
    → find (same_text k) (map (λ p. p.name) ps) ≡ option_map (λ d. d.name) (lookup (same k.text) (named ps))
find-defined k ps = simp (find-made, lookup-keyed)

-- each name is that of its text's first definition
pub names-of_first : (xs : List ListItem)
    → AllByRecursion (λ k. option_map (λ d. d.name) (first xs k.text) ≡ Some k) (type_names xs)
names-of_first xs = rw (type_names-first xs) (each-weaken _ _ (λ k h. sym (find-defined k _) ∙ h) _
    (each-found same_text name_laws _))

-- a name is among those that are defined where its text has a definition
pub among-defined : (k : NameView) (xs : List ListItem)
    → list_any (same_text k) (defined_names xs) ≡ is_some (first xs k.text)
among-defined k xs = sym (found-any _ (defined_names xs)) ∙ ap is_some (find-defined k _) ∙ is_some-map _ _

-- a first definition has the text
pub first-key : (n : List ℕ) (ps : List TypePart) (d : TypePart) → lookup (same n) (named ps) ≡ Some d
    → same n (key_of d) ≡ true
first-key n ps d h = found-passes _ ps d (simp lookup-keyed at h)

-- what an item is about, a type's name, the schema or neither
abbrev topic_of : ListItem → Subject
topic_of (Defined p) = TypeNamed (key_of p)
topic_of (Extended p) = TypeNamed (key_of p)
topic_of (SchemaDefined s) = TheSchema
topic_of (SchemaExtended s) = TheSchema
topic_of (Other d) = NoSubject

abbrev pub is_about : Subject → ListItem → Bool
is_about topic x = same_subject topic (topic_of x)

abbrev pub about : Subject → List ListItem → List ListItem
about topic = filter (is_about topic)

-- what a list says of a topic stands in the items about it
pub first-about : (n : List ℕ) (xs : List ListItem) → first xs n ≡ first (about (TypeNamed n) xs) n
first-about n xs =
    let own = λ (p : TypePart). same n (key_of p) in
    simp (first-is, chosen-wider defined_part (is_about (TypeNamed n)) own (λ x e. grind (arith, e)) xs)

pub extensions-about : (n : List ℕ) (xs : List ListItem)
    → extensions_of xs n ≡ extensions_of (about (TypeNamed n) xs) n
extensions-about n xs = sym (chosen-wider extended_part _ _ (λ x e. grind (arith, e)) xs)

pub first_schema-about : (xs : List ListItem) → first_schema xs ≡ first_schema (about TheSchema xs)
first_schema-about xs =
    ap (λ l. slice_get l 0) (sym (filter_map-wider defined_schema _ (λ x e. grind (arith, e)) xs))

pub schema_extensions-about : (xs : List ListItem)
    → schema_extensions xs ≡ schema_extensions (about TheSchema xs)
schema_extensions-about xs = sym (filter_map-wider extended_schema _ (λ x e. grind (arith, e)) xs)

pub directives-about : (xs : List ListItem)
    → directive_definitions xs ≡ directive_definitions (about NoSubject xs)
directives-about xs = sym (filter_map-wider directive_part _ (λ x e. grind (arith, e)) xs)

-- what is found at an item hangs on what is about its topic
found-own : IsOwn same_subject subject_laws topic_of found_at
found-own before x = found_at-agree before _ x
    (λ g is. sym (filter-wider _ _ (λ y h. same-topic x y (sym is ∙ in-subject g y h)) before))
  where
    same-topic : (x y : ListItem) → subject x ≡ subject y → is_about (topic_of x) y ≡ true
    same-topic x y e = grind (arith, same-refl, e)

-- a list is without fault where it is for each topic
pub faultless-by_topic : (xs : List ListItem) → ((topic : Subject) → found (about topic xs) ≡ [])
    → found xs ≡ []
faultless-by_topic = none-by_subject same_subject subject_laws topic_of found_at found-own

-- the list of a schema: the built-in definitions, and after them what is handed in
abbrev pub built_ins : List ListItem
built_ins = added_items (added false built_in_definitions)

pub no-extensions : filter_map extended_part built_ins ≡ []
unfolding built_in_definitions
no-extensions = refl

pub no-schema_definitions : filter_map defined_schema built_ins ≡ []
unfolding built_in_definitions
no-schema_definitions = refl

all-keys : first_of_each same (keys_of (named (filter_map defined_part built_ins)))
    ≡ keys_of (named (filter_map defined_part built_ins))
unfolding built_in_definitions
all-keys = refl

-- their names
abbrev pub built_in_names : List NameView
built_in_names = map (λ p. p.name) (filter_map defined_part built_ins)

-- what holds of each definition holds of the first of a name
first-of : (P : TypePart → Type 0) (n : List ℕ) (ps : List TypePart) (d : TypePart) → AllByRecursion P ps
    → lookup (same n) (named ps) ≡ Some d → P d
first-of P n ps d a h = found-holds P _ ps d a (simp lookup-keyed at h)

-- what is the same of each of these is the same of the first of a name
first-same : {X : Type 0} (f g : TypePart → X)
    → map f (filter_map defined_part built_ins) ≡ map g (filter_map defined_part built_ins)
    → (n : List ℕ) (d : TypePart) → first built_ins n ≡ Some d → f d ≡ g d
first-same f g same n d h = first-of _ n _ d (map-same f g _ same) h

-- a type of these is marked built-in, holds what its kind has, and has each name once
pub record IsBuiltIn (p : TypePart) : Type 0 where
  pub marked : is_built_in p.location ≡ true
  pub plain : p.ignorable ≡ false
  pub of_kind : of_type p.kind p.parts ≡ p.parts
  pub once : HasOwnNames p

names-first : (s : Sort)
    → map (λ p. first_of_each same_text (map (name_of s) (listed p.parts s))) (filter_map defined_part
    built_ins) ≡ map (λ p. map (name_of s) (listed p.parts s)) (filter_map defined_part built_ins)
unfolding built_in_definitions
names-first Names = refl
names-first s = refl

pub first-built_in : (n : List ℕ) (d : TypePart) → first built_ins n ≡ Some d → IsBuiltIn d
unfolding built_in_definitions
first-built_in n d h = record {
  marked = first-same (λ p. is_built_in p.location) (λ p. true) refl n d h;
  plain = first-same (λ p. p.ignorable) (λ p. false) refl n d h;
  of_kind = first-same (λ p. of_type p.kind p.parts) (λ p. p.parts) refl n d h;
  once = λ s. distinct-from_first same_text _
      (first-same (λ p. first_of_each same_text (map (name_of s) (listed p.parts s)))
      (λ p. map (name_of s) (listed p.parts s)) (names-first s) n d h);
}

-- a list that defines each name once and extends none says of a name its definition
about-first : (n : List ℕ) (xs : List ListItem) → filter_map extended_part xs ≡ []
    → IsDistinct same (keys_of (named (filter_map defined_part xs)))
    → about (TypeNamed n) xs ≡ option_map_or (λ d. Defined d ∷ []) (first xs n) []
unfolding IsDistinct
about-first n [] none d = refl
about-first n (Extended p ∷ xs) none d = absurd (let g = none in cc)
about-first n (Defined p ∷ xs) none d =
    let absent : same n _ ≡ true → first xs n ≡ None =
    λ e. lookup-none (same n) _ (none_past_head nat_list_eq_equiv n (key_of p, p) _ d e) in
    grind (arith, absent, about-first n xs none d.1)
about-first n (x ∷ xs) none d = about-first n xs none d

pub about-built_ins : (n : List ℕ)
    → about (TypeNamed n) built_ins ≡ option_map_or (λ d. Defined d ∷ []) (first built_ins n) []
about-built_ins n = about-first n built_ins no-extensions (distinct-from_first same _ all-keys)

-- an item that isn't marked built-in
abbrev pub IsHandedIn : ListItem → Type 0
IsHandedIn (Defined p) = is_built_in p.location ≡ false
IsHandedIn (Extended p) = is_built_in p.location ≡ false
IsHandedIn (Other d) = is_built_in (definition_location d) ≡ false
IsHandedIn _ = Unit {0}

abbrev IsAddedByHand : Added → Type 0
IsAddedByHand a = is_built_in (definition_location a.1) ≡ false

handed-item : (b : Bool) (d : Definition) → is_built_in (definition_location d) ≡ false
    → IsHandedIn (ignorable_if b (item_of d))
handed-item b (ast.SchemaDefinition n) h = tt
handed-item b (ast.SchemaExtension n) h = tt
handed-item b d h = h

handed-items : (xs : List Added) → AllByRecursion IsAddedByHand xs
    → AllByRecursion IsHandedIn (added_items xs)
handed-items xs a = each-map _ _ xs (each-weaken _ _ (λ x h. handed-item x.0 x.1 h) xs a)

-- a part that isn't marked
abbrev pub IsUnmarked : TypePart → Type 0
IsUnmarked p = is_built_in p.location ≡ false

unmarked-parts : (xs : List ListItem) → AllByRecursion IsHandedIn xs
    → AllByRecursion IsUnmarked (filter_map defined_part xs)
    × AllByRecursion IsUnmarked (filter_map extended_part xs)
unmarked-parts [] a = (tt, tt)
unmarked-parts (Defined p ∷ xs) a = let rest = unmarked-parts xs a.1 in ((a.0, rest.0), rest.1)
unmarked-parts (Extended p ∷ xs) a = let rest = unmarked-parts xs a.1 in (rest.0, (a.0, rest.1))
unmarked-parts (x ∷ xs) a = unmarked-parts xs a.1

-- what a list is completed with is nothing or a schema definition
pub by_implied : (P : List ListItem → Type 0) → P [] → ((s : SchemaPart) → P (SchemaDefined s ∷ []))
    → (adopts : Bool) (xs : List ListItem) → P (implied_schema adopts xs)
by_implied P none one adopts xs = grind arith

-- what takes no definition of a type takes nothing of what is adopted
pub adopted-unchosen : {Y : Type 0} (which : ListItem → Option Y)
    → ((p : TypePart) → which (Defined p) ≡ None) → (xs : List ListItem) → filter_map which (adopted xs) ≡ []
adopted-unchosen which none xs = by (extended_names xs)
  where
    by : (ns : List (List ℕ)) → filter_map which (flat_map (λ n. adopted_by (orphans_of xs n)) ns) ≡ []
    by [] = refl
    by (n ∷ ns) = grind (arith, none, by ns)

-- what is chosen of a list that is completed is chosen of the list, where no definition of a type or of the
-- schema is
module _ {Y : Type 0} (which : ListItem → Option Y) (no_schema : (s : SchemaPart) → which (SchemaDefined s)
    ≡ None) where
  pub chosen-implied : (adopts : Bool) (xs : List ListItem)
      → filter_map which (xs ++ implied_schema adopts xs) ≡ filter_map which xs
  chosen-implied adopts xs = grind (arith, filter_map-append, no_schema, append-nil)

  pub chosen-completed : ((d : TypePart) → which (Defined d) ≡ None) → (adopts : Bool) (xs : List ListItem)
      → filter_map which (completed adopts xs) ≡ filter_map which xs
  chosen-completed no_type adopts xs =
      grind (arith, chosen-implied, filter_map-append, adopted-unchosen which no_type, append-nil)

module _ (adopts : Bool) (more : List Added) where
  abbrev pub items : List ListItem
  items = added_items (with_built_ins more)

  abbrev adopted_items : List ListItem
  adopted_items = cond adopts (adopted items) []

  -- what comes after the built-in definitions in all that the list means
  abbrev pub later_items : List ListItem
  later_items = (added_items more ++ adopted_items) ++ implied_schema adopts (with_adopted adopts items)

  pub items-split : items ≡ built_ins ++ added_items more
  items-split = map-append added_item _ more

  pub adopted-split : with_adopted adopts items ≡ built_ins ++ (added_items more ++ adopted_items)
  adopted-split = grind (arith, items-split, append_assoc, append-nil)

  pub whole-split : whole adopts (with_built_ins more) ≡ built_ins ++ later_items
  whole-split = simp (adopted-split, append_assoc)

  module _ (handed : AllByRecursion IsAddedByHand more) where
    unmarked-orphans : (n : List ℕ) → AllByRecursion IsUnmarked (orphans_of items n)
    unmarked-orphans n =
        let all : AllByRecursion IsUnmarked (filter_map extended_part items) =
        rw (items-split, filter_map-append, no-extensions)
        (unmarked-parts _ (handed-items more handed)).1 in
        elim (first items n) as (λ o. AllByRecursion IsUnmarked
        (option_map_or (λ _. []) o (extensions_of items n)))
        [ Some d ↦ tt | None ↦ each-weaken _ IsUnmarked (λ p h. h.0) _ (each-filter IsUnmarked _ _ all) ]

    handed-adopted : AllByRecursion IsHandedIn (adopted items)
    handed-adopted = each-flat_map IsHandedIn _ _
        (each-of _ (λ n. by (orphans_of items n) (unmarked-orphans n)) (extended_names items))
      where
        by : (ps : List TypePart) → AllByRecursion IsUnmarked ps → AllByRecursion IsHandedIn (adopted_by ps)
        by [] a = tt
        by (p ∷ ps) a = (a.0, tt)

    -- none of it is marked built-in
    pub handed-later : AllByRecursion IsHandedIn later_items
    handed-later = each-append IsHandedIn _ _ (each-append IsHandedIn _ adopted_items
        (handed-items more handed)
        (elim adopts as (λ b. AllByRecursion IsHandedIn (cond b (adopted items) []))
        [ true ↦ handed-adopted | false ↦ tt ])) (by_implied (AllByRecursion IsHandedIn) tt (λ s. (tt, tt))
        adopts (with_adopted adopts items))

    pub first-unmarked : (n : List ℕ) (d : TypePart) → first later_items n ≡ Some d → IsUnmarked d
    first-unmarked n d h = first-of IsUnmarked n _ d (unmarked-parts later_items handed-later).0 h

-- of what a schema is meant by, nothing is marked built-in, and each schema definition names a root
module _ (schema : Schema) (list : IsMeantByList schema) where
  pub handed : AllByRecursion IsAddedByHand list.more
  handed = recursion_from_All IsAddedByHand list.more list.within.unmarked

  pub rooted : AllByRecursion (λ s. s.parts.roots ≢ []) (filter_map defined_schema (added_items list.more))
  rooted = recursion_from_All _ _ list.within.rooted

-- an element of a list of which no two are the same is the same as none before it
pub new-after : {X : Type 0} (same : X → X → Bool) → IsEquivalence same → (xs : List X) (y : X) (ys : List X)
    → IsDistinct same (xs ++ y ∷ ys) → list_any (same y) xs ≡ false
unfolding IsDistinct
new-after same laws [] y ys d = refl
new-after same laws (x ∷ xs) y ys d =
    simp (laws.symm, (each-split _ xs (y ∷ ys) d.0).1.0, new-after same laws xs y ys d.1)

pub distinct-front : {X : Type 0} (same : X → X → Bool) (xs ys : List X) → IsDistinct same (xs ++ ys)
    → IsDistinct same xs
unfolding IsDistinct
distinct-front same [] ys d = tt
distinct-front same (x ∷ xs) ys d = ((each-split _ xs ys d.0).0, distinct-front same xs ys d.1)

-- elements each of which adds nothing after those before it add nothing, by themselves and where something is
-- made of each
pub none-added : {X Y : Type 0} (at : List X → X → List Y) (Q : List X → Type 0)
    → ((done : List X) (x : X) (rest : List X) → Q (done ++ x ∷ rest) → at done x ≡ []) → (done xs : List X)
    → Q (done ++ xs) → each_after at done xs ≡ []
none-added at Q none done [] q = refl
none-added at Q none done (x ∷ xs) q =
    simp (none done x xs q) (none-added at Q none (done ++ x ∷ []) xs (simp append_assoc q))

pub none-made : {X Z Y : Type 0} (at : List Z → Z → List Y) (before : List Z) (make : X → Z) (Q : List X
    → Type 0)
    → ((done : List X) (x : X) (rest : List X) → Q (done ++ x ∷ rest) → at (before ++ map make done) (make x)
    ≡ []) → (done xs : List X) → Q (done ++ xs) → each_after at (before ++ map make done) (map make xs) ≡ []
none-made at before make Q none done [] q = refl
none-made at before make Q none done (x ∷ xs) q =
    let more : (before ++ map make done) ++ make x ∷ [] ≡ before ++ map make (done ++ x ∷ []) =
    simp (map-append, append_assoc) in
    simp (none done x xs q, more) (none-made at before make Q none (done ++ x ∷ []) xs (simp append_assoc q))

-- names that differ from those before them, and from one another, collide with none
collisions-none : (c : Collection) (ty : NameView) (before : List NameView) (es : List Entry)
    → IsDistinct same_text (before ++ map (λ e. e.0) es) → collisions c ty before es ≡ []
collisions-none c ty before = none-added _ _ none []
  where
    none : (done : List Entry) (e : Entry) (rest : List Entry)
        → IsDistinct same_text (before ++ map (λ e. e.0) (done ++ e ∷ rest))
        → collision_at c ty (before ++ map (λ e. e.0) done) e ≡ []
    none done e rest d =
        let others = before ++ map (λ e. e.0) done in
        simp (find-none _ others (new-after same_text name_laws others e.0 (map (λ e. e.0) rest)
        (subst (IsDistinct same_text) (simp (map-append, append_assoc)) d)))

-- no two components of a collection have one name
abbrev pub HaveEachNameOnce : List TypePart → Type 0
HaveEachNameOnce ps = (c : Collection) → IsDistinct same_text (names_in (held_sort c) ps)

-- parts whose components differ are without fault, one after another
parts-none : (ps : List TypePart) (p : TypePart) (rest : List TypePart) → HaveEachNameOnce (ps ++ p ∷ rest)
    → part_faults ps p ≡ []
parts-none ps p rest once = flat_map-none _ none _
  where
    none : (c : Collection) → dropped_from ps p c ≡ []
    none c = collisions-none c p.name _ (entries_of (held_sort c) p) (distinct-front same_text _ _
        (subst (IsDistinct same_text) (flat_map-append _ ps _
        ∙ sym (append_assoc _ (map (λ e. e.0) (entries_of (held_sort c) p)) _)) (once c)))

-- an extension has the name and the kind of a definition
abbrev pub Fits : TypePart → TypePart → Type 0
Fits d e = (key_of e ≡ key_of d) × (kind_of e ≡ kind_of d)

module _ (d : TypePart) where
  pub fits-of_kind : (es : List TypePart) → AllByRecursion (Fits d) es → of_kind (kind_of d) es ≡ es
  fits-of_kind es a = filter-all _ es (each-weaken (Fits d) _ (λ e f. ap (same_kind (kind_of d)) f.1
      ∙ same_kind-refl _) es a)

  abbrev FitAndDiffer : List TypePart → Type 0
  FitAndDiffer es = AllByRecursion (Fits d) es × HaveEachNameOnce (d ∷ es)

  extension-none : (done : List TypePart) (e : TypePart) (rest : List TypePart)
      → FitAndDiffer (done ++ e ∷ rest) → found_at (Defined d ∷ map Extended done) (Extended e) ≡ []
  extension-none done e rest both =
      let fit = each-split (Fits d) done _ both.0 in
      let f = fit.1.0 in
      let named = filter-all _ done (each-weaken (Fits d) _ (λ p fits. same-is _ _ (f.0 ∙ sym fits.0)) done
      fit.0) in
      let kind : same_kind (kind_of d) (kind_of e) ≡ true = ap (same_kind (kind_of d)) f.1
      ∙ same_kind-refl _ in
      simp (same-is (key_of e) (key_of d) f.0, filter_map-made, named, fits-of_kind done fit.0, kind)
      (parts-none (d ∷ done) e rest both.1)

  -- a definition and the extensions after it
  pub type-faultless : (es : List TypePart) → AllByRecursion (Fits d) es → HaveEachNameOnce (d ∷ es)
      → each_after found_at [] (Defined d ∷ map Extended es) ≡ []
  type-faultless es fit h = simp (append-nil, parts-none [] d es h)
      (none-made found_at (Defined d ∷ []) Extended FitAndDiffer extension-none [] es (fit, h))
