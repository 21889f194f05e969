-- A plain list has as many faults as the list.
use Rattle.apollo_canonical.proofs as canonical
use canonical.Prelude.{Bool, Collection, Defined, Definition, Entry, Extended, Fault, Fields, InputFields}
use canonical.Prelude.{List, ListItem, NameView, Names, None, Option, Other, Root, SchemaDefined}
use canonical.Prelude.{SchemaExtended, SchemaPart, Some, Sort, TypePart, Values, [], ap, arith}
use canonical.Prelude.{bare_directive_node, bare_name, bare_node, bare_other, bare_root_operation}
use canonical.Prelude.{collision_at, collisions, completed, completed-unplaced, directive_definitions}
use canonical.Prelude.{directives-unplaced, dropped_from, each_after, entries_of, extended_names}
use canonical.Prelude.{extended_names-unplaced, extension_faults, extensions-unplaced, extensions_of}
use canonical.Prelude.{faults_in, find-bare, find-made, first-unplaced, first_schema, first_schema-unplaced}
use canonical.Prelude.{flat_map, flat_map-map, found, found_at, further_definition, further_schema, held_sort}
use canonical.Prelude.{implied_schema, implied_schema-unplaced, joining_fault, key_of, kind_of, map}
use canonical.Prelude.{map-append, map-flat_map, map-map, mark-kept, name_entries, named_entries, names_in}
use canonical.Prelude.{of_kind, of_kind-unplaced, option_map, option_map_or, orphan, orphans-unplaced}
use canonical.Prelude.{orphans_of, other_faults, part_faults, refl, roots-unplaced, same_operation, same_text}
use canonical.Prelude.{schema_begun_faults, schema_extensions, schema_extensions-unplaced, schema_faults}
use canonical.Prelude.{schema_orphan, schema_orphans, sym, true, unless-unplaced, with_adopted}
use canonical.Prelude.{with_adopted-unplaced, ℕ, ◌++◌, ◌∙◌, ◌∷◌, ◌≡◌}
use canonical.Schemas.Plain.{plain_item, plain_list, plain_part, plain_schema_part}
use canonical.Schemas.PlainTypes.{held-plain}
use canonical.Schemas.Carried.{each_after-carried}
use Rattle.apollo_meaning.specs.Faults.RootFaults.{root_fault}
use Rattle.apollo_meaning.proofs.Prelude.{Directives}
use Rattle.apollo_meaning.specs.Steps.Joining.{type_begun_faults}
use Rattle.apollo_meaning.proofs.Completion.CompletionLemmas.{faults-completed}
use Rattle.graphql_ast.specs.declared.definition.Definition.TheVariants as ast

-- ---- components and roots that are dropped

-- of faults only how many there are
abbrev pub blank : Fault → ℕ
blank f = 0

abbrev pub count : List Fault → List ℕ
count = map blank

-- of two lists
pub count-append : (us vs fs gs : List Fault) → count us ≡ count fs → count vs ≡ count gs
    → count (us ++ vs) ≡ count (fs ++ gs)
count-append us vs fs gs e f = simp (map-append, e, f)

-- a component's name
abbrev bare_entry : Entry → Entry
bare_entry e = (bare_name e.0, None)

-- the components that are dropped
collisions-count : (c : Collection) (ty other : NameView) (before : List NameView) (es : List Entry)
    → count (collisions c ty (map bare_name before) (map bare_entry es))
    ≡ count (collisions c other before es)
collisions-count c ty other before es = each_after-carried _ _ bare_entry blank blank agree [] es
  where
    names : (done : List Entry)
        → map bare_name before ++ map (λ e. e.0) (map bare_entry done)
        ≡ map bare_name (before ++ map (λ e. e.0) done)
    names done = simp (map-append, map-map)

    agree : (done : List Entry) (e : Entry)
        → count (collision_at c ty (map bare_name before ++ map (λ e. e.0) (map bare_entry done))
        (bare_entry e)) ≡ count (collision_at c other (before ++ map (λ e. e.0) done) e)
    agree done e = ap (λ l. count (collision_at c ty l (bare_entry e))) (names done)
        ∙ grind (arith, find-made (same_text e.0) bare_name (before ++ map (λ e. e.0) done))

-- what parts hold of a sort, and its names
entries-plain : (s : Sort) (p : TypePart) → entries_of s (plain_part p) ≡ map bare_entry (entries_of s p)
entries-plain Names p = ap name_entries (held-plain Names p) ∙ simp map-map
entries-plain Fields p = ap (named_entries (λ f. f.name)) (held-plain Fields p) ∙ simp map-map
entries-plain Values p = ap (named_entries (λ v. v.value)) (held-plain Values p) ∙ simp map-map
entries-plain InputFields p = ap (named_entries (λ f. f.name)) (held-plain InputFields p) ∙ simp map-map
entries-plain s p = refl

names-plain : (s : Sort) (ps : List TypePart) → names_in s (map plain_part ps) ≡ map bare_name (names_in s ps)
names-plain s ps = simp (flat_map-map, map-flat_map, map-map) (λ i. flat_map
    (λ (p : TypePart). (ap (map (λ (e : Entry). e.0)) (entries-plain s p) ∙ map-map _ bare_entry _) i) ps)

-- so as many are dropped where a part joins others
pub part-count : (ps : List TypePart) (p : TypePart)
    → count (part_faults (map plain_part ps) (plain_part p)) ≡ count (part_faults ps p)
part-count ps p = all _
  where
    all : (cs : List Collection)
        → count (flat_map (dropped_from (map plain_part ps) (plain_part p)) cs)
        ≡ count (flat_map (dropped_from ps p) cs)
    all [] = refl
    all (c ∷ cs) = count-append _ _ _ _
        ((λ i. count (collisions c (bare_name p.name) (names-plain (held_sort c) ps i) (entries-plain
        (held_sort c) p i))) ∙ collisions-count c _ p.name _ (entries_of (held_sort c) p)) (all cs)

-- and as many roots
root-count : (before : List Root) (r : Root)
    → count (root_fault (map (bare_node bare_root_operation) before) (bare_node bare_root_operation r))
    ≡ count (root_fault before r)
root-count before r = grind (
  arith,
  find-made (λ (k : Root). same_operation r.value.0 k.value.0) (bare_node bare_root_operation) before,
)

pub schema-count : (ps : List SchemaPart) (s : SchemaPart)
    → count (schema_faults (map plain_schema_part ps) (plain_schema_part s)) ≡ count (schema_faults ps s)
schema-count ps s = rw (
  roots-unplaced true ps,
  each_after-carried root_fault root_fault _ blank blank root-count _ s.parts.roots,
)

-- ---- the faults of a list

-- where an extension joins parts behind a definition and extensions
after-count : (d : TypePart) (ps before : List TypePart) (e : TypePart)
    → count (joining_fault (plain_part d) (map plain_part ps ++ of_kind (kind_of (plain_part d))
    (map plain_part before)) (plain_part e)) ≡ count (joining_fault d (ps ++ of_kind (kind_of d) before) e)
after-count d ps before e = ap (λ l. count (joining_fault (plain_part d) l (plain_part e)))
    (ap (λ l. map plain_part ps ++ l) (of_kind-unplaced true d before) ∙ sym (map-append plain_part ps _))
    ∙ grind (arith, part-count (ps ++ of_kind (kind_of d) before) e)

begun-count : (d : TypePart) (es : List TypePart)
    → count (type_begun_faults (plain_part d) (map plain_part es)) ≡ count (type_begun_faults d es)
begun-count d es = count-append _ _ _ _ (part-count [] d) (each_after-carried _ _ plain_part blank blank
    (after-count d (d ∷ [])) [] es)

further-count : (f d : TypePart)
    → count (further_definition (plain_part f) (plain_part d)) ≡ count (further_definition f d)
further-count f d = grind (arith, mark-kept f.location)

-- of the schema
schema_begun-count : (s : SchemaPart) (es : List SchemaPart)
    → count (schema_begun_faults (plain_schema_part s) (map plain_schema_part es))
    ≡ count (schema_begun_faults s es)
schema_begun-count s es = count-append _ _ _ _ (schema-count [] s) (each_after-carried schema_faults
    schema_faults plain_schema_part blank blank schema-count (s ∷ []) es)

-- of a directive definition
other-count : (ds : Directives) (d : Definition)
    → count (other_faults (map bare_directive_node ds) (bare_other d)) ≡ count (other_faults ds d)
other-count ds (ast.DirectiveDefinition n) = grind (arith, find-bare n.value.name.text ds)
other-count ds d = refl

-- where something is found
or-count : {A B : Type 0} (plain : A → B) (f : B → List Fault) (g : A → List Fault)
    → ((a : A) → count (f (plain a)) ≡ count (g a)) → (o : Option A)
    → count (option_map_or f (option_map plain o) []) ≡ count (option_map_or g o [])
or-count plain f g agree None = refl
or-count plain f g agree (Some a) = agree a

-- at an item
at-count : (before : List ListItem) (x : ListItem)
    → count (found_at (plain_list before) (plain_item x)) ≡ count (found_at before x)
at-count before (Defined d) =
    (λ i. count (option_map_or (λ f. further_definition f (plain_part d))
    (first-unplaced true before (key_of d) i) (type_begun_faults (plain_part d)
    (extensions-unplaced true before (key_of d) i))))
    ∙ grind (arith, begun-count d (extensions_of before (key_of d)), further-count)
at-count before (Extended e) =
    (λ i. count (option_map_or (λ d. extension_faults d (extensions-unplaced true before (key_of e) i)
    (plain_part e)) (first-unplaced true before (key_of e) i) []))
    ∙ or-count plain_part _ _ (λ d. after-count d (d ∷ []) _ e) _
at-count before (SchemaDefined s) =
    (λ i. count (option_map_or (λ f. further_schema f (plain_schema_part s) ∷ []) (first_schema-unplaced true
    before i) (schema_begun_faults (plain_schema_part s) (schema_extensions-unplaced true before i))))
    ∙ grind (arith, schema_begun-count s (schema_extensions before))
at-count before (SchemaExtended e) =
    (λ i. count (option_map_or (λ s. schema_faults (s ∷ schema_extensions-unplaced true before i)
    (plain_schema_part e)) (first_schema-unplaced true before i) []))
    ∙ or-count plain_schema_part (λ s. schema_faults (s ∷ map plain_schema_part (schema_extensions before))
    (plain_schema_part e)) (λ s. schema_faults (s ∷ schema_extensions before) e)
    (λ s. schema-count (s ∷ schema_extensions before) e) (first_schema before)
at-count before (Other d) = ap (λ ds. count (other_faults ds (bare_other d)))
    (directives-unplaced true before) ∙ other-count (directive_definitions before) d

-- in the whole list
orphans-count : (xs : List ListItem)
    → count (map orphan (flat_map (orphans_of (plain_list xs)) (extended_names (plain_list xs))))
    ≡ count (map orphan (flat_map (orphans_of xs) (extended_names xs)))
orphans-count xs = ap (λ l. count (map orphan l)) (ap (flat_map (orphans_of (plain_list xs)))
    (extended_names-unplaced true xs) ∙ (λ i. flat_map (λ n. orphans-unplaced true xs n i)
    (extended_names xs)) ∙ sym (map-flat_map plain_part _ (extended_names xs))) ∙ simp map-map

schema_orphans-count : (xs : List ListItem)
    → count (map schema_orphan (schema_orphans (plain_list xs)))
    ≡ count (map schema_orphan (schema_orphans xs))
schema_orphans-count xs =
    ap (λ l. count (map schema_orphan l)) ((λ i. option_map_or (λ _. []) (first_schema-unplaced true xs i)
    (schema_extensions-unplaced true xs i)) ∙ unless-unplaced plain_schema_part plain_schema_part _ _)
    ∙ simp map-map

pub faults-count : (adopts : Bool) (xs : List ListItem)
    → count (faults_in adopts (plain_list xs)) ≡ count (faults_in adopts xs)
faults-count adopts xs = ap count (faults-completed adopts _)
    ∙ (λ i. count (found (with_adopted-unplaced true xs adopts i)
    ++ (map orphan (flat_map (orphans_of (with_adopted-unplaced true xs adopts i))
    (extended_names (with_adopted-unplaced true xs adopts i)))
    ++ (each_after found_at (with_adopted-unplaced true xs adopts i)
    (implied_schema adopts (with_adopted-unplaced true xs adopts i))
    ++ map schema_orphan (schema_orphans (completed-unplaced true adopts xs i))))))
    ∙ count-append _ _ (found ys) _ (each_after-carried found_at found_at plain_item blank blank at-count []
    ys) (count-append _ _ (map orphan (flat_map (orphans_of ys) (extended_names ys))) _ (orphans-count ys)
    (count-append _ _ (each_after found_at ys (implied_schema adopts ys)) _
    (ap (λ l. count (each_after found_at (plain_list ys) l)) (implied_schema-unplaced true ys adopts)
    ∙ each_after-carried found_at found_at plain_item blank blank at-count ys (implied_schema adopts ys))
    (schema_orphans-count (completed adopts xs)))) ∙ ap count (sym (faults-completed adopts xs))
  where
    ys : List ListItem
    ys = with_adopted adopts xs
