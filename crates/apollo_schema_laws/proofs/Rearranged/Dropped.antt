-- The faults of a list that are of what is dropped as a whole, sort by sort: operations and fragments,
-- definitions that stand after the first one of their key, and extensions without a definition.
use Rattle.apollo_meaning.proofs.Prelude.{Added, added_items, adopted, all-kept, ap, append-nil, append_assoc}
use Rattle.apollo_meaning.proofs.Prelude.{arith, Bool, completed, cond, cons_option, defined_part}
use Rattle.apollo_meaning.proofs.Prelude.{defined_schema, directive_definitions, DirectiveDefinition}
use Rattle.apollo_meaning.proofs.Prelude.{each_after, enumerate_from, extended_names, extended_part}
use Rattle.apollo_meaning.proofs.Prelude.{extended_schema, extension_places, false, Family, Fault, filter}
use Rattle.apollo_meaning.proofs.Prelude.{filter-append, filter_map, filter_map-numbered, find, first_place}
use Rattle.apollo_meaning.proofs.Prelude.{first_schema, flat_map, found_at, further_schema, key_of, length}
use Rattle.apollo_meaning.proofs.Prelude.{length-append, List, ListItem, lookup-keyed, map, map-append}
use Rattle.apollo_meaning.proofs.Prelude.{map-map, nat_tests, NodeView, None, not, Option, option_map}
use Rattle.apollo_meaning.proofs.Prelude.{option_map_or, orphan, orphans_of, Other, Placed, placed_by, refl}
use Rattle.apollo_meaning.proofs.Prelude.{Root, roots_in, same, same-true, schema_extensions, schema_for}
use Rattle.apollo_meaning.proofs.Prelude.{schema_orphan, schema_orphans, SchemaPart, schemas, Some, sym, true}
use Rattle.apollo_meaning.proofs.Prelude.{TypePart, types, whole, with_adopted, ℕ, [], ◌&&◌, ◌++◌, ◌∙◌, ◌∷◌}
use Rattle.apollo_meaning.proofs.Prelude.{◌≡◌, ◌≤◌}
use Rattle.apollo_schema_laws.proofs.Rearranged.Words.{directive_part, faults_in, faults_of, filter-map}
use Rattle.apollo_schema_laws.proofs.Rearranged.Words.{filter_agree, has_text, implicit_roots, is_handed_in}
use Rattle.apollo_schema_laws.proofs.Rearranged.Words.{option_cases}
use Rattle.std.specs.Prelude.{is_none, nat_lt}
use Rattle.apollo_meaning.proofs.Order.PlaceLemmas.{first-forget, first-none, first-some, first_place-below}
use Rattle.apollo_meaning.proofs.Order.PlaceLemmas.{first_place-push, first_schema-none, first_schema-some}
use Rattle.apollo_schema_laws.specs.Dropped.{after_first, Dropped, executable_fault, first_before}
use Rattle.apollo_schema_laws.specs.Dropped.{further_directive, further_directives, further_schemas}
use Rattle.apollo_schema_laws.specs.Dropped.{further_types, handed_in, is_passed_over}
use Rattle.apollo_meaning.specs.Faults.TypeFaults.{further_type}
use Rattle.apollo_schema_laws.specs.Dropped.{orphans_by_name, undefined_places}
use Rattle.graphql_ast.specs.declared.definition.Definition.TheVariants as ast
use Rattle.apollo_schema_laws.specs.Reported.{Executable, FurtherDirective, FurtherSchema, FurtherType}
use Rattle.apollo_schema_laws.specs.Reported.{OrphanOfSchema, OrphanOfType, Sort}
use Rattle.apollo_schema_laws.proofs.Items.{chosen-completed, chosen-implied}
use Rattle.apollo_schema_laws.proofs.Rearranged.Sorts.{all-stay, AllOf, dropped-kept, found_at-dropped}
use Rattle.apollo_schema_laws.proofs.Rearranged.Sorts.{has_sort, is_of_orphan, kept_at, none-stay}
use Rattle.apollo_schema_laws.proofs.Rearranged.Sorts.{orphans_of_schema, reported-found, reported-parts}
use Rattle.apollo_schema_laws.proofs.Rearranged.Sorts.{subject_of, type_orphans}
use Rattle.apollo_schema_laws.proofs.Subjects.{NoSubject}
use Rattle.apollo_meaning.proofs.Completion.CompletionLemmas.{orphan_names-adopted}
use Rattle.apollo_meaning.proofs.Items.ItemLemmas.{first_schema-push_definition}
use Rattle.apollo_meaning.specs.Completion.OrphanNames.{first_name}
use Rattle.apollo_component.proofs.Lists.Kept.{each-made, filter-filter}
use Rattle.apollo_component.proofs.Lists.Reordered.{map-flat_map}

module _ {P : Type 0} (f : Family P) where
  -- one more item leaves what stands before its place
  first_before-push : (xs : List ListItem) (x : ListItem) (n : List ℕ) (i : ℕ) → i ≤ length xs
      → first_before f (xs ++ x ∷ []) n i ≡ first_before f xs n i
  first_before-push xs x n i within =
      let past : nat_lt (length xs) i ≡ false = grind (arith, nat_tests, within) in
      grind (arith, first_place-push, past)

  -- and so do more items
  first_before-append : (xs ys : List ListItem) (n : List ℕ) (i : ℕ) → i ≤ length xs
      → first_before f (xs ++ ys) n i ≡ first_before f xs n i
  first_before-append xs [] n i within = simp append-nil
  first_before-append xs (y ∷ ys) n i within =
      let more = first_before-append (xs ++ y ∷ []) ys n i
      (omega (arith, within, length-append xs (y ∷ []))) in
      grind (arith, append_assoc, more, first_before-push)

  -- before the end of a list stands its first definition
  first_before-end : (xs : List ListItem) (n : List ℕ) → first_before f xs n (length xs) ≡ first_place f xs n
  first_before-end xs n = grind (arith, nat_tests, first_place-below f xs n)

  -- a definition that stands after the first one of its key, with that one
  abbrev with_first : List ListItem → Option P → List (Dropped P)
  with_first before o = option_map_or (λ p. option_map_or (λ d. (d, (length before, p))
      ∷ []) (first_place f before (f.key p)) []) o []

  -- by places they are as they come
  after_first-on : (which : ListItem → Option P) (before xs : List ListItem)
      → after_first f (before ++ xs) (filter_map (placed_by which) (enumerate_from (length before) xs))
      ≡ each_after (λ before x. with_first before (which x)) before xs
  after_first-on which before [] = refl
  after_first-on which before (x ∷ xs) =
      let rest = after_first-on which (before ++ x ∷ []) xs in
      option_cases (which x) (λ e. grind (arith, e, append_assoc, length-append, rest)) (λ p e.
      let here = first_before-append before (x ∷ xs) (f.key p) (length before) (omega arith) in
      grind (arith, e, here, first_before-end, append_assoc, length-append, rest))

-- what is made of what elements add one after another, where it is made of joined lists one by one
each_after-made : {X Y Z : Type 0} (make : List Y → List Z) → make [] ≡ []
    → ((ys zs : List Y) → make (ys ++ zs) ≡ make ys ++ make zs) → (at : List X → X → List Y)
    → (before xs : List X)
    → make (each_after at before xs) ≡ each_after (λ before x. make (at before x)) before xs
each_after-made make none both at before [] = none
each_after-made make none both at before (x ∷ xs) =
    simp (both, each_after-made make none both at (before ++ x ∷ []) xs)

module _ {P Y : Type 0} (f : Family P) (test : Dropped P → Bool) (fault : Dropped P → Y) where
  -- the fault of a definition that stands after the first one of its key, if the two pass a test
  abbrev faults_after : List ListItem → Option P → List Y
  faults_after before o = map fault (filter test (with_first f before o))

module _ (s : Sort) (plain : subject_of s ≡ NoSubject) where
  -- the faults of a sort that is about nothing are those of the items of the sort
  found-dropped : (before xs : List ListItem)
      → filter (has_sort s) (each_after found_at before xs) ≡ each_after (kept_at s) before xs
  found-dropped before xs = each_after-made (filter (has_sort s)) refl (filter-append _) found_at before xs
      ∙ (λ i. each_after (λ before x. (found_at-dropped s plain before x ∙ dropped-kept s before x) i) before
      xs)

  -- seen in the whole list
  reported-dropped : is_of_orphan s ≡ false → (at : List ListItem → ListItem → List Fault)
      → ((before : List ListItem) (x : ListItem) → kept_at s before x ≡ at before x)
      → (adopts : Bool) (xs : List ListItem)
      → filter (has_sort s) (faults_in adopts xs) ≡ each_after at [] (completed adopts xs)
  reported-dropped apart at is adopts xs = reported-found s adopts xs apart ∙ found-dropped [] _
      ∙ (λ i. each_after (λ before x. is before x i) [] (completed adopts xs))

  -- by places they are those of definitions after the first one of their key
  reported-further : {P : Type 0} (f : Family P) (test : Dropped P → Bool) (fault : Dropped P
      → Fault) (which : ListItem → Option P) → is_of_orphan s ≡ false
      → ((before : List ListItem) (x : ListItem) → kept_at s before x ≡ faults_after f test fault before
      (which x)) → (adopts : Bool) (xs : List ListItem)
      → filter (has_sort s) (faults_in adopts xs)
      ≡ map fault (filter test (after_first f (completed adopts xs) (filter_map (placed_by which)
      (enumerate_from 0 (completed adopts xs)))))
  reported-further {P} f test fault which apart is adopts xs =
      let made = λ (l : List (Dropped P)). map fault (filter test l) in
      reported-dropped apart _ is adopts xs
      ∙ sym (each_after-made made refl (λ ps qs. simp (filter-append, map-append))
      (λ before x. with_first f before (which x)) [] _) ∙ ap made (sym (after_first-on f which [] _))

-- a directive definition of a name that is handed in
abbrev is_handed_in_of : List ℕ → NodeView DirectiveDefinition → Bool
is_handed_in_of n d = has_text n d && is_handed_in d

-- the first of a name, without its place and with it
first-handed_in : (xs : List ListItem) (n : List ℕ)
    → find (is_handed_in_of n) (directive_definitions xs) ≡ option_map (λ e. e.1) (first_place handed_in xs n)
first-handed_in xs n = simp (first-forget, lookup-keyed) (on xs)
  where
    on : (xs : List ListItem)
        → find (is_handed_in_of n) (directive_definitions xs)
        ≡ find (has_text n) (filter_map handed_in.defined xs)
    on [] = refl
    on (x ∷ xs) = grind (arith, on xs)

-- the fault of an item that is an operation or a fragment
abbrev executable : ListItem → Option Fault
executable (Other d) = executable_fault d
executable x = None

executable-added : (xs : List Added)
    → filter_map executable (added_items xs) ≡ filter_map (λ a. executable_fault a.1) xs
executable-added [] = refl
executable-added (a ∷ xs) = grind (arith, executable-added xs)

-- what is chosen of each item, one after another
chosen-after : {X Y : Type 0} (which : X → Option Y) (before xs : List X)
    → each_after (λ before x. cons_option (which x) []) before xs ≡ filter_map which xs
chosen-after which before [] = refl
chosen-after which before (x ∷ xs) = grind (arith, chosen-after which (before ++ x ∷ []) xs)

-- the fault that is said of a further definition and the first one
abbrev told : {P : Type 0} → (P → P → Fault) → Dropped P → Fault
told say p = say p.0.1 p.1.1

module _ (adopts : Bool) (xs : List Added) where
  -- the further definitions of the schema
  pub reported-further_schemas : filter (has_sort FurtherSchema) (faults_of adopts xs)
      ≡ map (told further_schema) (further_schemas (whole adopts xs))
  reported-further_schemas = reported-further FurtherSchema refl schemas (λ _. true) (told further_schema)
      defined_schema refl (λ before x. grind (arith, first_schema-none before, first_schema-some before))
      adopts (added_items xs) ∙ ap (map (told further_schema)) (sym (all-kept _))

  -- the further definitions of types that are not passed over
  pub reported-further_types : filter (has_sort FurtherType) (faults_of adopts xs)
      ≡ map (told further_type) (filter (λ p. not (is_passed_over p)) (further_types (whole adopts xs)))
  reported-further_types = reported-further FurtherType refl types (λ p. not (is_passed_over p))
      (told further_type) defined_part refl (λ before x. option_cases (defined_part x) (λ e. grind (arith, e))
      (λ d e. grind (arith, e, first-forget types before (key_of d)))) adopts (added_items xs)

  -- the further definitions of directives
  pub reported-further_directives : filter (has_sort FurtherDirective) (faults_of adopts xs)
      ≡ map (told further_directive) (further_directives (whole adopts xs))
  reported-further_directives = reported-further FurtherDirective refl handed_in (λ _. true)
      (told further_directive) directive_part refl is adopts (added_items xs)
      ∙ ap (map (told further_directive)) (sym (all-kept _))
    where
      is : (before : List ListItem) (x : ListItem)
          → kept_at FurtherDirective before x ≡ faults_after handed_in (λ _. true) (told further_directive)
          before (directive_part x)
      is before (Other (ast.DirectiveDefinition d)) = grind (arith, first-handed_in before d.value.name.text)
      is before x = grind arith

  -- the operations and fragments
  pub reported-executables : filter (has_sort Executable) (faults_of adopts xs)
      ≡ filter_map (λ a. executable_fault a.1) xs
  reported-executables = reported-dropped Executable refl refl (λ before x. cons_option (executable x) [])
      (λ before x. grind arith) adopts _ ∙ chosen-after executable [] (whole adopts xs)
      ∙ chosen-completed executable (λ s. refl) (λ d. refl) adopts _ ∙ executable-added xs

none-kept : {X : Type 0} (xs : List X) → filter (λ _. false) xs ≡ []
none-kept [] = refl
none-kept (x ∷ xs) = none-kept xs

module _ (s : Sort) (orphan : is_of_orphan s ≡ true) where
  -- no orphan is found at an item
  nothing-found : (before xs : List ListItem) → filter (has_sort s) (each_after found_at before xs) ≡ []
  nothing-found before xs =
      let none : (before : List ListItem) (x : ListItem) → kept_at s before x ≡ [] =
      λ before x. grind (arith, orphan) in
      found-dropped s (grind (arith, orphan)) before xs ∙ (λ i. each_after (λ before x. none before x i)
      before xs) ∙ sym (each_after-made (λ _. []) refl (λ ys zs. refl) found_at before xs)

  reported-both : (adopts : Bool) (xs : List ListItem)
      → filter (has_sort s) (faults_in adopts xs) ≡ filter (has_sort s) (type_orphans adopts xs)
      ++ filter (has_sort s) (orphans_of_schema adopts xs)
  reported-both adopts xs = simp (reported-parts, nothing-found)

-- parts without their places
abbrev bare : {P : Type 0} → List (Placed P) → List P
bare es = map (λ e. e.1) es

-- the orphans of a name, with their places and without
orphans-placed : (xs : List ListItem) (n : List ℕ)
    → orphans_of xs n ≡ bare (filter (λ e. same n (key_of e.1)) (undefined_places types xs))
orphans-placed xs n =
    option_cases (first_place types xs n)
    (λ is. grind (arith, first-none, kept None is, filter-map, filter_map-numbered extended_part 0 xs))
    (λ z is. simp (first-some xs n z is, kept (Some z) is, none-kept))
  where
    kept : (o : Option (Placed TypePart)) → first_place types xs n ≡ o
        → filter (λ e. same n (key_of e.1)) (undefined_places types xs)
        ≡ filter (λ e. cond (is_none o) (same n (key_of e.1)) false) (extension_places types xs)
    kept o is =
        let agree : (e : Placed TypePart) → (is_none (first_place types xs (key_of e.1))
        && same n (key_of e.1)) ≡ cond (is_none o) (same n (key_of e.1)) false =
        λ e. grind (arith, is, same-true n (key_of e.1)) in
        grind (arith, filter-filter, filter_agree _ _ agree (extension_places types xs))

-- the orphans of a list that is adopted or not, as faults, and those of the schema
module _ (adopts : Bool) (xs : List ListItem) where
  of_types : AllOf OrphanOfType (type_orphans adopts xs)
  of_types = each-made _ orphan (λ e. refl) _

  of_schema : AllOf OrphanOfSchema (orphans_of_schema adopts xs)
  of_schema = each-made _ schema_orphan (λ e. refl) _

  orphans-reported : filter (has_sort OrphanOfType) (faults_in adopts xs) ≡ type_orphans adopts xs
  orphans-reported = reported-both OrphanOfType refl adopts xs
      ∙ (λ i. all-stay _ _ of_types i ++ none-stay OrphanOfType _ _ refl of_schema i) ∙ append-nil _

  schema_orphans-reported : filter (has_sort OrphanOfSchema) (faults_in adopts xs)
      ≡ orphans_of_schema adopts xs
  schema_orphans-reported = reported-both OrphanOfSchema refl adopts xs
      ∙ (λ i. none-stay OrphanOfSchema _ _ refl of_types i ++ all-stay _ _ of_schema i)

-- the extensions of types that have no definition
pub reported-orphans : (adopts : Bool) (xs : List Added)
    → filter (has_sort OrphanOfType) (faults_of adopts xs)
    ≡ map (λ e. orphan e.1) (orphans_by_name (whole adopts xs))
reported-orphans adopts xs = orphans-reported adopts _
    ∙ ap (map orphan) (implied ∙ (λ i. flat_map (λ n. orphans-placed (whole adopts xs) n i)
    (extended_names (whole adopts xs)))) ∙ simp (map-flat_map, map-map)
  where
    list : List ListItem
    list = with_adopted adopts (added_items xs)

    implied : flat_map (orphans_of list) (extended_names list)
        ≡ flat_map (λ n. orphans_of (whole adopts xs) n) (extended_names (whole adopts xs))
    implied = simp (chosen-implied defined_part (λ s. refl) adopts list)
        (simp (chosen-implied extended_part (λ s. refl) adopts list))

-- where they are adopted there are none
pub no-orphans : (xs : List Added) → filter (has_sort OrphanOfType) (faults_of true xs) ≡ []
no-orphans xs = orphans-reported true ys
    ∙ ap (map orphan) (on (orphans_of (ys ++ adopted ys)) _ (orphan_names-adopted ys))
  where
    ys : List ListItem
    ys = added_items xs

    on : (of_name : List ℕ → List TypePart) (ns : List (List ℕ))
        → flat_map (λ n. first_name (of_name n)) ns ≡ [] → flat_map of_name ns ≡ []
    on of_name [] none = refl
    on of_name (n ∷ ns) none = grind (arith, none, on of_name ns)

-- the extensions of the schema where it has no definition
pub reported-schema_orphans : (adopts : Bool) (xs : List Added)
    → filter (has_sort OrphanOfSchema) (faults_of adopts xs) ≡ map (λ e. schema_orphan e.1)
    (undefined_places schemas (whole adopts xs))
reported-schema_orphans adopts xs = schema_orphans-reported adopts _ ∙ ap (map schema_orphan) placed
    ∙ map-map schema_orphan _ _
  where
    ys : List ListItem
    ys = whole adopts xs

    placed : schema_orphans ys ≡ bare (undefined_places schemas ys)
    placed = option_cases (first_place schemas ys []) (λ is. simp (first_schema-none ys is, is)
        (sym (ap bare (sym (all-kept _)) ∙ filter_map-numbered extended_schema 0 ys)))
        (λ z is. simp (first_schema-some ys z is, is, none-kept))

-- where they are adopted there are none
pub no-schema_orphans : (xs : List Added) → filter (has_sort OrphanOfSchema) (faults_of true xs) ≡ []
no-schema_orphans xs = schema_orphans-reported true (added_items xs) ∙ ap (map schema_orphan)
    (by (first_schema ys) refl (roots_in (schema_extensions ys)) (implicit_roots ys))
  where
    ys : List ListItem
    ys = with_adopted true (added_items xs)

    by : (o : Option SchemaPart) → first_schema ys ≡ o → (roots implicit : List Root)
        → schema_orphans (ys ++ option_map_or (λ _. []) o (schema_for true roots implicit)) ≡ []
    by (Some s) is roots implicit = simp (append-nil ys, is)
    by None is roots implicit = grind (arith, is, first_schema-push_definition ys)
