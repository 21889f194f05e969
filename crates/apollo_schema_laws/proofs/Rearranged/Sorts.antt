-- The sorts of the faults that are found, and what they are about. Which faults are found at an item, of what
-- it is about or for the item itself. And those of a sort among all faults of a list.
use Rattle.apollo_meaning.proofs.Prelude.{Added, all-kept, AllByRecursion, ap, append-nil, arith, Bool}
use Rattle.apollo_meaning.proofs.Prelude.{completed, cond, Defined, defined_schema, directive_definitions}
use Rattle.apollo_meaning.proofs.Prelude.{each-filter, each-weaken, each_after, each_after-append}
use Rattle.apollo_meaning.proofs.Prelude.{Extended, extended_names, extended_part, extension_faults}
use Rattle.apollo_meaning.proofs.Prelude.{extension_places, extensions_of, false, Family, Fault, filter}
use Rattle.apollo_meaning.proofs.Prelude.{filter-append, filter_map, filter_map-append, filter_map-numbered}
use Rattle.apollo_meaning.proofs.Prelude.{first, first_place, first_schema, flat_map, found, found_at}
use Rattle.apollo_meaning.proofs.Prelude.{further_definition, further_schema, implied_schema, is_folded}
use Rattle.apollo_meaning.proofs.Prelude.{joined_faults, key_of, kind_of, List, ListItem, map, map-map, None}
use Rattle.apollo_meaning.proofs.Prelude.{not, of_kind, Option, option_map_or, orphan, orphans_of, Other}
use Rattle.apollo_meaning.proofs.Prelude.{other_faults, part_faults, Placed, refl, Root, same, same-is}
use Rattle.apollo_meaning.proofs.Prelude.{same-true, same_kind, schema_begun_faults, schema_extensions}
use Rattle.apollo_meaning.proofs.Prelude.{schema_faults, schema_orphan, schema_orphans, SchemaDefined}
use Rattle.apollo_meaning.proofs.Prelude.{SchemaExtended, SchemaPart, schemas, slice_get, snoc_ind, Some}
use Rattle.apollo_meaning.proofs.Prelude.{subst, sym, true, TypePart, types, whole, with_adopted, ℕ, [], ◌&&◌}
use Rattle.apollo_meaning.proofs.Prelude.{◌++◌, ◌∙◌, ◌∷◌, ◌≡◌}
use Rattle.apollo_meaning.specs.Faults.TypeFaults.{entries_of}
use Rattle.apollo_schema_laws.proofs.Rearranged.Words.{each-append, faults-completed, faults_in, faults_of}
use Rattle.apollo_schema_laws.proofs.Rearranged.Words.{filter-each, filter-fails, filter-map, filter-wider}
use Rattle.apollo_schema_laws.proofs.Rearranged.Words.{filter_agree, found-push, found_of_schema}
use Rattle.apollo_schema_laws.proofs.Rearranged.Words.{found_of_type, IsTest, joining_fault, kind_mismatch}
use Rattle.apollo_schema_laws.proofs.Rearranged.Words.{root_fault, root_faults, type_begun_faults}
use Rattle.apollo_meaning.specs.Faults.TypeFaults.{collections_of, held_sort}
use Rattle.apollo_schema_laws.specs.Reported.{Executable, FurtherDirective, FurtherSchema, FurtherType}
use Rattle.apollo_schema_laws.specs.Reported.{is_of_sort, OrphanOfSchema, OrphanOfType, OtherKind}
use Rattle.apollo_schema_laws.specs.Reported.{RepeatedComponent, RepeatedRoot, same_sort, Sort, sort_of}
use Rattle.graphql_nodes.proofs.Texts.{same-refl}
use Rattle.apollo_component.proofs.Lists.Kept.{each-flat_map, each-made, each-of, filter-filter, passes}
use Rattle.graphql_ast.specs.declared.definition.Definition.TheVariants as ast
use Rattle.apollo_schema_laws.proofs.Subjects.{first-is, NoSubject, same_subject, Subject, subject}
use Rattle.apollo_schema_laws.proofs.Subjects.{subject_laws, TheSchema, TypeNamed}
use Rattle.apollo_meaning.proofs.Faults.FoundLemmas.{schema_faults_with, schema_faults_with-joining}
use Rattle.apollo_meaning.proofs.Order.PlaceLemmas.{first-none, first-some, first_schema-none}
use Rattle.apollo_meaning.proofs.Order.PlaceLemmas.{first_schema-some}
use Rattle.apollo_meaning.proofs.Types.WholeTypeLemmas.{found-joined}
use Rattle.apollo_schema_laws.specs.Dropped.{of_another_kind}
use Rattle.apollo_schema_laws.proofs.Rearranged.Regrouped.{at_definition, at_extension, defined_of, Defines}
use Rattle.apollo_schema_laws.proofs.Rearranged.Regrouped.{extended_of, Extends, Finding, finding_schemas}
use Rattle.apollo_schema_laws.proofs.Rearranged.Regrouped.{finding_types, Neither, Plays, plays-schema}
use Rattle.apollo_schema_laws.proofs.Rearranged.Regrouped.{plays-type, Plays_as}

-- sorts are told apart
pub sort_laws : IsTest same_sort
sort_laws = record { is = is; itself = λ a. grind (arith, same-refl) }
  where
    is : (a b : Sort) → same_sort a b ≡ true → a ≡ b
    is (OtherKind n) (OtherKind m) e = ap OtherKind (same-true n m e)
    is (RepeatedComponent n) (RepeatedComponent m) e = ap RepeatedComponent (same-true n m e)
    is a b e = grind (arith, e)

-- whether a fault is of a sort
abbrev pub has_sort : Sort → Fault → Bool
has_sort s f = is_of_sort s f.1

-- all of these are of this sort
abbrev pub AllOf : Sort → List Fault → Type 0
AllOf s fs = AllByRecursion (λ f. sort_of f.1 ≡ s) fs

-- what elements add one after another is so where what each of them adds is
module _ {X Y : Type 0} (at : List X → X → List Y) (R : X → Type 0) (Q : Y → Type 0) where
  each_after-all : ((before : List X) (x : X) → R x → AllByRecursion Q (at before x)) → (before xs : List X)
      → AllByRecursion R xs → AllByRecursion Q (each_after at before xs)
  each_after-all each before [] a = tt
  each_after-all each before (x ∷ xs) a =
      each-append Q _ _ (each before x a.0) (each_after-all each (before ++ x ∷ []) xs a.1)

each_after-always : {X Y : Type 0} (at : List X → X → List Y) (Q : Y → Type 0)
    → ((before : List X) (x : X) → AllByRecursion Q (at before x)) → (before xs : List X)
    → AllByRecursion Q (each_after at before xs)
each_after-always at Q each before xs = each_after-all at (λ _. Unit {0}) Q (λ done x h. each done x) before
    xs (each-of _ (λ x. tt) xs)

-- the fault of something, if there is something, is of a sort where that of anything is
one-of : {X : Type 0} (s : Sort) (say : X → Fault) → ((x : X) → sort_of (say x).1 ≡ s) → (o : Option X)
    → AllOf s (option_map_or (λ x. say x ∷ []) o [])
one-of s say is None = tt
one-of s say is (Some x) = (is x, tt)

-- and so are those of a part
part-of : (parts : List TypePart) (p : TypePart) → AllOf (RepeatedComponent p.name.text) (part_faults parts p)
part-of parts p = each-flat_map _ _ _ (each-of _ (λ c. each_after-always _ _
    (λ done e. one-of _ _ (λ kept. grind arith) _) [] (entries_of (held_sort c) p)) (collections_of p.kind))

-- all of these have the name
abbrev pub AllNamed : List ℕ → List TypePart → Type 0
AllNamed n ps = AllByRecursion (λ p. same n (key_of p) ≡ true) ps

-- the extensions of a name have it
pub extensions-named : (xs : List ListItem) (n : List ℕ) → AllNamed n (extensions_of xs n)
extensions-named xs n = passes _ (filter_map extended_part xs)

part-named : (n : List ℕ) (parts : List TypePart) (p : TypePart) → same n (key_of p) ≡ true
    → AllOf (RepeatedComponent n) (part_faults parts p)
part-named n parts p own = rw (same-true n _ own) (part-of parts p)

-- and of a definition and the extensions of its name and kind
joined-of : (d : TypePart) (n : List ℕ) (xs : List ListItem) → same n (key_of d) ≡ true
    → AllOf (RepeatedComponent n) (joined_faults (d ∷ of_kind (kind_of d) (extensions_of xs n)))
joined-of d n xs own = each_after-all _ (λ p. same n (key_of p) ≡ true) _ (part-named n) []
    (d ∷ of_kind (kind_of d) (extensions_of xs n))
    (own, each-weaken _ _ (λ p h. h.0) _ (each-filter _ _ _ (extensions-named xs n)))

-- the faults of roots are of their own sort
roots-of : (before rs : List Root) → AllOf RepeatedRoot (root_faults before rs)
roots-of = each_after-always root_fault _ (λ before r. one-of RepeatedRoot _ (λ kept. refl) _)

-- and so they are where definitions and extensions of the schema join one after another
begun-of : (s : SchemaPart) (es : List SchemaPart) → AllOf RepeatedRoot (schema_begun_faults s es)
begun-of s es = each-append _ _ _ (roots-of [] s.parts.roots) (each_after-always schema_faults _
    (λ parts e. roots-of _ e.parts.roots) (s ∷ []) es)

-- the fault of a further definition is of its own sort
further-of : (d e : TypePart) → AllOf FurtherType (further_definition d e)
further-of d e = grind arith

-- of faults that are all of one sort, those of this sort are all
pub all-stay : (s : Sort) (fs : List Fault) → AllOf s fs → filter (has_sort s) fs ≡ fs
all-stay s fs a = filter-each _ _ _ (λ f e. ap (same_sort s) e ∙ sort_laws.itself s) fs a ∙ sym (all-kept fs)

-- and those of another sort are none
pub none-stay : (s t : Sort) (fs : List Fault) → same_sort s t ≡ false → AllOf t fs
    → filter (has_sort s) fs ≡ []
none-stay s t fs apart = filter-fails _ _ (λ f e. ap (same_sort s) e ∙ apart) fs

-- what a sort is about: the type or the schema that something is dropped from, or nothing where it is dropped
-- as a whole
abbrev pub subject_of : Sort → Subject
subject_of (OtherKind n) = TypeNamed n
subject_of (RepeatedComponent n) = TypeNamed n
subject_of RepeatedRoot = TheSchema
subject_of _ = NoSubject

-- whether a fault is of what is dropped from this subject
abbrev is_from : Subject → Fault → Bool
is_from k f = same_subject k (subject_of (sort_of f.1))

-- all of these are dropped from this subject
abbrev AllFrom : Subject → List Fault → Type 0
AllFrom k fs = AllByRecursion (λ f. subject_of (sort_of f.1) ≡ k) fs

-- those of a sort are dropped from its subject
pub from : (s : Sort) (fs : List Fault) → AllOf s fs → AllFrom (subject_of s) fs
from s = each-weaken _ _ (λ f e. ap subject_of e)

-- of those that are dropped from another subject none is from this one
none-from : (k l : Subject) (fs : List Fault) → same_subject k l ≡ false → AllFrom l fs
    → filter (is_from k) fs ≡ []
none-from k l fs apart = filter-fails _ _ (λ f e. ap (same_subject k) e ∙ apart) fs

-- lists that have the same faults from the subject of a sort have the same ones of the sort
by-subject : (s : Sort) (fs gs : List Fault)
    → filter (is_from (subject_of s)) fs ≡ filter (is_from (subject_of s)) gs
    → filter (has_sort s) fs ≡ filter (has_sort s) gs
by-subject s fs gs e = grind (arith, finer fs, e, finer gs)
  where
    finer : (fs : List Fault)
        → filter (has_sort s) (filter (is_from (subject_of s)) fs) ≡ filter (has_sort s) fs
    finer = filter-wider _ _ (λ f own. ap (λ t. same_subject (subject_of s) (subject_of t))
        (sym (sort_laws.is s (sort_of f.1) own)) ∙ subject_laws.itself (subject_of s))

-- what is wrong with an extension of a name is about the type of the name
joining-from : (d : TypePart) (n : List ℕ) (parts : List TypePart) (e : TypePart) → same n (key_of e) ≡ true
    → AllFrom (TypeNamed n) (joining_fault d parts e)
joining-from d n parts e own = elim (same_kind (kind_of d) (kind_of e)) as (λ b. AllFrom (TypeNamed n)
    (cond b (part_faults parts e) (kind_mismatch d e ∷ [])))
    [ true ↦ from _ _ (part-named n parts e own) | false ↦ (ap TypeNamed (sym (same-true n _ own)), tt) ]

-- the fault of an item that is itself dropped: of a further definition, and of what is of no type and not of
-- the schema
abbrev dropped_at : List ListItem → ListItem → List Fault
dropped_at before (Defined d) = option_map_or (λ f. further_definition f d) (first before (key_of d)) []
dropped_at before (SchemaDefined s) = option_map_or (λ f. further_schema f s ∷ []) (first_schema before) []
dropped_at before (Other d) = other_faults (directive_definitions before) d
dropped_at before x = []

-- the sort of its fault
abbrev sort_at : ListItem → Sort
sort_at (Defined d) = FurtherType
sort_at (SchemaDefined s) = FurtherSchema
sort_at (Other (ast.DirectiveDefinition n)) = FurtherDirective
sort_at x = Executable

no-subject : (x : ListItem) → subject_of (sort_at x) ≡ NoSubject
no-subject x = grind arith

dropped-of : (before : List ListItem) (x : ListItem) → AllOf (sort_at x) (dropped_at before x)
dropped-of before (Defined d) =
    elim (first before _) as (λ o. AllOf FurtherType (option_map_or (λ f. further_definition f d) o []))
    [ None ↦ tt | Some f ↦ further-of f d ]
dropped-of before (SchemaDefined s) = one-of FurtherSchema _ (λ f. refl) _
dropped-of before (Other (ast.DirectiveDefinition n)) = one-of FurtherDirective _ (λ d. refl) _
dropped-of before (Other (ast.OperationDefinition n)) = (refl, tt)
dropped-of before (Other (ast.FragmentDefinition n)) = (refl, tt)
dropped-of before (Other d) = tt
dropped-of before x = tt

-- the same, if the item is of this sort
abbrev pub kept_at : Sort → List ListItem → ListItem → List Fault
kept_at s before x = cond (same_sort s (sort_at x)) (dropped_at before x) []

-- it is what is of a sort there
pub dropped-kept : (s : Sort) (before : List ListItem) (x : ListItem)
    → filter (has_sort s) (dropped_at before x) ≡ kept_at s before x
dropped-kept s before x = grind arith

-- what is found at an item is about the subject of the item, which stays; or the item itself is dropped
data FoundAt (x : ListItem) (all dropped : List Fault) : Type 0 where
  Stays : same_subject NoSubject (subject x) ≡ false → AllFrom (subject x) all → dropped ≡ []
      → FoundAt x all dropped
  Falls : AllFrom NoSubject all → all ≡ dropped → FoundAt x all dropped

module _ (x : ListItem) (stays : same_subject NoSubject (subject x) ≡ false) {P : Type 0} (say : P
    → List Fault) where
  -- a definition falls where there is a first one, and an extension where there is none
  defined-at : (o : Option P) (begun : List Fault) → AllFrom NoSubject (option_map_or say o [])
      → AllFrom (subject x) begun → FoundAt x (option_map_or say o begun) (option_map_or say o [])
  defined-at None begun falls a = Stays stays a refl
  defined-at (Some f) begun falls a = Falls falls refl

  extended-at : (o : Option P) → ((d : P) → AllFrom (subject x) (say d))
      → FoundAt x (option_map_or say o []) []
  extended-at None a = Falls tt refl
  extended-at (Some d) a = Stays stays (a d) refl

falls : (before : List ListItem) (x : ListItem) → AllFrom NoSubject (dropped_at before x)
falls before x = subst (λ k. AllFrom k (dropped_at before x)) (no-subject x) (from _ _ (dropped-of before x))

found_at-is : (before : List ListItem) (x : ListItem) → FoundAt x (found_at before x) (dropped_at before x)
found_at-is before (Defined d) = defined-at (Defined d) refl (λ f. further_definition f d) (first before _) _
    (falls before (Defined d)) (each-append _ _ _ (from _ _ (part-of [] d)) (each_after-all _ _ _
    (λ es. joining-from d _ (d ∷ of_kind (kind_of d) es)) [] _ (extensions-named before _)))
found_at-is before (Extended e) = extended-at (Extended e) refl _ (first before _) (λ d. joining-from d _
    (d ∷ of_kind (kind_of d) (extensions_of before (key_of e))) e (same-is (key_of e) _ refl))
found_at-is before (SchemaDefined s) = defined-at (SchemaDefined s) refl (λ f. further_schema f s
    ∷ []) (first_schema before) _ (falls before (SchemaDefined s))
    (from _ _ (begun-of s (schema_extensions before)))
found_at-is before (SchemaExtended e) = extended-at (SchemaExtended e) refl _ (first_schema before)
    (λ s. from _ _ (roots-of _ e.parts.roots))
found_at-is before (Other d) = Falls (falls before (Other d)) refl

-- nothing that is dropped from a subject is found at an item of another one
found_at-apart : (k : Subject) → same_subject k NoSubject ≡ false → (before : List ListItem) (x : ListItem)
    → same_subject k (subject x) ≡ false → filter (is_from k) (found_at before x) ≡ []
found_at-apart k none before x apart = elim (found_at-is before x)
    [ Stays is a e ↦ none-from k _ _ apart a | Falls a e ↦ none-from k NoSubject _ none a ]

-- what is of a sort that is about nothing is found where an item itself is dropped
pub found_at-dropped : (s : Sort) → subject_of s ≡ NoSubject → (before : List ListItem) (x : ListItem)
    → filter (has_sort s) (found_at before x) ≡ filter (has_sort s) (dropped_at before x)
found_at-dropped s none before x = by-subject s _ _ (rw none (elim (found_at-is before x) [
  | Stays is a e ↦ simp (none-from NoSubject _ _ is a, e)
  | Falls a e ↦ ap (filter (is_from NoSubject)) e
]))

-- the faults of extensions of types without a definition, and of those of the schema
abbrev pub type_orphans : Bool → List ListItem → List Fault
type_orphans adopts xs =
    map orphan (flat_map (orphans_of (with_adopted adopts xs)) (extended_names (with_adopted adopts xs)))

abbrev pub orphans_of_schema : Bool → List ListItem → List Fault
orphans_of_schema adopts xs = map schema_orphan (schema_orphans (completed adopts xs))

-- the sort of an orphan
abbrev pub is_of_orphan : Sort → Bool
is_of_orphan OrphanOfType = true
is_of_orphan OrphanOfSchema = true
is_of_orphan _ = false

-- the faults of a sort among all faults of a list: all but orphans are found in the whole list
module _ (s : Sort) (adopts : Bool) (xs : List ListItem) where
  abbrev keep : List Fault → List Fault
  keep = filter (has_sort s)

  abbrev late : List Fault
  late = each_after found_at (with_adopted adopts xs) (implied_schema adopts (with_adopted adopts xs))

  pub reported-parts : keep (faults_in adopts xs) ≡ keep (found (with_adopted adopts xs))
      ++ (keep (type_orphans adopts xs) ++ (keep late ++ keep (orphans_of_schema adopts xs)))
  reported-parts = simp (faults-completed, filter-append)

  pub reported-found : is_of_orphan s ≡ false
      → keep (faults_in adopts xs) ≡ keep (found (completed adopts xs))
  reported-found apart =
      let of_schema : AllOf OrphanOfSchema (orphans_of_schema adopts xs) =
      each-made _ schema_orphan (λ e. refl) _ in
      let of_types : AllOf OrphanOfType (type_orphans adopts xs) = each-made _ orphan (λ e. refl) _ in
      let schemas = none-stay s OrphanOfSchema _ (grind (arith, apart)) of_schema in
      let types = none-stay s OrphanOfType _ (grind (arith, apart)) of_types in
      simp (reported-parts, schemas, types, append-nil (keep late), each_after-append, filter-append)

-- what is dropped from a type or from the schema: what its first definition and its extensions have, in order
module _ (k : Subject) (none : same_subject k NoSubject ≡ false) {P : Type 0} (f : Family P) (n : List ℕ)
    (by_kind : Finding P) (further : (d p : P) → AllFrom NoSubject (by_kind.further d p))
    (plays : (x : ListItem) → Plays_as f n by_kind k x) where
  -- what is dropped at the first of these definitions, with these extensions
  abbrev told : List P → List P → List Fault
  told ds es = filter (is_from k) (option_map_or (λ d. by_kind.begun d es) (slice_get ds 0) [])

  -- a further definition adds nothing
  told-definition : (ds es : List P) (p : P)
      → told (ds ++ p ∷ []) es ≡ told ds es ++ filter (is_from k) (at_definition by_kind ds es p)
  told-definition [] es p = refl
  told-definition (d ∷ ds) es p = simp (none-from k NoSubject _ none (further d p), append-nil)

  -- an extension adds what is dropped where it joins
  told-extension : (ds es : List P) (e : P)
      → told ds (es ++ e ∷ []) ≡ told ds es ++ filter (is_from k) (at_extension by_kind ds es e)
  told-extension [] es e = refl
  told-extension (d ∷ ds) es e = simp (by_kind.more, filter-append)

  -- all that is found in a list and is dropped from the subject is dropped at its first definition, with its
  -- extensions
  found-told : (xs : List ListItem)
      → filter (is_from k) (found xs) ≡ told (defined_of f n by_kind k xs) (extended_of f n by_kind k xs)
  found-told = snoc_ind (λ xs. filter (is_from k) (found xs) ≡ told (defined_of f n by_kind k xs)
      (extended_of f n by_kind k xs)) refl (λ xs x so_far.
      simp (found-push, filter-append, filter_map-append, so_far) (more xs x _ _ (plays x)))
    where
      more : (xs : List ListItem) (x : ListItem) (ds es : List P) → Plays f n by_kind k x ds es
          → told (defined_of f n by_kind k xs) (extended_of f n by_kind k xs) ++ filter (is_from k)
          (found_at xs x) ≡ told (defined_of f n by_kind k xs ++ ds) (extended_of f n by_kind k xs ++ es)
      more xs x _ _ (Neither a) = simp (found_at-apart k none xs x a, append-nil)
      more xs x _ _ (Defines a at) = rw (at xs, append-nil) (sym (told-definition _ _ _))
      more xs x _ _ (Extends a at) = rw (at xs, append-nil) (sym (told-extension _ _ _))

-- what is of the type of a name is found at its first definition, with all its extensions
found-type : (xs : List ListItem) (n : List ℕ)
    → filter (is_from (TypeNamed n)) (found xs) ≡ filter (is_from (TypeNamed n))
    (option_map_or (λ d. type_begun_faults d (extensions_of xs n)) (first xs n) [])
found-type xs n =
    let apart = λ (d e : TypePart). from FurtherType _ (further-of d e) in
    simp (found-told _ refl types n finding_types apart (plays-type n) xs, first-is)

-- and what is of the schema, at its own
found-schema : (xs : List ListItem)
    → filter (is_from TheSchema) (found xs) ≡ filter (is_from TheSchema)
    (option_map_or (λ s. schema_begun_faults s (schema_extensions xs)) (first_schema xs) [])
found-schema xs =
    let told = found-told TheSchema refl schemas [] finding_schemas (λ d p. (refl, tt)) plays-schema xs in
    grind (arith, told, all-kept (schema_extensions xs), all-kept (filter_map defined_schema xs))

module _ (d : TypePart) (n : List ℕ) where
  abbrev repeated : List Fault → List Fault
  repeated = filter (has_sort (RepeatedComponent n))

  abbrev kind_of_definition : List TypePart → List TypePart
  kind_of_definition = of_kind (kind_of d)

  -- extensions that don't have the kind of the definition repeat no component
  mismatches-fall : (before es : List TypePart)
      → repeated (each_after (extension_faults d) before es)
      ≡ repeated (each_after part_faults (d ∷ kind_of_definition before) (kind_of_definition es))
  mismatches-fall before [] = refl
  mismatches-fall before (e ∷ es) =
      grind (arith, filter-append, mismatches-fall (before ++ e ∷ []) es, append-nil)

  abbrev is_other : TypePart → Bool
  is_other e = not (same_kind (kind_of d) (kind_of e))

  -- of extensions of the name those of another kind have a fault that says so
  mismatches-stay : (before es : List TypePart) → AllNamed n es
      → filter (has_sort (OtherKind n)) (each_after (extension_faults d) before es)
      ≡ map (kind_mismatch d) (filter is_other es)
  mismatches-stay before [] own = refl
  mismatches-stay before (e ∷ es) own =
      let none = none-stay (OtherKind n) _ _ refl (part-of (d ∷ kind_of_definition before) e) in
      grind (arith, filter-append, mismatches-stay (before ++ e ∷ []) es own.1, own.0, none)

-- the extensions of a name that are not of the kind of its first definition, with their places and without
others-placed : (xs : List ListItem) (d : Placed TypePart) → first_place types xs (key_of d.1) ≡ Some d
    → map (λ e. e.1) (of_another_kind xs (key_of d.1)) ≡ filter (is_other d.1 (key_of d.1))
    (extensions_of xs (key_of d.1))
others-placed xs d is =
    let kept = filter_agree _ _ agree (extension_places types xs) in
    grind (arith, kept, filter-map, filter_map-numbered extended_part 0 xs, filter-filter)
  where
    agree : (e : Placed TypePart)
        → (same (key_of d.1) (key_of e.1) && not (is_folded xs e))
        ≡ (same (key_of d.1) (key_of e.1) && is_other d.1 (key_of d.1) e.1)
    agree e = grind (arith, is, same-true (key_of d.1) (key_of e.1))

-- the faults of a sort that is of the type of a name, or of the schema, are those of its first definition
-- with its extensions
module _ (s : Sort) (apart : is_of_orphan s ≡ false) (adopts : Bool) (xs : List Added) where
  abbrev all : List ListItem
  all = whole adopts xs

  reported-type : (n : List ℕ) → subject_of s ≡ TypeNamed n
      → filter (has_sort s) (faults_of adopts xs) ≡ filter (has_sort s)
      (option_map_or (λ d. type_begun_faults d (extensions_of all n)) (first all n) [])
  reported-type n is = reported-found s adopts _ apart ∙ by-subject s _ _ (rw is (found-type all n))

  -- where the name has no definition there are none
  pub no-type : (n : List ℕ) → subject_of s ≡ TypeNamed n → first_place types all n ≡ None
      → filter (has_sort s) (faults_of adopts xs) ≡ []
  no-type n is none = reported-type n is ∙ simp (first-none all n none)

  reported-schema : subject_of s ≡ TheSchema
      → filter (has_sort s) (faults_of adopts xs) ≡ filter (has_sort s)
      (option_map_or (λ s. schema_begun_faults s (schema_extensions all)) (first_schema all) [])
  reported-schema is = reported-found s adopts _ apart ∙ by-subject s _ _ (rw is (found-schema all))

module _ (adopts : Bool) (xs : List Added) where
  abbrev ys : List ListItem
  ys = whole adopts xs

  module _ (d : Placed TypePart) (is : first_place types ys (key_of d.1) ≡ Some d) where
    abbrev n : List ℕ
    n = key_of d.1

    -- the repeated components are those that are dropped from the type
    pub reported-components : filter (has_sort (RepeatedComponent n)) (faults_of adopts xs)
        ≡ found_of_type ys d.1
    reported-components = reported-type (RepeatedComponent n) refl adopts xs n refl
        ∙ simp (first-some ys n d is, filter-append, mismatches-fall d.1 n)
        (simp filter-append at (all-stay _ _ (joined-of d.1 n ys (same-is n n refl)))
        ∙ sym (found-joined ys d is))

    -- the faults of another kind are those of the extensions that are not of the kind of the first definition
    pub reported-others : filter (has_sort (OtherKind n)) (faults_of adopts xs)
        ≡ map (λ e. kind_mismatch d.1 e.1) (of_another_kind ys n)
    reported-others =
        let none = none-stay (OtherKind n) _ _ refl (part-of [] d.1) in
        let others = mismatches-stay d.1 n [] _ (extensions-named ys n) in
        reported-type (OtherKind n) refl adopts xs n refl
        ∙ simp (first-some ys n d is, filter-append, none, others) (ap (map (kind_mismatch d.1))
        (sym (others-placed ys d is)) ∙ map-map _ _ _)

  -- the faults of the schema's roots are those of the roots that are dropped from the schema
  pub reported-roots : (s : Placed SchemaPart) → first_place schemas ys [] ≡ Some s
      → filter (has_sort RepeatedRoot) (faults_of adopts xs) ≡ found_of_schema ys s.1
  reported-roots s is =
      let rest = λ (o : Option (Placed SchemaPart)). flat_map
      (λ e. option_map_or (λ f. schema_faults_with f.1 ys e) o []) (extension_places schemas ys) in
      reported-schema RepeatedRoot refl adopts xs refl ∙ simp (first_schema-some ys s is)
      (all-stay RepeatedRoot _ (begun-of s.1 (schema_extensions ys)) ∙ ap (λ l. schema_faults [] s.1
      ++ l) (sym (schema_faults_with-joining s.1 ys) ∙ sym (ap rest is)))

  pub no-roots : first_place schemas ys [] ≡ None → filter (has_sort RepeatedRoot) (faults_of adopts xs) ≡ []
  no-roots is = reported-schema RepeatedRoot refl adopts xs refl ∙ simp (first_schema-none ys is)
