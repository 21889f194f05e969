-- What is at fault among components and roots is what `first_of_each` drops.
use Rattle.apollo_meaning.proofs as meaning
use meaning.Prelude.{arith, each_after-append, schema_joining_faults, length-first_later, ◌≡◌, ◌+◌, ◌∷◌, map}
use meaning.Prelude.{sym, said, List, [], ap, ◌∙◌, ℕ, ◌++◌, take, Some, option_map_or, IsEquivalence}
use meaning.Prelude.{flat_map-append, same_operation, refl, Root, Fault, Entry, false, roots_in, ListItem}
use meaning.Prelude.{saying, Placed, part_components, same_component, each_after-start, extension_places}
use meaning.Prelude.{filter, first_of_each, schema_faults, later_of_each, filter-append, TypeKind, TypePart}
use meaning.Prelude.{length, flat_map, on_equiv, NameView, same_name, nat_eq, map-append, each_after}
use meaning.Prelude.{Collection, collisions, first_place, if◌then◌else◌, TypeComponent, components_of}
use meaning.Prelude.{joined_faults, schemas, find-made, same_text, collision, SchemaPart, said-later}
use meaning.Prelude.{entry_laws, append-nil, schema_extensions, dropped_component, dropped_from_type}
use meaning.Prelude.{part_faults, collision_at, append_assoc, component_in, what_is_held}
use Rattle.apollo_component.proofs.Lists.Kept.{find-among}
use meaning.Faults.FoundLemmas.{schema_faults_with-joining}
use Rattle.std.proofs.lemmas.List.{length-map}
use Rattle.graphql_nodes.specs.OperationTexts.{operation_text}
use Rattle.apollo_meaning.specs.declared.build_error.BuildError.TheVariants as errors
use Rattle.apollo_meaning.specs.Faults.RootFaults.{root_fault, root_faults, same_root, dropped_root}
use Rattle.apollo_meaning.specs.Faults.ListFaults.{found_of_schema}
use Rattle.graphql_nodes.specs.declared.type_kind.TypeKind.TheVariants as kinds
use Rattle.std.proofs.lemmas.Cmp.{and_equiv, nat_eq_equiv}
use Rattle.apollo_meaning.specs.declared.collision.Collection.TheVariants as held_as
use Rattle.apollo_meaning.specs.Faults.TypeFaults.{collections_of, dropped_from, entries_of, names_in}
use Rattle.apollo_meaning.specs.Faults.TypeFaults.{held_sort}

abbrev names : List Entry → List NameView
names = map (λ e. e.0)

pub same_name_laws : IsEquivalence same_name
same_name_laws = entry_laws

module _ (c : Collection) (ty : NameView) where
  -- the fault of a component that has the name of a kept one
  abbrev repeated : Entry → Entry → Fault
  repeated k e = (e.1, collision c k.0 ty)

  collision-said : (before : List Entry) (e : Entry)
      → collision_at c ty (names before) e ≡ saying same_name repeated before e
  collision-said before e = grind (arith, find-made (same_text e.0) (λ (k : Entry). k.0) before)

  collisions-said : (before es : List Entry)
      → collisions c ty (names before) es ≡ said same_name repeated before es
  collisions-said before es =
      (λ i. each_after (λ done e. (ap (λ l. collision_at c ty l e) (sym (map-append _ before done))
      ∙ collision-said _ e) i) [] es) ∙ sym (each_after-start _ before es)

  pub collisions-dropped : (es : List Entry)
      → collisions c ty [] es ≡ map (dropped_component c ty (first_of_each same_name es))
      (later_of_each same_name es)
  collisions-dropped es = collisions-said [] es ∙ said-later same_name same_name_laws repeated es

  pub collisions-joined : (es more : List Entry)
      → collisions c ty [] (es ++ more) ≡ collisions c ty [] es ++ collisions c ty (names es) more
  collisions-joined es more = collisions-said [] (es ++ more) ∙ each_after-append _ [] es more
      ∙ sym (λ i. collisions-said [] es i ++ collisions-said es more i)

  -- each is kept or at fault
  pub each-kept-or-fault : (es : List Entry)
      → length (first_of_each same_name es) + length (collisions c ty [] es) ≡ length es
  each-kept-or-fault es = rw (collisions-dropped es, length-map) (length-first_later same_name same_name_laws
      es)

operation_laws : IsEquivalence same_operation
operation_laws = record { refl = λ a. grind arith; symm = λ a b. grind arith; congr = λ a b d e. grind arith }

pub same_root_laws : IsEquivalence same_root
same_root_laws = on_equiv (λ r. r.value.0) operation_laws

-- the fault of a root that has the operation of a kept one
abbrev repeated_root : Root → Root → Fault
repeated_root k r = (r.location, errors.DuplicateRootOperation k.value.1.location (operation_text r.value.0))

pub roots-dropped : (rs : List Root)
    → root_faults [] rs ≡ map (dropped_root (first_of_each same_root rs)) (later_of_each same_root rs)
roots-dropped rs = said-later same_root same_root_laws repeated_root rs

pub roots-joined : (rs more : List Root)
    → root_faults [] (rs ++ more) ≡ root_faults [] rs ++ root_faults rs more
roots-joined rs more = each_after-append root_fault [] rs more

-- extensions of the schema that join parts, one after another
schemas-joined : (parts es : List SchemaPart)
    → schema_joining_faults parts es ≡ root_faults (roots_in parts) (roots_in es)
schemas-joined parts [] = refl
schemas-joined parts (e ∷ es) =
    let more : roots_in (parts ++ e ∷ []) ≡ roots_in parts ++ e.parts.roots =
    rw (flat_map-append, append-nil) in
    ap (λ l. root_faults (roots_in parts) e.parts.roots ++ l) (schemas-joined _ es
    ∙ ap (λ l. root_faults l (roots_in es)) more) ∙ sym (each_after-append root_fault _ e.parts.roots _)

-- and all those of a list, with its first definition of the schema
pub found-roots : (xs : List ListItem) (s : Placed SchemaPart) → first_place schemas xs [] ≡ Some s
    → found_of_schema xs s.1 ≡ root_faults [] (roots_in (s.1 ∷ schema_extensions xs))
found-roots xs s is = ap (λ l. schema_faults [] s.1 ++ l) (
    ap (λ o. flat_map (λ e. option_map_or
    (λ f. schema_faults (f.1 ∷ schema_extensions (take e.0 xs)) e.1) o [])
    (extension_places schemas xs)) is ∙ schema_faults_with-joining s.1 xs
    ∙ schemas-joined _ (schema_extensions xs)
    ∙ ap (λ l. root_faults l (roots_in (schema_extensions xs))) (append-nil s.1.parts.roots))
    ∙ sym (each_after-append root_fault [] s.1.parts.roots _)

-- what is at fault among the components of a type, definition and extensions joined
pub same_component_laws : IsEquivalence same_component
same_component_laws = and_equiv (on_equiv (λ x. what_is_held x.collection) nat_eq_equiv)
    (on_equiv (λ x. x.entry) same_name_laws)

abbrev repeated_component : TypeComponent → TypeComponent → Fault
repeated_component k x = (x.entry.1, collision x.collection k.entry.0 x.type_name)

abbrev faults_among : List TypeComponent → List TypeComponent → List Fault
faults_among = said same_component repeated_component

faults_among-append : (before xs ys : List TypeComponent)
    → faults_among before (xs ++ ys) ≡ faults_among before xs ++ faults_among (before ++ xs) ys
faults_among-append = each_after-append _

-- the names of the components that a collection of this number would hold
abbrev names_among : ℕ → List TypeComponent → List NameView
names_among n xs = map (λ x. x.entry.0) (filter (λ x. nat_eq n (what_is_held x.collection)) xs)

names_among-append : (n : ℕ) (xs ys : List TypeComponent)
    → names_among n (xs ++ ys) ≡ names_among n xs ++ names_among n ys
names_among-append n xs ys = rw (filter-append, map-append)

names_among-in : (n : ℕ) (d : Collection) (ty : NameView) (es : List Entry)
    → names_among n (map (component_in d ty) es) ≡ if nat_eq n (what_is_held d) then names es else []
names_among-in n d ty [] = grind arith
names_among-in n d ty (e ∷ es) = grind (arith, names_among-in n d ty es)

module _ (d : Collection) (ty : NameView) where
  abbrev n : ℕ
  n = what_is_held d

  collision-in : (before : List TypeComponent) (e : Entry)
      → collision_at d ty (names_among n before) e ≡ saying same_component repeated_component before
      (component_in d ty e)
  collision-in before e = grind (
    arith,
    find-among (same_text e.0) (λ x. x.entry.0) (λ x. nat_eq n (what_is_held x.collection)) before,
  )

  -- what is said of entries after these is said of them as components
  said-in : (before : List TypeComponent) (done es : List Entry)
      → each_after (λ done. collision_at d ty (names_among n before ++ names done)) done es
      ≡ faults_among (before ++ map (component_in d ty) done) (map (component_in d ty) es)
  said-in before done [] = refl
  said-in before done (e ∷ es) =
      let own : names_among n _ ≡ names done = names_among-in n d ty done ∙ rw (nat_eq_equiv.refl n) in
      let here = ap (λ l. collision_at d ty l e) (sym (names_among-append n before _
      ∙ ap (λ l. names_among n before ++ l) own)) ∙ collision-in _ e in
      let more : before ++ map _ _ ≡ (before ++ map _ done) ++ component_in d ty e ∷ [] =
      rw map-append (sym (append_assoc before _ _)) in
      let rest = said-in before (done ++ e ∷ []) es ∙ ap (λ l. faults_among l (map (component_in d ty) es))
      more in
      λ i. here i ++ rest i

  collisions-in : (before : List TypeComponent) (es : List Entry)
      → collisions d ty (names_among n before) es ≡ faults_among before (map (component_in d ty) es)
  collisions-in before es = said-in before [] es ∙ rw append-nil

-- the names of a part's components, by what is held: those of the collection that holds it, if there is one
module _ (p : TypePart) where
  abbrev components_at : Collection → List TypeComponent
  components_at d = map (component_in d p.name) (entries_of (held_sort d) p)

  abbrev names_at : ℕ → Collection → List NameView
  names_at n d = if nat_eq n (what_is_held d) then names (entries_of (held_sort d) p) else []

  names-components : (n : ℕ) (ds : List Collection)
      → names_among n (flat_map components_at ds) ≡ flat_map (names_at n) ds
  names-components n [] = refl
  names-components n (d ∷ ds) = names_among-append n _ _
      ∙ (λ i. names_among-in n d p.name (entries_of (held_sort d) p) i ++ names-components n ds i)

  abbrev as_kind : TypeKind → TypePart
  as_kind kind = record p { kind = kind }

all-held : (p : TypePart) (d : Collection) (kind : TypeKind)
    → flat_map (names_at (as_kind p kind) (what_is_held d)) (collections_of kind)
    ≡ names (entries_of (held_sort d) (as_kind p kind))
all-held p d kind = grind (arith, append-nil {A = NameView})

-- and in parts
parts-in : (d : Collection) (ps : List TypePart)
    → names_in (held_sort d) ps ≡ names_among (what_is_held d) (components_of ps)
parts-in d [] = refl
parts-in d (p ∷ ps) = sym (names_among-append _ (part_components p) _
    ∙ (λ i. (names-components p _ (collections_of p.kind) ∙ all-held p d p.kind) i ++ sym (parts-in d ps) i))

-- a part that joins parts
module _ (parts : List TypePart) (p : TypePart) where
  abbrev before : List TypeComponent
  before = components_of parts

  -- of one collection, where nothing of it is among these between
  one-in : (d : Collection) (between : List TypeComponent) → names_among (what_is_held d) between ≡ []
      → dropped_from parts p d ≡ faults_among (before ++ between) (components_at p d)
  one-in d between apart = ap (λ l. collisions d p.name l (entries_of (held_sort d) p)) (parts-in d parts
      ∙ sym (names_among-append _ before between ∙ ap (λ l. names_among (what_is_held d) before ++ l) apart
      ∙ append-nil _)) ∙ collisions-in d p.name _ (entries_of (held_sort d) p)

  one-first : (d : Collection) → dropped_from parts p d ≡ faults_among before (components_at p d)
  one-first d = one-in d [] refl ∙ ap (λ l. faults_among l (components_at p d)) (append-nil before)

  alone : (d : Collection) → dropped_from parts p d ++ [] ≡ faults_among before (components_at p d ++ [])
  alone d = append-nil _ ∙ one-first d ∙ ap (faults_among before) (sym (append-nil _))

  together : (d f : Collection) → nat_eq (what_is_held f) (what_is_held d) ≡ false
      → dropped_from parts p d ++ (dropped_from parts p f ++ []) ≡ faults_among before (components_at p d
      ++ (components_at p f ++ []))
  together d f apart =
      let between : names_among (what_is_held f) (components_at p d) ≡ [] = names_among-in _ d p.name _
      ∙ rw apart in
      (λ i. one-first d i ++ (append-nil _ ∙ one-in f _ between) i) ∙ sym (faults_among-append before _ _)
      ∙ ap (λ l. faults_among before (components_at p d ++ l)) (sym (append-nil _))

part-in : (parts : List TypePart) (p : TypePart)
    → part_faults parts p ≡ faults_among (components_of parts) (part_components p)
part-in parts p = by p.kind
  where
    by : (kind : TypeKind)
        → flat_map (dropped_from parts p) (collections_of kind) ≡ faults_among (components_of parts)
        (flat_map (components_at p) (collections_of kind))
    by kinds.Scalar = refl
    by kinds.Object = together parts p held_as.ObjectInterfaces held_as.ObjectFields refl
    by kinds.Interface = together parts p held_as.InterfaceInterfaces held_as.InterfaceFields refl
    by kinds.Union = alone parts p held_as.UnionMembers
    by kinds.Enum = alone parts p held_as.EnumValues
    by kinds.InputObject = alone parts p held_as.InputFields

-- parts one after another, where these are before them
parts-joined : (before ps : List TypePart)
    → each_after part_faults before ps ≡ faults_among (components_of before) (components_of ps)
parts-joined before [] = refl
parts-joined before (p ∷ ps) =
    let these = part_components p in
    let more : components_of (before ++ p ∷ []) ≡ components_of before ++ these =
    rw (flat_map-append, append-nil) in
    let rest = parts-joined _ ps ∙ ap (λ l. faults_among l (components_of ps)) more in
    (λ i. part-in before p i ++ rest i) ∙ sym (faults_among-append _ these _)

pub joined-dropped : (ps : List TypePart)
    → joined_faults ps ≡ map (dropped_from_type (first_of_each same_component (components_of ps)))
    (later_of_each same_component (components_of ps))
joined-dropped ps = parts-joined [] ps ∙ said-later same_component same_component_laws repeated_component
    (components_of ps)
