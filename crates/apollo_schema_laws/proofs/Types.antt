-- A type that a list means, and the one that a list with its write-out means. They are equal, since they have
-- the same components, and are written out alike.
pub mod Kinds
pub mod WrittenParts
pub mod Made
pub use Kinds.*
pub use WrittenParts.*
pub use Made.*
use Rattle.apollo_schema_laws.proofs as laws
use laws.Words.{Definition, of_type, IsDistinct, ◌==◌, list_any-IsPermutation, IsPermutation}
use laws.Words.{IsPermutation-map, on_equiv, filter-fails, each-filter, name_laws, same_origin}
use laws.Words.{extension_part, Sections, HasSameComponents, HasEachNameOnce, HasWhatIsWritten, find-made}
use laws.Words.{true≢false, IsDistinct-IsPermutation, flat_map-map, flat_map-each, written_type}
use laws.Words.{first_of_each-distinct, Folding, first, parts, type_from, type_of, entries_of, held_sort}
use laws.Words.{names_in, placed, with_origins, joined, HaveDistinctNames, ◌+◌, ◌≤◌, nat_tests, filter_map}
use laws.Words.{enumerate_from, Extension, extension_id, same_id, of_extensions, OfType, OfSchema, key_of}
use laws.Words.{of_schema, option_cases, bool_cases}
use laws.Words.{found-permuted, first_of_each-append, all-first, option_map-twice, distinct-by_keys}
use laws.Words.{keys-distinct, each-from_map, flat_map-nothing, map-each}
use laws.Sections.{directives-in_order, picked, picked-append, picked-of, written-keeps, written-parts-again}
use laws.Items.{HaveEachNameOnce}
use Rattle.apollo_meaning.proofs.Order.FoldingLemmas.{type_description-from, type_from-ignorable}
use Rattle.apollo_meaning.proofs.Order.FoldingLemmas.{type_kind-from, type_location-from, type_name-from}
use Rattle.apollo_meaning.specs.declared.collision.Collection.{Collection}
use Rattle.graphql_nodes.specs.declared.type_kind.TypeKind.TheVariants as kinds
use Rattle.apollo_meaning.specs.declared.collision.Collection.TheVariants as c

-- what is made of extensions by their locations and their parts is the same where these are
pub same-located : {X : Type 0} (make : Option SourceSpan × Parts → X) (es fs : List (ExtensionId × Parts))
    → placed es ≡ placed fs
    → map (λ e. make (extension_location e.0, e.1)) es ≡ map (λ e. make (extension_location e.0, e.1)) fs
same-located make es fs e = sym (map-map make _ es) ∙ ap (map make) e ∙ map-map make _ fs

module _ (t u : ExtendedType) (h : HasWhatIsWritten t u) where
  pub same_parts : map (λ e. e.1) h.parts.extensions
      ≡ map (λ e. e.1) (by_origin (in_sections (type_sections t))).extensions
  same_parts = simp (
    same-located (λ w. w.1) h.parts.extensions (by_origin (type_components t)).extensions h.extensions,
    components-sections t,
  )

  pub type-again : write_type u ≡ write_type t
  type-again = (λ i. written_type (h.kind i) (h.description i) (h.name i)
      ((ap by_origin (components-sections u ∙ ap in_sections h.sections)
      ∙ written-parts-again (type_sections t) h.parts same_parts h.distinct) i) (h.location i))
      ∙ (λ i. written_type (type_kind t) (type_description t) (type_name t)
      (record { definition = h.definition i; extensions = h.parts.extensions }) (type_location t))
      ∙ (λ i. written_type (type_kind t) (type_description t) (type_name t)
      (record { definition = (by_origin (type_components t)).definition; extensions = [] }) (type_location t)
      ++ same-located (λ w. type_extension (type_kind t) (type_name t) w.1 w.0) h.parts.extensions
      (by_origin (type_components t)).extensions h.extensions i)

  pub components-again : HasSameComponents (type_sections t) (type_sections u)
  components-again = subst (HasSameComponents (type_sections t)) (sym h.sections) (written-keeps _ h.parts
      (h.definition ∙ ap (λ cs. (by_origin cs).definition) (components-sections t)) same_parts)

-- Names that stand once, in each type that a list means. So it is in each that has what such a type is
-- written out as, and in the parts of that.

-- names of the same components stand once in both
still-once : {A : Type 0} (name : A → NameView) (xs ys : List (ComponentOrigin × A))
    → IsPermutation (map (λ x. x.1) xs) (map (λ x. x.1) ys) → IsDistinct same_text (map (λ x. name x.1) xs)
    → IsDistinct same_text (map (λ x. name x.1) ys)
still-once {A} name xs ys p d =
    let by = map-map name _ in
    subst (IsDistinct same_text) (by ys) (IsDistinct-IsPermutation same_text name_laws.symm _ _
    (IsPermutation-map name _ _ p) (subst (IsDistinct same_text) (sym (by xs)) d))

pub once-kept : (a b : Sections) → HasSameComponents a b → HasEachNameOnce a → HasEachNameOnce b
once-kept a b all once s k = still-once _ (a s) (b s) (all s) (once s k)

pub once-again : (t u : ExtendedType) → HasWhatIsWritten t u → HasEachNameOnce (type_sections t)
    → HasEachNameOnce (type_sections u)
once-again t u h once = once-kept _ _ (components-again t u h) once

-- names of which the first of each are kept stand once
kept-once : (s : Sort) (b : Bool) (xs : List (ComponentOrigin × Item s))
    → HaveDistinctNames s (cond b (kept s xs) [])
unfolding IsDistinct
kept-once s true xs k = rw (k, first_of_each-map same_text _ xs) (first_of_each-distinct same_text _)
kept-once s false xs k = tt

pub made-once : (kind : TypeKind) (head : TypePart) (ps : List Sourced)
    → HasEachNameOnce (type_sections (type_of_kind kind head ps))
made-once kind head ps = subst HasEachNameOnce (sym (sections-made kind head ps)) (λ s. kept-once s _ _)

-- each type that a list means has each name once
pub meant-once : (start : ℕ) (folded : List Folding) (xs : List ListItem) (n : List ℕ) (t : ExtendedType)
    → type_of start folded xs n ≡ Some t → HasEachNameOnce (type_sections t)
meant-once start folded xs n t h = option_cases (first xs n) (λ e. absurd (grind (arith, e, h))) (λ d e.
    let is : type_from d (parts start folded n d) ≡ t = grind (arith, e, h) in
    subst (λ u. HasEachNameOnce (type_sections u)) is (made-once d.kind d _))

-- the names of what a part holds of a sort
entry-names : (s : Sort) → is_keyed s ≡ true → (p : TypePart)
    → map (λ e. e.0) (entries_of s p) ≡ map (name_of s) (held s p)
entry-names Sort.Directives k p = absurd (true≢false (sym k))
entry-names Sort.Roots k p = absurd (true≢false (sym k))
entry-names s k p = map-map _ _ _

-- a collection is of a sort that has its own names
collection-keyed : (c : Collection) → is_keyed (held_sort c) ≡ true
collection-keyed c.UnionMembers = refl
collection-keyed c = refl

module _ (t : ExtendedType) (ignorable : Bool) where
  abbrev written_parts : List TypePart
  written_parts = definition_as t ignorable ∷ map (extension_of t) (written t).extensions

  -- names stand once in the written parts
  pub once-in_parts : HasEachNameOnce (type_sections t) → HaveEachNameOnce written_parts
  once-in_parts once c = subst (IsDistinct same_text) (sym (names _ (collection-keyed c)))
      ((once-kept _ _ (written-keeps _ _ (ap (λ cs. (by_origin cs).definition) (components-sections t))
      (ap (λ cs. map (λ e. e.1) (by_origin cs).extensions) (components-sections t))) once) _
      (collection-keyed c))
    where
      of_part : (s : Sort) → is_keyed s ≡ true → (p : TypePart) → IsOfKind p.kind p.parts
          → map (λ e. e.0) (entries_of s p) ≡ map (name_of s) (listed p.parts s)
      of_part s k p own = simp (entry-names, own)

      names : (s : Sort) → is_keyed s ≡ true
          → names_in s written_parts
          ≡ map (λ x. name_of s x.1) (joined (λ d. listed d s) (with_origins (written t)))
      names s k = (λ i. of_part s k (definition_as t ignorable) (of_kind-origin t Definition) i
          ++ (flat_map-map (λ p. map (λ e. e.0) (entries_of s p)) _ (written t).extensions
          ∙ flat_map-each _ _ _ (λ e own. of_part s k (extension_of t e) own) (written t).extensions
          (each-of_kind t)) i) ∙ sym (simp (map-append, map-flat_map, flat_map-map, map-map))

-- numbers that rise from this one
abbrev pub Rises : {X : Type 0} → ℕ → List (ℕ × X) → Type 0
Rises m [] = Unit {0}
Rises m (e ∷ es) = (m ≤ e.0) × Rises (e.0 + 1) es

rises-from : {X : Type 0} (k m : ℕ) (es : List (ℕ × X)) → k ≤ m → Rises m es → Rises k es
rises-from k m [] le r = tt
rises-from k m (e ∷ es) le r = (omega (arith, le, r.0), r.1)

-- the extensions of a name among those that are folded, and of the schema, with their numbers
abbrev pub numbers_of : List ℕ → ℕ → List Folding → List (ℕ × TypePart)
numbers_of n start fs = filter (λ e. same n (key_of e.1)) (filter_map of_type (enumerate_from start fs))

abbrev pub schema_numbers : ℕ → List Folding → List (ℕ × SchemaPart)
schema_numbers start fs = filter_map of_schema (enumerate_from start fs)

pub numbers-rise : (n : List ℕ) (start : ℕ) (fs : List Folding) → Rises start (numbers_of n start fs)
numbers-rise n start [] = tt
numbers-rise n start (OfSchema s ∷ fs) = rises-from start _ _ (omega arith) (numbers-rise n _ fs)
numbers-rise n start (OfType p ∷ fs) =
    let rest = numbers-rise n (start + 1) fs in
    elim (same n _) as (λ b. Rises start (cond b ((start, p) ∷ numbers_of n (start + 1) fs) (numbers_of n
    (start + 1) fs))) [ true ↦ (omega arith, rest) | false ↦ rises-from start _ _ (omega arith) rest ]

pub schema_numbers-rise : (start : ℕ) (fs : List Folding) → Rises start (schema_numbers start fs)
schema_numbers-rise start [] = tt
schema_numbers-rise start (OfSchema s ∷ fs) = (omega arith, schema_numbers-rise _ fs)
schema_numbers-rise start (OfType p ∷ fs) =
    rises-from start _ _ (omega arith) (schema_numbers-rise (start + 1) fs)

-- numbers that rise differ
pub rising-distinct : {X : Type 0} (m : ℕ) (es : List (ℕ × X)) → Rises m es
    → IsDistinct ◌==◌ (map (λ e. e.0) es)
unfolding IsDistinct
rising-distinct m [] r = tt
rising-distinct {X} m (e ∷ es) r = (apart es r.1, rising-distinct (e.0 + 1) es r.1)
  where
    apart : (fs : List (ℕ × X)) → Rises (e.0 + 1) fs
        → AllByRecursion (λ k. (e.0 == k) ≡ false) (map (λ f. f.0) fs)
    apart [] r = tt
    apart (f ∷ fs) r = (grind (arith, nat_tests, r.0), apart fs (rises-from _ _ fs (omega (arith, r.0)) r.1))

-- definitions and extensions with numbers, each where it stands, and their parts
module _ {P : Type 0} (location : P → Option SourceSpan) (parts : P → Parts) where
  abbrev pub parts_from : P → List (ℕ × P) → PartsByOrigin
  parts_from head es = record {
    definition = parts head;
    extensions = map (λ e. (extension_id e.0 (location e.1), parts e.1)) es;
  }

  -- what they show of a sort
  pub shown-parts : {A : Type 0} (sort : Parts → List A) (head : P) (es : List (ℕ × P))
      → shown_in (λ p. sort (parts p)) ((Definition, head)
      ∷ map (λ e. (Extension (extension_id e.0 (location e.1)), e.1)) es)
      ≡ joined sort (with_origins (parts_from head es))
  shown-parts sort head es = simp (flat_map-map, map-map)

  -- their identities differ where their numbers do
  pub parts-distinct : (head : P) (es : List (ℕ × P)) → IsDistinct ◌==◌ (map (λ e. e.0) es)
      → IsDistinct same_id (map (λ e. e.0) (parts_from head es).extensions)
  parts-distinct head es d = subst (IsDistinct same_id) (sym (map-map _ _ es))
      (keys-distinct same_id _ es (distinct-by_keys ◌==◌ (λ e. e.0) es d))

  -- they have what is written where they are made of it
  pub parts-placed : (make : ExtensionId × Parts → P)
      → ((e : ExtensionId × Parts) → location (make e) ≡ extension_location e.0)
      → (written : List (ExtensionId × Parts)) → AllByRecursion (λ e. parts (make e) ≡ e.1) written
      → (head : P) (es : List (ℕ × P)) → map (λ e. e.1) es ≡ map make written
      → placed (parts_from head es).extensions ≡ placed written
  parts-placed make at written own head es is =
      let view : P → Option SourceSpan × Parts = λ p. (location p, parts p) in
      map-map (λ (e : ExtensionId × Parts). (extension_location e.0, e.1))
      (λ e. (extension_id e.0 (location e.1), parts e.1)) es ∙ sym (map-map view _ es) ∙ ap (map view) is
      ∙ map-map view make written ∙ map-each _ _ written (each-weaken _ _ (λ e h i. (at e i, h i)) written
      own)

-- names that differ are all kept
kept-all : (s : Sort) (xs : List (ComponentOrigin × Item s)) → HaveDistinctNames s xs → kept s xs ≡ xs
kept-all s xs once = bool_cases (is_keyed s) (λ e. rw e (all-first same_text _ xs (once e))) (λ e. rw e)

-- where no part has anything of a sort that isn't there, leaving the sort out changes nothing
only-held : {A : Type 0} (b : Bool) (sort : Parts → List A) (gs : List (ComponentOrigin × Parts))
    → AllByRecursion (λ g. cond b (sort g.1) [] ≡ sort g.1) gs → cond b (joined sort gs) [] ≡ joined sort gs
only-held true sort gs own = refl
only-held false sort gs own =
    sym (flat_map-nothing _ gs (each-weaken _ _ (λ g h. ap (map (λ x. (g.0, x))) (sym h)) gs own))

-- the type of a definition and of extensions with numbers
abbrev pub made : TypePart → List (ℕ × TypePart) → ExtendedType
made head es = type_from head ((Definition, head) ∷ map extension_part es)

-- the parts of these, by origin
abbrev pub type_parts : TypePart → List (ℕ × TypePart) → PartsByOrigin
type_parts = parts_from (λ p. p.location) held_parts

-- The type that written parts mean again, under any distinct numbers of the extensions, has what is written
-- of the first.
module _ (t : ExtendedType) (es : List (ℕ × TypePart)) (apart : IsDistinct ◌==◌ (map (λ e. e.0) es))
    (are_written : map (λ e. e.1) es ≡ map (extension_of t) (written t).extensions)
    (once : HasEachNameOnce (type_sections t)) where
  abbrev p : PartsByOrigin
  p = type_parts (definition_part t) es

  placed_there : placed p.extensions ≡ placed (written t).extensions
  placed_there = parts-placed _ held_parts _ (λ e. refl) (written t).extensions (each-of_kind t)
      (definition_part t) es are_written

  same_extensions : map (λ e. e.1) p.extensions ≡ map (λ e. e.1) (written t).extensions
  same_extensions = same-located (λ w. w.1) p.extensions (written t).extensions placed_there

  -- and they are of the type's kind
  of_kind-again : AllByRecursion (λ g. IsOfKind (type_kind t) g.1) (with_origins p)
  of_kind-again =
      let own = of_kind-origin t Definition in (
        subst (IsOfKind (type_kind t)) (sym own) own,
        each-map _ _ p.extensions (each-from_map _ _ p.extensions
            (subst (AllByRecursion (IsOfKind (type_kind t))) (sym same_extensions)
            (each-map _ _ (written t).extensions (each-of_kind t)))),
      )

  sort-again : (s : Sort)
      → cond (has (type_kind t) s) (kept s (shown_in (held s) ((Definition, definition_part t)
      ∷ map extension_part es))) [] ≡ joined (λ d. listed d s) (with_origins p)
  sort-again s = ap (λ xs. cond (has (type_kind t) s) (kept s xs) [])
      (shown-parts _ held_parts (λ d. listed d s) (definition_part t) es)
      ∙ ap (λ xs. cond (has (type_kind t) s) xs []) (kept-all s (joined (λ d. listed d s) (with_origins p))
      ((once-kept _ _ (written-keeps _ p (of_kind-origin t Definition
      ∙ ap (of_origin Definition) (components-sections t)) (same_extensions
      ∙ ap (λ cs. map (λ e. e.1) (of_extensions cs)) (components-sections t))) once) s))
      ∙ only-held (has (type_kind t) s) (λ d. listed d s) (with_origins p)
      (each-weaken (λ g. IsOfKind (type_kind t) g.1) _ (λ g own. of_kind-listed (type_kind t) g.1 own s)
      (with_origins p) of_kind-again)

  pub has-what-is-written : HasWhatIsWritten t (made (definition_part t) es)
  has-what-is-written = record {
    kind = type_kind-from (definition_part t) _;
    description = type_description-from (definition_part t) _;
    name = type_name-from (definition_part t) _;
    location = type_location-from (definition_part t) _;
    parts = p;
    definition = of_kind-origin t Definition;
    extensions = placed_there;
    distinct = parts-distinct (λ (p : TypePart). p.location) held_parts (definition_part t) es apart;
    sections = sections-made (type_kind t) (definition_part t) _ ∙ (λ i s. sort-again s i);
  }

-- the components of sections, without their origins
abbrev plain : Sections → Parts
plain u = with_lists (λ s. map (λ x. x.1) (u s))

-- `==` compares of a type what it compares of its sections
abbrev pub IsSeen : ExtendedType → Type 0
IsSeen t = bare_extended_type t ≡ seen_as (type_kind t) (type_description t) (type_name t)
    (plain (type_sections t))

pub is-seen : (kind : TypeKind) (head : TypePart) (ps : List Sourced) → IsSeen (type_of_kind kind head ps)
is-seen kinds.Scalar head ps = bare-made kinds.Scalar head ps ∙ ap (λ u. seen_as kinds.Scalar head.description
    head.name (plain u)) (sym (sections-made kinds.Scalar head ps))
is-seen kind head ps = bare-made kind head ps ∙ ap (λ u. seen_as kind head.description head.name (plain u))
    (sym (sections-made kind head ps))

entries-same : {T : Type 0} (name : NodeView T → NameView) (bare : T → T)
    → ((n : NodeView T) → (name (bare_node bare n)).text ≡ (name n).text)
    → (xs ys : List (ComponentOrigin × NodeView T)) → IsPermutation (map (λ x. x.1) xs) (map (λ x. x.1) ys)
    → IsDistinct same_text (map (λ x. name x.1) xs)
    → found_by name (map (bare_node bare) (map (λ x. x.1) ys))
    ≡ found_by name (map (bare_node bare) (map (λ x. x.1) xs))
entries-same {T} name bare named xs ys p d =
    λ i text. (seen text _ ∙ ap (option_map (λ n. bare n.value)) (found-permuted same_text name_laws name
    (record { text = text; location = None }) _ _ p (subst (IsDistinct same_text) (sym (map-map name _ xs))
    d)) ∙ sym (seen text _)) i
  where
    seen : (text : List ℕ) (ns : List (NodeView T))
        → found_by name (map (bare_node bare) ns) text ≡ option_map (λ n. bare n.value)
        (find (λ n. by_text text (name n)) ns)
    seen text ns = simp (find-made, named, option_map-twice)

-- the same components, in another order, make no difference
seen-same : (kind : TypeKind) (d : Option NameView) (n : NameView) (s u : Sections)
    → map (λ x. x.1) (u Directives) ≡ map (λ x. x.1) (s Directives) → HasSameComponents s u
    → HasEachNameOnce s → seen_as kind d n (plain u) ≡ seen_as kind d n (plain s)
seen-same kind d n s u same_directives all once = λ i. bare_with kind (option_map bare_name d) (bare_name n)
    (map (λ x. x.value) (map (bare_node bare_directive) (same_directives i)))
    (λ text. sym (list_any-IsPermutation (by_text text) _ _ (IsPermutation-map bare_name _ _ (all Names))) i)
    (entries-same _ bare_field_definition (λ f. refl) _ _ (all Fields) (once Fields refl) i)
    (entries-same (λ v. v.value.value) bare_enum_value_definition (λ v. refl) (s Values) (u Values)
    (all Values) (once Values refl) i) (entries-same (λ f. f.value.name) bare_input_value_definition
    (λ f. refl) (s InputFields) (u InputFields) (all InputFields) (once InputFields refl) i)

-- what is made so of a part and of extensions whose numbers differ
pub record IsMadeBy {P D : Type 0} (make : P → List (ℕ × P) → D) (d : D) : Type 0 where
  pub head : P
  pub extensions : List (ℕ × P)
  pub apart : IsDistinct ◌==◌ (map (λ e. e.0) extensions)
  pub is : d ≡ make head extensions

-- another type is equal to this one and is written out as it is
pub record IsAgain (t u : ExtendedType) : Type 0 where
  pub name : type_name u ≡ type_name t
  pub location : type_location u ≡ type_location t
  pub kind : type_kind u ≡ type_kind t
  pub same : write_type u ≡ write_type t
  pub equal : bare_extended_type u ≡ bare_extended_type t

pub once : (t : ExtendedType) → IsMadeBy made t → HasEachNameOnce (type_sections t)
once t m = subst (λ u. HasEachNameOnce (type_sections u)) (sym m.is) (made-once m.head.kind m.head _)

-- what is written of it, under any distinct numbers of the extensions, makes the type again
module _ (t : ExtendedType) (m : IsMadeBy made t) (b : Bool) (es : List (ℕ × TypePart)) (apart : IsDistinct
    ◌==◌ (map (λ e. e.0) es)) (are_written : map (λ e. e.1) es
    ≡ map (extension_of t) (written t).extensions) where
  abbrev u : ExtendedType
  u = made (definition_part t) es

  same_there : HasWhatIsWritten t u
  same_there = has-what-is-written t es apart are_written (once t m)

  -- directives keep their order
  same_directives : map (λ d. d.1) (type_sections u Directives) ≡ map (λ d. d.1) (type_sections t Directives)
  same_directives = ap (λ s. map (λ d. d.1) (s Directives)) same_there.sections
      ∙ directives-in_order (type_sections t) (type_parts m.head m.extensions) same_there.parts
      (parts-distinct (λ (p : TypePart). p.location) held_parts m.head m.extensions m.apart)
      (ap (λ v. type_sections v Directives) m.is
      ∙ (ap (λ u. u Directives) (sections-made m.head.kind m.head _)
      ∙ shown-parts _ held_parts (λ d. d.directives) m.head m.extensions)) (same_there.definition
      ∙ ap (λ cs. (by_origin cs).definition) (components-sections t)) (same_parts t u same_there)

  pub rebuilt : IsAgain t (made (definition_as t b) es)
  rebuilt = subst (IsAgain t) (sym (type_from-ignorable (definition_part t) b (map extension_part es)))
      (record {
        name = same_there.name;
        location = same_there.location;
        kind = same_there.kind;
        same = type-again t u same_there;
        equal = simp (
          is-seen (type_kind t) (definition_part t) ((Definition, definition_part t) ∷ map extension_part es),
          same_there.kind,
          same_there.description,
          same_there.name,
          seen-same (type_kind t) (type_description t) (type_name t) _ (type_sections u) same_directives
              (components-again t u same_there) (once t m),
          subst IsSeen (sym m.is) (is-seen m.head.kind m.head _),
        );
      })

-- What is written of a type's definition is the definition that it is made of, where that has each name once.

module _ {A : Type 0} where
  -- one that isn't of the definition
  abbrev IsLater : ComponentOrigin × A → Type 0
  IsLater x = same_origin Definition x.0 ≡ false

  -- what is of the definition stands before what isn't
  pub picked-own : (own : List A) (later : List (ComponentOrigin × A)) → AllByRecursion IsLater later
      → picked Definition (map (λ x. (Definition, x)) own ++ later) ≡ own
  picked-own own later a =
      simp (picked-append, picked-of, filter-fails IsLater _ (λ x e. e) later a, append-nil)

  -- also where the first of each name are kept
  picked-first : (name : A → NameView) (own : List A) (later : List (ComponentOrigin × A))
      → AllByRecursion IsLater later → IsDistinct same_text (map name own)
      → picked Definition (firsts (λ x. name x.1) (map (λ x. (Definition, x)) own ++ later)) ≡ own
  picked-first name own later a once =
      let same : ComponentOrigin × A → ComponentOrigin × A → Bool = λ x y. same_text (name x.1) (name y.1) in
      let first = map (λ x. (Definition, x)) own in
      let more = filter (new_to_these same first) (first_of_each same later) in
      ap (picked Definition) (first_of_each-append same (on_equiv (λ x. name x.1) name_laws) first later
      ∙ ap (λ l. l ++ more) (all-first same_text _ first (subst (IsDistinct same_text)
      (sym (map-map (λ (x : ComponentOrigin × A). name x.1) _ own)) once)))
      ∙ picked-own own more (each-weaken _ IsLater (λ x h. h.0) more
      (each-filter IsLater _ _ (each-first IsLater same later a)))

module _ (head : TypePart) (es : List (ℕ × TypePart)) (own : IsOfKind head.kind head.parts)
    (once : HasOwnNames head) where
  abbrev all_parts : List Sourced
  all_parts = (Definition, head) ∷ map extension_part es

  abbrev later : (s : Sort) → List (ComponentOrigin × Item s)
  later s = shown_in (held s) (map extension_part es)

  each-later : (s : Sort) → AllByRecursion IsLater (later s)
  each-later s = each-flat_map IsLater _ _ (each-made _ extension_part (λ e. each-made IsLater _ (λ x. refl)
      _) es)

  -- the definition has what it keeps of its head
  picked-kept : (s : Sort) → picked Definition (kept s (shown_in (held s) all_parts)) ≡ held s head
  picked-kept s = elim (is_keyed s) as (λ b. picked Definition
      (cond b (firsts (λ x. name_of s x.1) (shown_in (held s) all_parts)) (shown_in (held s) all_parts))
      ≡ held s head) [
        | true ↦ picked-first _ _ _ (each-later s) (subst (IsDistinct same_text) (ap
            (λ d. map (name_of s) (listed d s)) (sym own)) (once s))
        | false ↦ picked-own _ _ (each-later s)
      ]

  picked-head : (s : Sort)
      → picked Definition (cond (has head.kind s) (kept s (shown_in (held s) all_parts)) [])
      ≡ listed head.parts s
  picked-head s = grind (arith, of_kind-listed head.kind head.parts own s, picked-kept s, own)

  -- what is written of the definition is the head
  pub definition-own : head.ignorable ≡ false → definition_part (made head es) ≡ head
  definition-own plain = λ i. record {
    kind = type_kind-from head all_parts i;
    name = type_name-from head all_parts i;
    location = type_location-from head all_parts i;
    description = type_description-from head all_parts i;
    parts = (of_sections (made head es) Definition
        ∙ ap (parts_in Definition) (sections-made head.kind head all_parts)
        ∙ (λ j. with_lists (λ s. picked-head s j))) i;
    ignorable = sym plain i;
  }
