-- What is found of one subject, that of its first definition with its extensions and that of each further
-- definition, in another order.
use Rattle.apollo_meaning.proofs.Prelude.{all-kept, ap, append-nil, append_assoc, arith, Bool, bool_cases}
use Rattle.apollo_meaning.proofs.Prelude.{cons_option, Defined, defined_schema, each_after-push, Extended}
use Rattle.apollo_meaning.proofs.Prelude.{extension_faults, extensions_of, false, Family, Fault, filter}
use Rattle.apollo_meaning.proofs.Prelude.{filter-append, filter_map, filter_map-append, flat_map}
use Rattle.apollo_meaning.proofs.Prelude.{flat_map-append, found, found_at, further_definition}
use Rattle.apollo_meaning.proofs.Prelude.{further_schema, key_of, List, ListItem, option_map_or, Other, refl}
use Rattle.apollo_meaning.proofs.Prelude.{same, same-true, schema_begun_faults, schema_extensions}
use Rattle.apollo_meaning.proofs.Prelude.{schema_faults, SchemaDefined, SchemaExtended, SchemaPart, schemas}
use Rattle.apollo_meaning.proofs.Prelude.{slice_get, snoc_ind, true, TypePart, types, ℕ, [], ◌++◌, ◌∷◌, ◌≡◌}
use Rattle.apollo_schema_laws.proofs.Rearranged.Words.{found-push, IsPermutation, IsPermutation-append_comm}
use Rattle.apollo_schema_laws.proofs.Rearranged.Words.{IsPermutation-append_left, IsPermutation-append_right}
use Rattle.apollo_schema_laws.proofs.Rearranged.Words.{IsPermutation-refl, IsPermutation-trans, own-kept}
use Rattle.apollo_schema_laws.proofs.Rearranged.Words.{type_begun_faults}
use Rattle.apollo_schema_laws.proofs.Subjects.{definitions_of, first-is, found_at-own, same_subject, Subject}
use Rattle.apollo_schema_laws.proofs.Subjects.{subject, subject_laws, TheSchema, TypeNamed}

-- how faults are found: at a further definition, at the first one with extensions before it, and at an
-- extension behind it and others
pub record Finding (P : Type 0) : Type 0 where
  pub further : P → P → List Fault
  pub begun : P → List P → List Fault
  pub joins : P → List P → P → List Fault
  pub more : (d : P) (es : List P) (e : P) → begun d (es ++ e ∷ []) ≡ begun d es ++ joins d es e

module _ {P : Type 0} (by_kind : Finding P) where
  -- what is found at definitions and extensions of one key
  abbrev pub grouped : List P → List P → List Fault
  grouped [] es = []
  grouped (d ∷ ds) es = by_kind.begun d es ++ flat_map (by_kind.further d) ds

  -- at one more definition, and at one more extension
  abbrev pub at_definition : List P → List P → P → List Fault
  at_definition ds es p = option_map_or (λ d. by_kind.further d p) (slice_get ds 0) (by_kind.begun p es)

  abbrev pub at_extension : List P → List P → P → List Fault
  at_extension ds es e = option_map_or (λ d. by_kind.joins d es e) (slice_get ds 0) []

  grouped-definition : (ds es : List P) (p : P)
      → grouped (ds ++ p ∷ []) es ≡ grouped ds es ++ at_definition ds es p
  grouped-definition [] es p = append-nil _
  grouped-definition (d ∷ ds) es p =
      simp (flat_map-append (by_kind.further d) ds (p ∷ []), append-nil, append_assoc)

  grouped-extension : (ds es : List P) (e : P)
      → IsPermutation (grouped ds es ++ at_extension ds es e) (grouped ds (es ++ e ∷ []))
  grouped-extension [] es e = IsPermutation-refl []
  grouped-extension (d ∷ ds) es e =
      let first = by_kind.begun d es in
      let others = flat_map (by_kind.further d) ds in
      let here = by_kind.joins d es e in
      rw (append_assoc, by_kind.more, append_assoc) (IsPermutation-append_right first _ _
      (IsPermutation-append_comm others here))

module _ {P : Type 0} (f : Family P) (n : List ℕ) (by_kind : Finding P) (k : Subject) where
  abbrev has : P → Bool
  has p = same n (f.key p)

  abbrev pub defined_of : List ListItem → List P
  defined_of xs = filter has (filter_map f.defined xs)

  abbrev pub extended_of : List ListItem → List P
  extended_of xs = filter has (filter_map f.extended xs)

  abbrev about : ListItem → Bool
  about x = same_subject k (subject x)

  -- what an item adds to the definitions and to the extensions of the key: it defines something, or extends
  -- something, or does neither; and what is found at it is so
  pub data Plays (x : ListItem) : List P → List P → Type 0 where
    Defines : {p : P} → about x ≡ true
        → ((xs : List ListItem) → found_at xs x ≡ at_definition by_kind (defined_of xs) (extended_of xs) p)
        → Plays x (p ∷ []) []
    Extends : {e : P} → about x ≡ true
        → ((xs : List ListItem) → found_at xs x ≡ at_extension by_kind (defined_of xs) (extended_of xs) e)
        → Plays x [] (e ∷ [])
    Neither : about x ≡ false → Plays x [] []

  abbrev pub Plays_as : ListItem → Type 0
  Plays_as x = Plays x (filter has (cons_option (f.defined x) []))
      (filter has (cons_option (f.extended x) []))

  -- what is found at those of the subject is grouped
  regrouped : ((x : ListItem) → Plays_as x) → (xs : List ListItem)
      → IsPermutation (found (filter about xs)) (grouped by_kind (defined_of xs) (extended_of xs))
  regrouped plays = snoc_ind (λ xs. IsPermutation (found (filter about xs)) (grouped by_kind (defined_of xs)
      (extended_of xs))) (IsPermutation-refl []) (λ xs x so_far. simp (filter_map-append, filter-append)
      (more xs x _ _ so_far (plays x)))
    where
      own : (xs : List ListItem) (x : ListItem) → about x ≡ true
          → found_at (filter about xs) x ≡ found_at xs x
      own = own-kept same_subject subject_laws subject found_at found_at-own about
          (λ y z s. ap (same_subject k) s)

      more : (xs : List ListItem) (x : ListItem) (ds es : List P)
          → IsPermutation (found (filter about xs)) (grouped by_kind (defined_of xs) (extended_of xs))
          → Plays x ds es
          → IsPermutation (found (filter about xs ++ filter about (x ∷ []))) (grouped by_kind (defined_of xs
          ++ ds) (extended_of xs ++ es))
      more xs x _ _ so_far (Neither a) = simp (a, append-nil) so_far
      more xs x _ _ so_far (Defines a at) =
          rw (a, found-push, own xs x a, at xs, append-nil, grouped-definition) (IsPermutation-append_left _ _
          _ so_far)
      more xs x _ _ so_far (Extends a at) = rw (a, found-push, own xs x a, at xs, append-nil)
          (IsPermutation-trans _ _ _ (IsPermutation-append_left _ _ _ so_far) (grouped-extension by_kind _ _
          _))

-- what is found of a type
abbrev pub finding_types : Finding TypePart
finding_types = record {
  further = further_definition;
  begun = type_begun_faults;
  joins = extension_faults;
  more = λ d es e. simp (each_after-push, append_assoc);
}

-- and of the schema
abbrev pub finding_schemas : Finding SchemaPart
finding_schemas = record {
  further = λ s t. further_schema s t ∷ [];
  begun = schema_begun_faults;
  joins = λ s es. schema_faults (s ∷ es);
  more = λ s es e. simp (each_after-push, append_assoc);
}

pub plays-type : (n : List ℕ) (x : ListItem) → Plays_as types n finding_types (TypeNamed n) x
plays-type n (Defined p) =
    bool_cases (same n (key_of p))
    (λ own. rw own (Defines {p = p} own (λ xs. grind (arith, same-true n (key_of p) own, first-is xs n))))
    (λ own. rw own (Neither own))
plays-type n (Extended p) =
    bool_cases (same n (key_of p))
    (λ own. rw own (Extends {e = p} own (λ xs. rw (same-true n (key_of p) own, first-is xs (key_of p)) refl)))
    (λ own. rw own (Neither own))
plays-type n (Other d) = Neither (grind arith)
plays-type n x = Neither refl

pub plays-schema : (x : ListItem) → Plays_as schemas [] finding_schemas TheSchema x
plays-schema (SchemaDefined s) =
    Defines {p = s} refl (λ xs.
    grind (arith, all-kept (filter_map defined_schema xs), all-kept (schema_extensions xs)))
plays-schema (SchemaExtended e) =
    Extends {e = e} refl (λ xs.
    grind (arith, all-kept (filter_map defined_schema xs), all-kept (schema_extensions xs)))
plays-schema (Other d) = Neither (grind arith)
plays-schema x = Neither refl

-- what is found at the definitions and extensions of a name, by itself
pub type-regrouped : (n : List ℕ) (xs : List ListItem)
    → IsPermutation (found (filter (λ x. same_subject (TypeNamed n) (subject x)) xs))
    (grouped finding_types (definitions_of xs n) (extensions_of xs n))
type-regrouped n = regrouped types n finding_types _ (plays-type n)

-- and at those of the schema
pub schema-regrouped : (xs : List ListItem)
    → IsPermutation (found (filter (λ x. same_subject TheSchema (subject x)) xs))
    (grouped finding_schemas (filter_map defined_schema xs) (schema_extensions xs))
schema-regrouped xs = rw (all-kept (filter_map defined_schema xs), all-kept (schema_extensions xs))
    (regrouped schemas [] finding_schemas TheSchema plays-schema xs)
