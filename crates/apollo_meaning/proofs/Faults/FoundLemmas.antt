-- What is found by places, moment by moment, is what the code finds.
use Rattle.apollo_meaning.proofs as meaning
use meaning.Prelude.{◌≡◌, Option, is_some, Defined, schemas, found_at, same-is, all-kept, ℕ}
use meaning.Prelude.{further_definition, schema_joining_faults, directive_definitions, ◌<◌, [], ◌∷◌, suc, sym}
use meaning.Prelude.{ap, ◌∙◌, same, zero, Bool, true, cond, ◌==◌, List, ◌++◌, take, Some, None, refl, found}
use meaning.Prelude.{false, nat_tests, snoc_ind, TypePart, ListItem, Extended, length, option_map_or}
use meaning.Prelude.{SchemaDefined, extended_part, slice_get-last, slice_get, flat_map, append-nil}
use meaning.Prelude.{each_after, SchemaPart, arith, lookup, key_of, Other, Family, types, Placed, Fault}
use meaning.Prelude.{eq-eqb, filter_map, extensions_of, first_place, part_faults, schema_faults}
use meaning.Prelude.{each_after-push, SchemaExtended, extension_faults, take-append_seam, each_after-start}
use meaning.Prelude.{schema_extensions, extension_places, other_faults, extended_schema, further_schema}
use meaning.Prelude.{joining_faults, slice_get-front}
use meaning.Order.PlaceLemmas.{placed-after, keyed, first-forget, first_place-below, first_place-push}
use meaning.Order.PlaceLemmas.{first-gives, first_schema-gives, same_front, said_when, said-push, said-other}
use meaning.Order.PlaceLemmas.{said-extended, said-defined}
use Rattle.apollo_component.proofs.Lists.Each.{moments-on}
use Rattle.apollo_meaning.specs.Faults.ListFaults.{own_faults, found_when, found_from}

module _ {P : Type 0} (f : Family P) where
  abbrev is_among : P → List ListItem → Bool
  is_among d xs = is_some (lookup (same (f.key d)) (keyed f (filter_map f.defined xs)))

  -- the definition at a place gives its key a first one
  defined-there : (xs : List ListItem) (i : ℕ) (y : ListItem) (d : P) → slice_get xs i ≡ Some y
      → f.defined y ≡ Some d → is_among d xs ≡ true
  defined-there [] i y d there is = absurd (let h : None ≡ Some y = there in cc)
  defined-there (x ∷ xs) zero y d there is =
      let here : f.defined x ≡ Some d = cc in rw (here, same-is _ _ refl)
  defined-there (x ∷ xs) (suc i) y d there is = grind (arith, defined-there xs i y d there is)

  -- so the first definition of its key is as before
  same_place : (xs : List ListItem) (x : ListItem) (i : ℕ) (y : ListItem) (d : P) → slice_get xs i ≡ Some y
      → f.defined y ≡ Some d → first_place f (xs ++ x ∷ []) (f.key d) ≡ first_place f xs (f.key d)
  same_place xs x i y d there is = grind (
    arith,
    first_place-push f xs x (f.key d),
    first-forget f xs (f.key d),
    defined-there xs i y d there is,
  )

  -- whether an item is the first definition of its key
  own-first : {X : Type 0} (one : X) (further : P → X) (none : X) (xs : List ListItem) (x : ListItem) (d : P)
      → f.defined x ≡ Some d
      → option_map_or (λ z. cond (z.0 == length xs) one (further z.1)) (first_place f
      (xs ++ x ∷ []) (f.key d)) none ≡ option_map_or (λ z. further z.1) (first_place f xs (f.key d)) one
  own-first one further none xs x d is =
      let past : (z : Placed P) → first_place f xs (f.key d) ≡ Some z → (z.0 == length xs) ≡ false =
      λ z e. let low = first_place-below f xs _ z e in grind (arith, nat_tests, low) in
      let here = eq-eqb _ (length xs) refl in
      grind (arith, first_place-push f xs x (f.key d), is, same-is _ (f.key d) refl, past, here)

-- what is wrong with an extension of a type, and of the schema, where these items stand before it
abbrev type_said : TypePart → List ListItem → List ℕ → TypePart → List Fault
type_said d xs n e = extension_faults d (extensions_of xs n) e

abbrev schema_said : SchemaPart → List ListItem → List ℕ → SchemaPart → List Fault
schema_said s xs n e = schema_faults (s ∷ schema_extensions xs) e

-- a moment before the item finds what it found
found_when-push : (xs : List ListItem) (x : ListItem) (i : ℕ) → i < length xs
    → found_when (xs ++ x ∷ []) i ≡ found_when xs i
found_when-push xs x i lt = (λ j. option_map_or (own_faults ys i) (slice_get-front xs (x ∷ []) i lt j) []
    ++ (said-push types type_said xs x i lt j ++ said-push schemas schema_said xs x i lt j))
    ∙ ap (λ l. l ++ (said_when types type_said xs i ++ said_when schemas schema_said xs i))
    (by (slice_get xs i) refl)
  where
    ys : List ListItem
    ys = xs ++ x ∷ []

    own : (y : ListItem) → slice_get xs i ≡ Some y → own_faults ys i y ≡ own_faults xs i y
    own (Other d) there = ap (λ l. other_faults (directive_definitions l) d) (same_front xs x i lt)
    own (Defined d) there = rw (same_place types xs x i _ d there refl)
    own (SchemaDefined s) there = rw (same_place schemas xs x i _ s there refl)
    own _ there = refl

    by : (o : Option ListItem) → slice_get xs i ≡ o
        → option_map_or (own_faults ys i) o [] ≡ option_map_or (own_faults xs i) o []
    by None e = refl
    by (Some y) e = own y e

-- an extension of the schema, with this first definition and the extensions before it
abbrev pub schema_faults_with : SchemaPart → List ListItem → Placed SchemaPart → List Fault
schema_faults_with s xs e = schema_faults (s ∷ schema_extensions (take e.0 xs)) e.1

-- the same for the extensions of the schema
pub schema_faults_with-joining : (s : SchemaPart) (xs : List ListItem)
    → flat_map (schema_faults_with s xs) (extension_places schemas xs)
    ≡ schema_joining_faults (s ∷ []) (schema_extensions xs)
schema_faults_with-joining s xs =
    (λ i. flat_map (λ e. schema_faults (s ∷ all-kept (schema_extensions (take e.0 xs)) i) e.1)
    (all-kept (extension_places schemas xs) i)) ∙ placed-after extended_schema (λ _. true) _ [] xs
    ∙ ap (each_after (λ before. schema_faults (s ∷ before)) []) (sym (all-kept (schema_extensions xs)))
    ∙ sym (each_after-start schema_faults _ (schema_extensions xs))

-- at its own moment an item finds what the code finds
found_when-now : (xs : List ListItem) (x : ListItem) → found_when (xs ++ x ∷ []) (length xs) ≡ found_at xs x
found_when-now xs x = ap (λ o. option_map_or (own_faults (xs ++ x ∷ []) (length xs)) o []
    ++ (now_types x ++ now_schemas x)) (slice_get-last xs x) ∙ now x
  where
    now_types : ListItem → List Fault
    now_types x = said_when types type_said (xs ++ x ∷ []) (length xs)

    now_schemas : ListItem → List Fault
    now_schemas x = said_when schemas schema_said (xs ++ x ∷ []) (length xs)

    -- what a definition finds and what it finds of those that waited for it, or what a further one finds
    begun : {P : Type 0} (further : P → List Fault) (own waited : List Fault) (o : Option (Placed P))
        → option_map_or (λ z. further z.1) o own ++ option_map_or (λ _. []) o waited
        ≡ option_map_or (λ z. further z.1) o (own ++ waited)
    begun further own waited o = grind (arith, append-nil {A = Fault})

    now : (x : ListItem)
        → own_faults (xs ++ x ∷ []) (length xs) x ++ (now_types x ++ now_schemas x) ≡ found_at xs x
    now (Other d) = (λ j. other_faults (directive_definitions (take-append_seam xs (Other d ∷ []) j)) d
        ++ (said-other types type_said xs (Other d) refl refl j ++ said-other schemas schema_said xs (Other d)
        refl refl j)) ∙ append-nil _
    now (Extended p) = (λ j. said-extended types type_said xs (Extended p) p refl refl j ++ said-other schemas
        schema_said xs (Extended p) refl refl j) ∙ append-nil _ ∙ first-gives xs _ _ []
    now (SchemaExtended s) = (λ j. said-other types type_said xs (SchemaExtended s) refl refl j
        ++ said-extended schemas schema_said xs (SchemaExtended s) s refl refl j) ∙ first_schema-gives xs _ []
    now (Defined d) =
        let waited = joining_faults d (d ∷ []) (extensions_of xs (key_of d)) in
        (λ j. own-first types (part_faults [] d) (λ z. further_definition z d) [] xs (Defined d) d refl j
        ++ ((said-defined types type_said xs (Defined d) d refl refl
        ∙ ap (option_map_or (λ _. []) (first_place types xs (key_of d)))
        (placed-after extended_part (λ p. same (key_of d) (key_of p)) (extension_faults d) [] xs)) j
        ++ said-other schemas schema_said xs (Defined d) refl refl j))
        ∙ ap (λ l. option_map_or (λ z. further_definition z.1 d) (first_place types xs (key_of d))
        (part_faults [] d) ++ l) (append-nil _) ∙ begun (λ z. further_definition z d) (part_faults [] d)
        waited (first_place types xs (key_of d)) ∙ first-gives xs (key_of d) (λ z. further_definition z d)
        (part_faults [] d ++ waited)
    now (SchemaDefined s) =
        let waited = schema_joining_faults (s ∷ []) (schema_extensions xs) in
        (λ j. own-first schemas (schema_faults [] s) (λ z. further_schema z s ∷ []) [] xs (SchemaDefined s) s
        refl j ++ (said-other types type_said xs (SchemaDefined s) refl refl j
        ++ (said-defined schemas schema_said xs (SchemaDefined s) s refl refl
        ∙ ap (option_map_or (λ _. []) (first_place schemas xs []))
        (ap (flat_map (schema_faults_with s xs)) (sym (all-kept (extension_places schemas xs)))
        ∙ schema_faults_with-joining s xs)) j))
        ∙ begun (λ z. further_schema z s ∷ []) (schema_faults [] s) waited (first_place schemas xs [])
        ∙ first_schema-gives xs (λ z. further_schema z s ∷ []) (schema_faults [] s ++ waited)

-- what is found by places from the end of a list on, moment by moment, is what is found item by item after it
pub found_after-order : (before xs : List ListItem)
    → found_from (length before) (length xs) (before ++ xs) ≡ each_after found_at before xs
found_after-order before = snoc_ind _ refl (λ xs x so_far. moments-on found_when before xs x (found_when-push
    _ x) ∙ (λ j. so_far j ++ found_when-now (before ++ xs) x j) ∙ sym (each_after-push found_at before xs x))

-- and so is all that is found
pub found_in-order : (xs : List ListItem) → found_from 0 (length xs) xs ≡ found xs
found_in-order xs = found_after-order [] xs
