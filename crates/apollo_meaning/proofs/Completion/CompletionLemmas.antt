-- What a list that is completed at its end defines, what it leaves undefined, and what is found in it.
use Rattle.apollo_meaning.proofs as meaning
use meaning.Prelude.{slice_get-append, option_map_or, extended_schema, schema_extensions, ◌≡◌, extended_names}
use meaning.Prelude.{schema_orphans, implied_schema, defined_schema, ℕ, [], Some, None, refl, ap, ◌∙◌, same}
use meaning.Prelude.{Root, Bool, true, cond, List, ◌++◌, arith, key_of, first, orphan, found, false}
use meaning.Prelude.{nat_list_eq_equiv, filter_map-append, list_any-first_of_each, ◌∷◌, filter_map}
use meaning.Prelude.{append-nil, each_after, with_adopted, first_schema, filter, Option, sym, ListItem}
use meaning.Prelude.{adopted, found_at, or-none, roots_in, map, list_any, option_or, TypePart, completed}
use meaning.Prelude.{same-true, flat_map, extended_part, extensions_of, schema_orphan, adopted_part, Defined}
use meaning.Prelude.{orphans_of, adopted_by, bool_cases, SchemaPart, schema_for}
use Rattle.apollo_component.proofs.Lists.Kept.{flat_map-none, nothing}
use meaning.Items.ItemLemmas.{first-append}
use meaning.Types.TypeLemmas.{Own, Own-named}
use meaning.Faults.FoundLemmas.{found_after-order, found_in-order}
use Rattle.apollo_meaning.specs.Faults.ListFaults.{faults_in}
use Rattle.apollo_meaning.specs.Completion.OrphanNames.{first_name, orphan_names}
use Rattle.apollo_meaning.specs.Completion.ImpliedSchema.{implicit_roots}

-- a name that is not extended has no extension
unextended : (n : List ℕ) (ps : List TypePart) → list_any (same n) (map key_of ps) ≡ false
    → filter (λ p. same n (key_of p)) ps ≡ []
unextended n [] none = refl
unextended n (p ∷ ps) none = grind (arith, unextended n ps)

-- the definition that extensions without one are given
abbrev adopted_first : List TypePart → Option TypePart
adopted_first [] = None
adopted_first (e ∷ es) = Some (adopted_part e)

first-adopted_by : (m n : List ℕ) (ps : List TypePart) → Own m ps
    → first (adopted_by ps) n ≡ cond (same n m) (adopted_first ps) None
first-adopted_by m n [] own = grind arith
first-adopted_by m n (p ∷ ps) own = rw (same-true m _ own.0)

module _ (xs : List ListItem) where
  -- what is adopted for these names
  abbrev adopted_for : List (List ℕ) → List ListItem
  adopted_for = flat_map (λ n. adopted_by (orphans_of xs n))

  orphans_of-own : (n : List ℕ) → Own n (orphans_of xs n)
  orphans_of-own n = by (first xs n)
    where
      by : (o : Option TypePart) → Own n (option_map_or (λ _. []) o (extensions_of xs n))
      by None = Own-named n _
      by (Some d) = tt

  -- it holds definitions of types alone
  adopted-alone : {B : Type 0} (f : ListItem → Option B) → ((p : TypePart) → f (Defined p) ≡ None)
      → (ns : List (List ℕ)) → filter_map f (adopted_for ns) ≡ []
  adopted-alone f none [] = refl
  adopted-alone f none (n ∷ ns) = by (orphans_of xs n) (adopted-alone f none ns)
    where
      by : (ps : List TypePart) → filter_map f (adopted_for ns) ≡ []
          → filter_map f (adopted_by ps ++ adopted_for ns) ≡ []
      by [] rest = rest
      by (p ∷ ps) rest = rw (none _) rest

  -- it defines each of them that has an extension and no definition, and no other name
  first-adopted_for : (n : List ℕ) (ns : List (List ℕ))
      → first (adopted_for ns) n ≡ cond (list_any (same n) ns) (adopted_first (orphans_of xs n)) None
  first-adopted_for n [] = refl
  first-adopted_for n (m ∷ ms) = first-append (adopted_by (orphans_of xs m)) _ n
      ∙ (λ i. option_or (first-adopted_by m n _ (orphans_of-own m) i) (first-adopted_for n ms i))
      ∙ bool_cases _ (λ e. rw (e, sym (same-true n m e)) (grind arith)) (λ e. rw e)

  first-adopted : (n : List ℕ) → first (adopted xs) n ≡ adopted_first (orphans_of xs n)
  first-adopted n = first-adopted_for n _ ∙ bool_cases (list_any (same n) (extended_names xs)) (λ e. rw e)
      (λ e. rw e (sym (none e)))
    where
      none : list_any (same n) (extended_names xs) ≡ false → adopted_first (orphans_of xs n) ≡ None
      none e =
          let names : List (List ℕ) = map key_of (filter_map extended_part xs) in
          let absent = sym (list_any-first_of_each same nat_list_eq_equiv n names) ∙ e in
          ap (λ es. adopted_first (option_map_or (λ _. []) (first xs n) es)) (unextended n _ absent)
          ∙ ap adopted_first (nothing _)

  -- so no name is left without a definition
  adopted-orphans_of : (n : List ℕ) → orphans_of (xs ++ adopted xs) n ≡ []
  adopted-orphans_of n =
      (λ i. option_map_or (λ _. []) ((first-append xs (adopted xs) n ∙ ap (option_or (first xs n))
      (first-adopted n)) i) (same_ones i)) ∙ by (first xs n) (extensions_of xs n)
    where
      same_ones : extensions_of (xs ++ adopted xs) n ≡ extensions_of xs n
      same_ones = rw (filter_map-append, adopted-alone extended_part (λ p. refl) _, append-nil)

      by : (o : Option TypePart) (es : List TypePart)
          → option_map_or (λ _. []) (option_or o (adopted_first (option_map_or (λ _. []) o es))) es ≡ []
      by o [] = grind arith
      by o (e ∷ es) = grind arith

  pub orphan_names-adopted : orphan_names (xs ++ adopted xs) ≡ []
  orphan_names-adopted = (λ i. flat_map (λ n. first_name (adopted-orphans_of n i))
      (extended_names (xs ++ adopted xs))) ∙ flat_map-none _ (λ n. refl) (extended_names (xs ++ adopted xs))

-- an implied schema definition defines no type
implied-untyped : (adopts : Bool) (o : Option SchemaPart) (named implicit : List Root) (n : List ℕ)
    → first (option_map_or (λ _. []) o (schema_for adopts named implicit)) n ≡ None
implied-untyped adopts o [] [] n = grind arith
implied-untyped adopts o _ _ n = grind arith

-- the definition of a name
pub first-completed : (adopts : Bool) (xs : List ListItem) (n : List ℕ)
    → first (completed adopts xs) n ≡ option_or (first xs n) (cond adopts (adopted_first (orphans_of xs n))
    None)
first-completed adopts xs n =
    let ys = with_adopted adopts xs in first-append ys (implied_schema adopts ys) n
    ∙ ap (option_or (first ys n)) (implied-untyped adopts (first_schema ys)
    (roots_in (schema_extensions ys)) (implicit_roots ys) n) ∙ or-none _ ∙ by adopts
  where
    by : (b : Bool)
        → first (with_adopted b xs) n ≡ option_or (first xs n) (cond b (adopted_first (orphans_of xs n)) None)
    by b = grind (arith, first-append xs (adopted xs) n, first-adopted xs n, or-none (first xs n))

pub unknown-first : (adopts : Bool) (xs : List ListItem) (n : List ℕ) → first xs n ≡ None
    → extensions_of xs n ≡ [] → first (completed adopts xs) n ≡ None
unknown-first adopts xs n none is = first-completed adopts xs n ∙ rw (none, is) (grind arith)

-- the definition of the schema
first_schema-append : (xs ys : List ListItem)
    → first_schema (xs ++ ys) ≡ option_or (first_schema xs) (first_schema ys)
first_schema-append xs ys = rw filter_map-append (slice_get-append _ _)

-- adopted types say nothing of the schema
first_schema-adopted : (adopts : Bool) (xs : List ListItem)
    → first_schema (with_adopted adopts xs) ≡ first_schema xs
first_schema-adopted adopts xs = grind (
  arith,
  first_schema-append xs (adopted xs),
  adopted-alone xs defined_schema (λ p. refl) (extended_names xs),
  or-none (first_schema xs),
)

schema_extensions-adopted : (adopts : Bool) (xs : List ListItem)
    → schema_extensions (with_adopted adopts xs) ≡ schema_extensions xs
schema_extensions-adopted true xs =
    rw (filter_map-append, adopted-alone xs extended_schema (λ p. refl) _, append-nil)
schema_extensions-adopted false xs = refl

pub first_schema-completed : (adopts : Bool) (xs : List ListItem)
    → first_schema (completed adopts xs) ≡ option_or (first_schema xs) (first_schema
    (schema_for adopts (roots_in (schema_extensions xs)) (implicit_roots (with_adopted adopts xs))))
first_schema-completed adopts xs = first_schema-append (with_adopted adopts xs) _
    ∙ (λ i. option_or (first_schema-adopted adopts xs i)
    (first_schema (option_map_or (λ _. []) (first_schema-adopted adopts xs i)
    (schema_for adopts (roots_in (schema_extensions-adopted adopts xs i))
    (implicit_roots (with_adopted adopts xs)))))) ∙ grind arith

-- the faults of a list by prefixes
pub faults-completed : (adopts : Bool) (xs : List ListItem)
    → faults_in adopts xs ≡ found (with_adopted adopts xs)
    ++ (map orphan (flat_map (orphans_of (with_adopted adopts xs)) (extended_names (with_adopted adopts xs)))
    ++ (each_after found_at (with_adopted adopts xs) (implied_schema adopts (with_adopted adopts xs))
    ++ map schema_orphan (schema_orphans (completed adopts xs))))
faults-completed adopts xs =
    let ys = with_adopted adopts xs in
    λ i. found_in-order ys i ++ (map orphan (flat_map (orphans_of ys) (extended_names ys))
    ++ (found_after-order ys (implied_schema adopts ys) i
    ++ map schema_orphan (schema_orphans (completed adopts xs))))
