-- What a list says of a name with one more item.
use Rattle.apollo_meaning.proofs.Prelude.{◌≡◌, ◌+◌, ◌≤◌, ◌∷◌, ◌++◌, Some, None, ap, same, ℕ, each_after-push}
use Rattle.apollo_meaning.proofs.Prelude.{SchemaExtended, defined_schema, extended_schema, cond, List, []}
use Rattle.apollo_meaning.proofs.Prelude.{arith, lookup, key_of, first, folded, found, waited, length}
use Rattle.apollo_meaning.proofs.Prelude.{length-append, filter-append, SchemaDefined, slice_get-append}
use Rattle.apollo_meaning.proofs.Prelude.{filter, ListItem, Extended, Folding, folded_at, found_at, waited_at}
use Rattle.apollo_meaning.proofs.Prelude.{slice_get, option_or, map-append, SchemaPart, Defined, first_schema}
use Rattle.apollo_meaning.proofs.Prelude.{filter_map-append, each_after-append, schema_extensions}
use Rattle.apollo_meaning.proofs.Prelude.{enumerate_from-append, filter_map-push_none, extensions_with_origin}
use Rattle.apollo_meaning.proofs.Prelude.{TypePart, defined_part, extended_part, extensions_of, lookup-append}
use Rattle.apollo_meaning.specs.Items.Named.{named, definitions}

-- the first definition of a name in a front, or else in the rest
pub first-append : (xs ys : List ListItem) (n : List ℕ)
    → first (xs ++ ys) n ≡ option_or (first xs n) (first ys n)
first-append xs ys n = rw (filter_map-append, map-append) (lookup-append _ (definitions xs) _)

module _ (xs : List ListItem) (p : TypePart) where
  pub definitions-push_definition : definitions (xs ++ Defined p ∷ []) ≡ definitions xs ++ (key_of p, p) ∷ []
  definitions-push_definition = rw (filter_map-append, map-append)

  pub first-push_definition : (n : List ℕ)
      → first (xs ++ Defined p ∷ []) n ≡ option_or (first xs n) (cond (same n (key_of p)) (Some p) None)
  first-push_definition n = first-append xs _ n

  pub extensions_of-push_extension : (n : List ℕ)
      → extensions_of (xs ++ Extended p ∷ []) n ≡ extensions_of xs n ++ cond (same n (key_of p)) (p ∷ []) []
  extensions_of-push_extension n = rw (filter_map-append, filter-append)

-- an item that defines no type, and one that extends none, changes no definition, and no extension
module _ (xs : List ListItem) (x : ListItem) where
  pub definitions-push_undefined : defined_part x ≡ None → definitions (xs ++ x ∷ []) ≡ definitions xs
  definitions-push_undefined none = ap named (filter_map-push_none defined_part xs x none)

  pub first-push_undefined : defined_part x ≡ None → (n : List ℕ) → first (xs ++ x ∷ []) n ≡ first xs n
  first-push_undefined none n = ap (lookup (same n)) (definitions-push_undefined none)

  pub extensions_of-push_unextended : extended_part x ≡ None → (n : List ℕ)
      → extensions_of (xs ++ x ∷ []) n ≡ extensions_of xs n
  extensions_of-push_unextended none n =
      ap (filter (λ p. same n (key_of p))) (filter_map-push_none extended_part xs x none)

  -- nor of the schema
  pub first_schema-push_undefined : defined_schema x ≡ None → first_schema (xs ++ x ∷ []) ≡ first_schema xs
  first_schema-push_undefined none = ap (λ l. slice_get l 0) (filter_map-push_none defined_schema xs x none)

  pub schema_extensions-push_unextended : extended_schema x ≡ None
      → schema_extensions (xs ++ x ∷ []) ≡ schema_extensions xs
  schema_extensions-push_unextended none = filter_map-push_none extended_schema xs x none

  -- what an item adds to what is folded, found and waited for
  pub folded-push : folded (xs ++ x ∷ []) ≡ folded xs ++ folded_at xs x
  folded-push = each_after-push folded_at [] xs x

  pub found-push : found (xs ++ x ∷ []) ≡ found xs ++ found_at xs x
  found-push = each_after-push found_at [] xs x

  pub waited-push : waited (xs ++ x ∷ []) ≡ waited xs ++ waited_at xs x
  waited-push = each_after-push waited_at [] xs x

-- definitions and extensions of the schema
module _ (xs : List ListItem) (s : SchemaPart) where
  pub first_schema-push_definition : first_schema (xs ++ SchemaDefined s ∷ []) ≡ option_or (first_schema xs)
      (Some s)
  first_schema-push_definition = rw filter_map-append (slice_get-append _ _)

  pub schema_extensions-push_extension : schema_extensions (xs ++ SchemaExtended s ∷ [])
      ≡ schema_extensions xs ++ s ∷ []
  schema_extensions-push_extension = filter_map-append extended_schema xs _

-- the folded extensions of a name, after others
pub extensions_with_origin-append : (n : List ℕ) (start : ℕ) (ps qs : List Folding)
    → extensions_with_origin n start (ps ++ qs) ≡ extensions_with_origin n start ps
    ++ extensions_with_origin n (start + length ps) qs
extensions_with_origin-append n start ps qs =
    rw (enumerate_from-append start ps qs, filter_map-append, filter-append, map-append)

-- a longer list folds no less
pub length-folded-front : (xs ys : List ListItem) → length (folded xs) ≤ length (folded (xs ++ ys))
length-folded-front xs ys = rw (each_after-append folded_at [] xs ys, length-append) (omega arith)
