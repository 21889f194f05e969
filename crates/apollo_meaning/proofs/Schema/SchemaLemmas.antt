-- The schema definition of a list with one more item.
use Rattle.apollo_meaning.proofs.Prelude.{◌≡◌, ℕ, ◌+◌, ◌∷◌, ◌++◌, map, Some, None, refl, ap, ◌∙◌, arith, List}
use Rattle.apollo_meaning.proofs.Prelude.{Option, TypePart, ListItem, Folding, OfType, OfSchema, folded, []}
use Rattle.apollo_meaning.proofs.Prelude.{option_map, append-nil, first_schema, schema_from, schema_parts}
use Rattle.apollo_meaning.proofs.Prelude.{length, option_map_or, SchemaDefined, SourcedSchema, schema_sourced}
use Rattle.apollo_meaning.proofs.Prelude.{filter_map, schema_extensions, schemas_folded_at, filter_map-unmade}
use Rattle.apollo_meaning.proofs.Prelude.{map-append, snoc_ind, SchemaPart, schema_of}
use Rattle.apollo_meaning.proofs.Prelude.{filter_map-append, enumerate_from-append, schema_extension_source}
use Rattle.apollo_meaning.proofs.Prelude.{SchemaExtended, schema_numbered, types_folded_at, filter_map-made}
use Rattle.apollo_component.specs.declared.extension.ComponentOrigin.TheVariants as origins
use Rattle.apollo_component.proofs.Lists.Kept.{map-empty}
use Rattle.apollo_meaning.proofs.Items.ItemLemmas.{first_schema-push_definition, first_schema-push_undefined}
use Rattle.apollo_meaning.proofs.Items.ItemLemmas.{schema_extensions-push_extension}
use Rattle.apollo_meaning.proofs.Items.ItemLemmas.{schema_extensions-push_unextended, folded-push}

schema_sourced-append : (start : ℕ) (fs gs : List Folding)
    → schema_sourced start (fs ++ gs) ≡ schema_sourced start fs ++ schema_sourced (start + length fs) gs
schema_sourced-append start fs gs = rw (enumerate_from-append start fs gs, filter_map-append, map-append)

of-schemas : (n : ℕ) (ss : List SchemaPart) → schema_sourced n (map OfSchema ss) ≡ schema_numbered n ss
of-schemas n [] = refl
of-schemas n (s ∷ ss) = ap (λ l. schema_extension_source (n, s) ∷ l) (of-schemas (n + 1) ss)

-- what an item folds into the schema, numbered after the types that it folds
sourced-at : (start : ℕ) (ps : List TypePart) (ss : List SchemaPart)
    → schema_sourced start (map OfType ps ++ map OfSchema ss) ≡ schema_numbered (start + length ps) ss
sourced-at start [] ss = let same : start + 0 ≡ start = omega arith in rw same (of-schemas start ss)
sourced-at start (p ∷ ps) ss = sourced-at (start + 1) ps ss ∙ ap (λ (n : ℕ). schema_numbered n ss)
    (omega arith)

module _ (start : ℕ) (xs : List ListItem) (x : ListItem) where
  sourced-push : schema_sourced start (folded (xs ++ x ∷ [])) ≡ schema_sourced start (folded xs)
      ++ schema_numbered ((start + length (folded xs)) + length (types_folded_at xs x))
      (schemas_folded_at xs x)
  sourced-push = rw (folded-push xs x) (schema_sourced-append start (folded xs) _
      ∙ ap (λ l. schema_sourced start (folded xs) ++ l) (sourced-at _ _ _))

  pub schema_of-same : first_schema (xs ++ x ∷ []) ≡ first_schema xs → schemas_folded_at xs x ≡ []
      → schema_of start (folded (xs ++ x ∷ [])) (xs ++ x ∷ []) ≡ schema_of start (folded xs) xs
  schema_of-same one none =
      rw (one, sourced-push)
      (λ i. option_map (λ s. schema_from s ((origins.Definition, s)
      ∷ (ap (λ ss. schema_sourced start (folded xs) ++ schema_numbered last ss) none ∙ append-nil _) i))
      (first_schema xs))
    where
      last : ℕ
      last = (start + length (folded xs)) + length (types_folded_at xs x)

  pub schema_of-more : (s : SchemaPart) → first_schema (xs ++ x ∷ []) ≡ Some s → types_folded_at xs x ≡ []
      → schema_of start (folded (xs ++ x ∷ [])) (xs ++ x ∷ [])
      ≡ Some (schema_from s (schema_parts start (folded xs) s ++ schema_numbered (start + length (folded xs))
      (schemas_folded_at xs x)))
  schema_of-more s one none =
      let next : (start + length (folded xs)) + 0 ≡ start + length (folded xs) = omega arith in
      rw (one, sourced-push, none, next)

-- the extensions of the schema among those that are folded
abbrev schema_folding : Folding → Option SchemaPart
schema_folding (OfType p) = None
schema_folding (OfSchema s) = Some s

abbrev schema_foldings : List Folding → List SchemaPart
schema_foldings fs = filter_map schema_folding fs

schema_foldings-push : (xs : List ListItem) (x : ListItem)
    → schema_foldings (folded (xs ++ x ∷ [])) ≡ schema_foldings (folded xs) ++ schemas_folded_at xs x
schema_foldings-push xs x = rw (folded-push xs x, filter_map-append, filter_map-append)
    (λ i. schema_foldings (folded xs) ++ (filter_map-unmade schema_folding OfType (λ p. refl) (types_folded_at
    xs x) i ++ filter_map-made schema_folding OfSchema (λ s. refl) (schemas_folded_at xs x) i))

-- they are all extensions of the schema once it has a definition, and none before that
foldings-of_schema : (xs : List ListItem)
    → schema_foldings (folded xs) ≡ option_map_or (λ _. schema_extensions xs) (first_schema xs) []
foldings-of_schema = snoc_ind _ refl (λ xs x before. rw (schema_foldings-push xs x, before) (step xs x))
  where
    step : (xs : List ListItem) (x : ListItem)
        → option_map_or (λ _. schema_extensions xs) (first_schema xs) [] ++ schemas_folded_at xs x
        ≡ option_map_or (λ _. schema_extensions (xs ++ x ∷ [])) (first_schema (xs ++ x ∷ [])) []
    step xs (SchemaDefined s) =
        rw (first_schema-push_definition xs s, schema_extensions-push_unextended xs _ refl)
        (grind (arith, append-nil (schema_extensions xs)))
    step xs (SchemaExtended s) =
        rw (first_schema-push_undefined xs _ refl, schema_extensions-push_extension xs s) (grind arith)
    step xs x = rw (
      append-nil,
      first_schema-push_undefined xs x refl,
      schema_extensions-push_unextended xs x refl,
    )

-- with their origins forgotten
schema_sourced-forget : (start : ℕ) (fs : List Folding)
    → map (λ (e : SourcedSchema). e.1) (schema_sourced start fs) ≡ schema_foldings fs
schema_sourced-forget start [] = refl
schema_sourced-forget start (OfType p ∷ fs) = schema_sourced-forget _ fs
schema_sourced-forget start (OfSchema s ∷ fs) = ap (λ l. s ∷ l) (schema_sourced-forget (start + 1) fs)

pub schema-unfolded : (xs : List ListItem) (start : ℕ) → first_schema xs ≡ None
    → schema_sourced start (folded xs) ≡ []
schema-unfolded xs start none = map-empty _ _ (schema_sourced-forget start (folded xs)
    ∙ rw none at (foldings-of_schema xs))

pub schema_sourced-parts : (start : ℕ) (xs : List ListItem) (s : SchemaPart) → first_schema xs ≡ Some s
    → map (λ (e : SourcedSchema). e.1) (schema_sourced start (folded xs)) ≡ schema_extensions xs
schema_sourced-parts start xs s some = schema_sourced-forget start (folded xs)
    ∙ rw some at (foldings-of_schema xs)
