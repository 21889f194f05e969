-- The order of folding by places is the order in which the code folds: moment by moment.
use Rattle.apollo_meaning.proofs as meaning
use meaning.Prelude.{◌≡◌, ℕ, ◌<◌, ◌∷◌, map, refl, sym, ap, ◌∙◌, same, max, true, false, ◌==◌, List, ◌++◌}
use meaning.Prelude.{arith, first, folded, types, Placed, [], option_map_or, SchemaExtended, extended_schema}
use meaning.Prelude.{types_folded_at, length, Option, filter, key_of, OfType, of_kind, schemas, map-map}
use meaning.Prelude.{all-kept, SchemaDefined, extended_part, first_schema, folding_order, is_folded, met_when}
use meaning.Prelude.{flat_map, SchemaPart, folded_at, first_place, folded_when, schemas_folded_at}
use meaning.Prelude.{extension_places, snoc_ind, TypePart, kind_of, ListItem, Defined, Extended, OfSchema}
use meaning.Items.ItemLemmas.{folded-push}
use meaning.Order.PlaceLemmas.{chosen-forget, first-gives, first_schema-gives, said_of, said_when, said-push}
use meaning.Order.PlaceLemmas.{said-other, said-extended, said-defined}
use Rattle.std.proofs.lemmas.List.Concat.{flat_map_single}
use Rattle.apollo_component.proofs.Lists.Each.{moments-push}

-- of an extension of the definition's kind it is said that it is folded, and so of each of the schema
abbrev of_type : TypePart → List ListItem → List ℕ → TypePart → List TypePart
of_type d _ _ e = of_kind (kind_of d) (e ∷ [])

abbrev of_schema : SchemaPart → List ListItem → List ℕ → SchemaPart → List SchemaPart
of_schema _ _ _ e = e ∷ []

types-said : (xs : List ListItem) (es : List (Placed TypePart))
    → map (λ e. e.1) (filter (is_folded xs) es) ≡ flat_map (said_of types of_type xs) es
types-said xs [] = refl
types-said xs (e ∷ es) = grind (arith, types-said xs es)

schemas-said : (xs : List ListItem) (i : ℕ)
    → map (λ e. e.1) (met_when schemas xs i) ≡ said_when schemas of_schema xs i
schemas-said xs i = by (first_place schemas xs []) (extension_places schemas xs)
  where
    met : Option (Placed SchemaPart) → List (Placed SchemaPart) → List (Placed SchemaPart)
    met o = filter (λ e. option_map_or (λ d. max e.0 d.0 == i) o false)

    by : (o : Option (Placed SchemaPart)) (es : List (Placed SchemaPart))
        → map (λ e. e.1) (met o es) ≡ flat_map (λ e. option_map_or (λ _. e.1 ∷ []) o []) (met o es)
    by o [] = refl
    by o (e ∷ es) = grind (arith, by o es)

folded_when-said : (xs : List ListItem) (i : ℕ)
    → folded_when xs i ≡ map OfType (said_when types of_type xs i)
    ++ map OfSchema (said_when schemas of_schema xs i)
folded_when-said xs i =
    (λ j. sym (map-map OfType (λ (e : Placed TypePart). e.1) (filter (is_folded xs) (met_when types xs i))) j
    ++ sym (map-map OfSchema (λ (e : Placed SchemaPart). e.1) (met_when schemas xs i)) j)
    ∙ (λ j. map OfType (types-said xs (met_when types xs i) j) ++ map OfSchema (schemas-said xs i j))

-- at its own moment an item folds what the code folds
types-now : (xs : List ListItem) (x : ListItem)
    → said_when types of_type (xs ++ x ∷ []) (length xs) ≡ types_folded_at xs x
types-now xs (Extended p) = said-extended types of_type xs _ p refl refl ∙ first-gives xs _ _ []
types-now xs (Defined d) =
    let waiting = filter (λ e. same (key_of d) (key_of e.1)) (extension_places types xs) in
    said-defined types of_type xs (Defined d) d refl refl ∙ first-gives xs _ _ _
    ∙ ap (option_map_or (λ _. []) (first xs (key_of d))) (kinds waiting
    ∙ ap (of_kind (kind_of d)) (chosen-forget extended_part _ xs))
  where
    kinds : (es : List (Placed TypePart))
        → flat_map (λ e. of_kind (kind_of d) (e.1 ∷ [])) es ≡ of_kind (kind_of d) (map (λ e. e.1) es)
    kinds [] = refl
    kinds (e ∷ es) = grind (arith, kinds es)
types-now xs x = said-other types of_type xs x refl refl

schemas-now : (xs : List ListItem) (x : ListItem)
    → said_when schemas of_schema (xs ++ x ∷ []) (length xs) ≡ schemas_folded_at xs x
schemas-now xs (SchemaExtended s) = said-extended schemas of_schema xs _ s refl refl
    ∙ first_schema-gives xs _ []
schemas-now xs (SchemaDefined s) =
    let waiting = filter (λ _. true) (extension_places schemas xs) in
    said-defined schemas of_schema xs (SchemaDefined s) s refl refl ∙ first_schema-gives xs _ _
    ∙ ap (option_map_or (λ _. []) (first_schema xs)) (flat_map_single _ waiting
    ∙ chosen-forget extended_schema (λ _. true) xs ∙ sym (all-kept _))
schemas-now xs x = said-other schemas of_schema xs x refl refl

-- the order of folding by places is that of the definitions by prefixes
pub folding_order-forget : (xs : List ListItem) → folding_order xs ≡ folded xs
folding_order-forget = snoc_ind _ refl (λ xs x before. moments-push folded_when xs x (earlier xs x)
    ∙ (λ j. before j ++ now xs x j) ∙ sym (folded-push xs x))
  where
    earlier : (xs : List ListItem) (x : ListItem) (i : ℕ) → i < length xs
        → folded_when (xs ++ x ∷ []) i ≡ folded_when xs i
    earlier xs x i lt = folded_when-said (xs ++ x ∷ []) i
        ∙ (λ j. map OfType (said-push types of_type xs x i lt j)
        ++ map OfSchema (said-push schemas of_schema xs x i lt j)) ∙ sym (folded_when-said xs i)

    now : (xs : List ListItem) (x : ListItem) → folded_when (xs ++ x ∷ []) (length xs) ≡ folded_at xs x
    now xs x = folded_when-said (xs ++ x ∷ []) _ ∙ (λ j. map OfType (types-now xs x j)
        ++ map OfSchema (schemas-now xs x j))
