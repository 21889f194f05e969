-- What holds of each entry of a list holds of what the list is completed with. So something holds of each
-- type and of the schema's definition that it means, and of each definition that these are written out as.
use Rattle.apollo_canonical.proofs as canonical
use canonical.Prelude.{AllByRecursion, AreTypesOf, Bool, Defined, Definition, Extended, ExtendedType}
use canonical.Prelude.{FoldsAll, FoldsByKind, IfSome, List, ListItem, NameView, NodeView, None, Option, Other}
use canonical.Prelude.{Root, Schema, SchemaDefined, SchemaDefinition, SchemaExtended, SchemaPart, Some}
use canonical.Prelude.{TypePart, [], adopted, adopted_by, adopted_part, completed, defined_part}
use canonical.Prelude.{defined_schema, each-append, enumerate_from, extended_names, extended_part}
use canonical.Prelude.{extended_schema, extension_part, extensions_of, false, filter, filter_map, first}
use canonical.Prelude.{first_schema, folding_order, implicit_roots, implied_schema, key_of, map, no_schema}
use canonical.Prelude.{of_schema, option_map, option_map_or, parts, refl, roots_in, same}
use canonical.Prelude.{schema_extension_source, schema_extensions, schema_for, schema_from, schema_of}
use canonical.Prelude.{schema_of_roots, schema_parts, subst, sym, true, type_from, type_names-first, type_of}
use canonical.Prelude.{unwrap_or, values_of, with_adopted, write_directives, write_held_schema_definition}
use canonical.Prelude.{write_held_type, write_schema, ℕ, ◌∙◌, ◌∷◌, ◌≡◌}
use canonical.Schemas.WellFormedLists.{each-chosen, each-flat_map, each-from_map, each-map, each-of}
use canonical.Schemas.WellFormedLists.{each-passing, each-value, if-first, if-looked_up}
use Rattle.apollo_component.specs.declared.extension.ComponentOrigin.TheVariants as origins
use Rattle.apollo_meaning.specs.Types.Meaning.{of_type}

module _ (P : ListItem → Type 0) where
  -- what holds of an entry as the definition or an extension of a type, or of the schema
  abbrev D : TypePart → Type 0
  D p = P (Defined p)

  abbrev E : TypePart → Type 0
  E p = P (Extended p)

  abbrev S : SchemaPart → Type 0
  S s = P (SchemaDefined s)

  abbrev T : SchemaPart → Type 0
  T s = P (SchemaExtended s)

  -- what it says of an entry that is one of these
  chosen : (x : ListItem) → P x
      → IfSome (defined_part x) D × IfSome (extended_part x) E × IfSome (defined_schema x) S
      × IfSome (extended_schema x) T
  chosen (Defined p) h = (h, tt, tt, tt)
  chosen (Extended p) h = (tt, h, tt, tt)
  chosen (SchemaDefined s) h = (tt, tt, h, tt)
  chosen (SchemaExtended s) h = (tt, tt, tt, h)
  chosen (Other d) h = (tt, tt, tt, tt)

  each-extension : (xs : List ListItem) → AllByRecursion P xs → (n : List ℕ)
      → AllByRecursion E (extensions_of xs n)
  each-extension xs a n = each-passing E _ _ (each-chosen E P extended_part (λ x h. (chosen x h).1) xs a)

  -- what a list is completed with
  module _ (adopt : (e : TypePart) → E e → D (adopted_part e)) (imply : (xs : List ListItem)
      → S (schema_of_roots (implicit_roots xs))) where
    each-adopted : (xs : List ListItem) → AllByRecursion P xs → AllByRecursion P (adopted xs)
    each-adopted xs a = each-flat_map P _ _
        (each-of _ (λ n. by (first xs n) (extensions_of xs n) (each-extension xs a n)) (extended_names xs))
      where
        by : (o : Option TypePart) (es : List TypePart) → AllByRecursion E es
            → AllByRecursion P (adopted_by (option_map_or (λ _. []) o es))
        by (Some d) es h = tt
        by None [] h = tt
        by None (e ∷ es) h = (adopt e h.0, tt)

    each-implied : (adopts : Bool) (xs : List ListItem) → AllByRecursion P (implied_schema adopts xs)
    each-implied adopts xs = by (first_schema xs) adopts (roots_in (schema_extensions xs)) (implicit_roots xs)
        (imply xs)
      where
        by : (o : Option SchemaPart) (b : Bool) (named rs : List Root) → S (schema_of_roots rs)
            → AllByRecursion P (option_map_or (λ _. []) o (schema_for b named rs))
        by (Some s) b named rs h = tt
        by None true [] rs h = (h, tt)
        by None true (r ∷ named) rs h = (imply [], tt)
        by None false named [] h = tt
        by None false named (r ∷ rs) h = (h, tt)

    pub each-completed : (adopts : Bool) (xs : List ListItem) → AllByRecursion P xs
        → AllByRecursion P (completed adopts xs)
    each-completed adopts xs a = each-append P _ _ (by adopts) (each-implied adopts (with_adopted adopts xs))
      where
        by : (b : Bool) → AllByRecursion P (with_adopted b xs)
        by true = each-append P xs _ a (each-adopted xs a)
        by false = a

  -- the types of a list, of which each is made of a definition and extensions
  module _ (Q : ExtendedType → Type 0) (made : (d : TypePart) (es : List (ℕ × TypePart)) → D d
      → AllByRecursion (λ e. E e.1) es → Q (type_from d ((origins.Definition, d) ∷ map extension_part es)))
      (folds : FoldsByKind) (start : ℕ) (xs : List ListItem) (a : AllByRecursion P xs) where
    one-type : (n : List ℕ) → IfSome (type_of start (folding_order xs) xs n) Q
    one-type n = by (first xs n) refl (if-looked_up D (same n) _
        (each-map _ _ _ (each-chosen D P defined_part (λ x h. (chosen x h).0) xs a)))
      where
        es : List (ℕ × TypePart)
        es = filter (λ e. same n (key_of e.1)) (filter_map of_type (enumerate_from start (folding_order xs)))

        by : (o : Option TypePart) → first xs n ≡ o → IfSome o D
            → IfSome (option_map (λ d. type_from d (parts start (folding_order xs) n d)) o) Q
        by None e h = tt
        by (Some d) e h = made d es h (each-from_map _ extension_part es
            (each-from_map E _ _ (subst (AllByRecursion E) (sym (folds start xs n d e))
            (each-passing E _ _ (each-extension xs a n)))))

    pub each-type : (table : List (NameView × ExtendedType)) → AreTypesOf start (folding_order xs) xs table
        → AllByRecursion Q (values_of table)
    each-type table are = each-value Q table _ (are.names ∙ type_names-first xs) (λ n. subst (λ o. IfSome o Q)
        (sym (are.each n)) (one-type n))

  -- and the schema's definition
  module _ (R : NodeView SchemaDefinition → Type 0) (none : R no_schema)
      (made : (s : SchemaPart) (es : List (ℕ × SchemaPart)) → S s → AllByRecursion (λ e. T e.1) es
      → R (schema_from s ((origins.Definition, s) ∷ map schema_extension_source es))) (folds : FoldsAll)
      (start : ℕ) (xs : List ListItem) (a : AllByRecursion P xs) where
    pub schema-meant : R (unwrap_or (schema_of start (folding_order xs) xs) no_schema)
    schema-meant = by (first_schema xs) refl
        (if-first S _ (each-chosen S P defined_schema (λ x h. (chosen x h).2) xs a))
      where
        es : List (ℕ × SchemaPart)
        es = filter_map of_schema (enumerate_from start (folding_order xs))

        by : (o : Option SchemaPart) → first_schema xs ≡ o → IfSome o S
            → R (unwrap_or (option_map (λ s. schema_from s (schema_parts start (folding_order xs) s)) o)
            no_schema)
        by None e h = none
        by (Some s) e h = made s es h (each-from_map _ schema_extension_source es
            (each-from_map T _ _ (subst (AllByRecursion T) (sym (folds start xs s e))
            (each-chosen T P extended_schema (λ x h. (chosen x h).3) xs a))))

-- what is written out
pub each-written : (P : Definition → Type 0) (schema : Schema)
    → AllByRecursion P (write_held_schema_definition schema)
    → AllByRecursion P (write_directives (values_of schema.directive_definitions))
    → AllByRecursion (λ t. AllByRecursion P (write_held_type t)) (values_of schema.types)
    → AllByRecursion P (write_schema schema)
each-written P schema definition directives types =
    each-append P _ _ (each-append P _ _ definition directives) (each-flat_map P _ _ types)
