-- What the tables of a list end it with is what the list ends with.
use Rattle.apollo_meaning.proofs as meaning
use meaning.Prelude.{◌≡◌, ℕ, ◌+◌, ◌^◌, ◌≤◌, Bool, cond, List, [], ◌∷◌, ◌++◌, length, map, Some, None, is_some}
use meaning.Prelude.{true, refl, sym, ap, subst, ◌∙◌, arith, append_assoc, flat_map, lookup, option_map_or}
use meaning.Prelude.{option_or, append-nil, NodeView, OperationType, next_number, source_at, SchemaDefinition}
use meaning.Prelude.{TypePart, SchemaPart, TypeKind, schema_extension_part, kind_of, same_kind, roots_in}
use meaning.Prelude.{ListItem, SchemaDefined, extended_parts, first_schema, schema_extensions, Sourced}
use meaning.Prelude.{type_of_kind, type_from, AreTypesOf, orphan, schema_orphan, further_schema}
use meaning.Prelude.{extended_names, orphans_of, schema_orphans, schema_for, implied_schema, schema_begun}
use meaning.Prelude.{schema_begun_faults, by_text, schema_of, directive_definitions, AreDirectivesOf, folded}
use meaning.Prelude.{found_at, found}
use meaning.Items.ItemLemmas.{first_schema-push_definition}
use meaning.Completion.OrphanLemmas.{held-orphans}
use Rattle.std.specs.Map.{values_of}
use Rattle.std.proofs.lemmas.List.Folds.{flat_map-map}
use Rattle.graphql_nodes.specs.declared.type_kind.TypeKind.TheVariants as kinds
use Rattle.apollo_types.specs.SchemaDefinitionWriteOut.{is_some_object}
use Rattle.apollo_schema.specs.declared.tables.Tables.{Tables}
use Rattle.apollo_meaning.specs.Completion.ImpliedSchema.{is_object_name, default_root, implicit_root}
use Rattle.apollo_meaning.specs.Completion.ImpliedSchema.{implicit_roots}
use Rattle.apollo_folding.specs.HeldRoots.{held_root, held_roots}
use Rattle.apollo_folding.specs.Noting.{noting, having_folded}
use Rattle.apollo_folding.specs.declared.fold.Fold.{Fold}
use Rattle.apollo_schema.specs.Stands.{Stands, Ends}
use Rattle.apollo_schema.proofs.Stands.SchemaStandsLemmas.{schema_known, schema_unknown, Stands-schema_new}
use Rattle.apollo_schema.proofs.Stands.SchemaStandsLemmas.{schema_new-spent}

is_object-from : (d : TypePart) (ps : List Sourced)
    → is_some_object (Some (type_from d ps)) ≡ same_kind kinds.Object (kind_of d)
is_object-from d ps = by d.kind
  where
    by : (k : TypeKind) → is_some_object (Some (type_of_kind k d ps)) ≡ same_kind kinds.Object k
    by k = grind arith

module _ {start : ℕ} {xs : List ListItem} {t : Tables} (was : Stands start xs t) where
  held-object : (n : List ℕ) → is_some_object (lookup (by_text n) t.types) ≡ is_object_name xs n
  held-object n = grind (arith, was.types.each n, is_object-from)

  -- the implicit roots of the tables are those of the list
  held-root : (op : OperationType) → held_root t.types op ≡ implicit_root xs op
  held-root op = ap (λ b. cond b (default_root op ∷ []) []) (held-object _)

  held-roots : held_roots t.types ≡ implicit_roots xs
  held-roots = simp (held-root, append_assoc, append-nil)

  waiting-extensions : t.schema_definition ≡ None
      → map schema_extension_part t.schema_extensions ≡ schema_extensions xs
  waiting-extensions absent = rw (was.orphans, schema_unknown was absent)

  -- the schema definition that the tables imply is the one that the list implies
  pub implied-held : (adopts : Bool) → t.schema_definition ≡ None
      → schema_for adopts (roots_in (map schema_extension_part t.schema_extensions)) (held_roots t.types)
      ≡ implied_schema adopts xs
  implied-held adopts absent = rw (waiting-extensions absent, held-roots, schema_unknown was absent)

  pub implied-none : (adopts : Bool) (held : NodeView SchemaDefinition) → t.schema_definition ≡ Some held
      → implied_schema adopts xs ≡ []
  implied-none adopts held there = rw (schema_known was held there).1.0

  pub implied-standing : (adopts : Bool) → is_some t.schema_definition ≡ true → implied_schema adopts xs ≡ []
  implied-standing adopts some = grind (arith, implied-none adopts)

  -- where one is implied none stands
  pub implied-absent : (adopts : Bool) (x : ListItem) → implied_schema adopts xs ≡ x ∷ []
      → t.schema_definition ≡ None
  implied-absent adopts x some = grind (arith, implied-none adopts)

  left-orphans : flat_map extended_parts (values_of t.waiting) ≡ flat_map (orphans_of xs) (extended_names xs)
  left-orphans = rw flat_map-map (held-orphans xs t.waiting was.names was.waiting)

  -- nothing is implied: extensions of the schema are at fault after those of types
  pub Ends-none : (u : Tables) → u.schema_definition ≡ t.schema_definition → u.types ≡ t.types
      → u.directive_definitions ≡ t.directive_definitions
      → u.fold ≡ noting (map schema_orphan (map schema_extension_part t.schema_extensions))
      (noting (map orphan (flat_map extended_parts (values_of t.waiting))) t.fold) → Ends start [] xs u
  Ends-none u definition types directives fold =
      let whole : xs ≡ xs ++ [] = sym (append-nil xs) in
      record {
        definition = definition ∙ was.definition ∙ ap (λ l. schema_of start (folded l) l) whole;
        types = subst (λ l. AreTypesOf start (folded l) l u.types) whole
            (subst (AreTypesOf start (folded xs) xs) (sym types) was.types);
        directives = subst (λ l. AreDirectivesOf (directive_definitions l) u.directive_definitions) whole
            (subst (AreDirectivesOf (directive_definitions xs)) (sym directives) was.directives);
        faults = ap (λ (f : Fold). f.faults) fold
            ∙ (λ i. (was.faults i ++ map orphan (left-orphans i)) ++ map schema_orphan (was.orphans i))
            ∙ append_assoc _ _ (map schema_orphan (schema_orphans xs))
            ∙ ap (λ l. found xs ++ (map orphan (flat_map (orphans_of xs) (extended_names xs))
            ++ map schema_orphan (schema_orphans l))) whole;
        next =
            ap (λ (f : Fold). f.ids) fold ∙ was.next ∙ ap (λ l. source_at (start + length (folded l))) whole;
      }

  -- a definition is implied: the extensions of the schema are folded into it
  pub Ends-some : (s : SchemaPart) (u : Tables) → t.schema_definition ≡ None
      → u.schema_definition ≡ Some (schema_begun (next_number t.fold.ids) s
      (map schema_extension_part t.schema_extensions)) → u.types ≡ t.types
      → u.directive_definitions ≡ t.directive_definitions
      → u.fold ≡ having_folded (length t.schema_extensions) (schema_begun_faults s (map schema_extension_part
      t.schema_extensions)) (noting (map orphan (flat_map extended_parts (values_of t.waiting))) t.fold)
      → Ends start (SchemaDefined s ∷ []) xs u
  Ends-some s u absent definition types directives fold =
      let stands = Stands-schema_new was s _ absent refl refl (refl, (refl, refl)) refl in
      let none = schema_unknown was absent in
      let first : first_schema (xs ++ SchemaDefined s ∷ []) ≡ Some s = first_schema-push_definition xs s
      ∙ ap (λ o. option_or o (Some s)) none in
      let these : schema_begun_faults s (map schema_extension_part t.schema_extensions)
      ≡ found_at xs (SchemaDefined s) = ap (schema_begun_faults s) (waiting-extensions absent)
      ∙ sym (ap (λ o. option_map_or (λ f. further_schema f s ∷ []) o
      (schema_begun_faults s (schema_extensions xs))) none) in
      let orphans = map orphan (flat_map (orphans_of xs) (extended_names xs)) in
      record {
        definition = definition ∙ stands.definition;
        types = subst (AreTypesOf start (folded (xs ++ SchemaDefined s ∷ [])) (xs ++ SchemaDefined s ∷ []))
            (sym types) stands.types;
        directives = subst (AreDirectivesOf (directive_definitions (xs ++ SchemaDefined s ∷ [])))
            (sym directives) stands.directives;
        faults = ap (λ (f : Fold). f.faults) fold
            ∙ (λ i. (was.faults i ++ map orphan (left-orphans i)) ++ these i) ∙ append_assoc _ orphans _
            ∙ ap (λ l. found xs ++ (orphans ++ l)) (sym (append-nil _)
            ∙ sym (append-nil _)) ∙ sym (ap (λ o. found xs
            ++ (orphans ++ ((found_at xs (SchemaDefined s) ++ []) ++ map schema_orphan
            (option_map_or (λ _. []) o (schema_extensions (xs ++ SchemaDefined s ∷ [])))))) first);
        next = ap (λ (f : Fold). f.ids) fold ∙ stands.next;
      }

  -- numbers that the implied definition spends are spent by the list
  pub implied-spent : (adopts : Bool) (s : SchemaPart) → implied_schema adopts xs ≡ SchemaDefined s ∷ []
      → 2 ^ 64 ≤ next_number t.fold.ids + length t.schema_extensions
      → 2 ^ 64 ≤ start + length (folded (xs ++ implied_schema adopts xs))
  implied-spent adopts s some full = subst (λ l. 2 ^ 64 ≤ start + length (folded (xs ++ l))) (sym some)
      (schema_new-spent was s (implied-absent adopts _ some) full)
