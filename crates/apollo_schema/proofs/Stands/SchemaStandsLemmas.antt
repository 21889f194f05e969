-- Tables that stand for a list stand for it with one more definition or extension of the schema, once the
-- code has taken it.
use Rattle.apollo_meaning.proofs as meaning
use meaning.Prelude.{◌≡◌, ℕ, ◌+◌, ◌^◌, ◌≤◌, List, [], ◌∷◌, ◌++◌, length, map, Option, Some, None, refl, sym}
use meaning.Prelude.{ap, ◌∙◌, arith, option_map, option_map_or, option_or, keys_of, map-append, NodeView}
use meaning.Prelude.{next_number, source_at, SchemaDefinition, SchemaPart, schema_extension_part, ListItem}
use meaning.Prelude.{SchemaDefined, SchemaExtended, first_schema, schema_extensions, SourcedSchema}
use meaning.Prelude.{schema_from, schema_faults, further_schema, schema_numbered, schema_begun}
use meaning.Prelude.{schema_begun_faults, schemas_folded_at, types_folded_at, waited_at, folded, found}
use meaning.Prelude.{defined_part, extended_part, schema_of, schema_orphans}
use meaning.Items.ItemLemmas.{first_schema-push_definition, first_schema-push_undefined}
use meaning.Items.ItemLemmas.{schema_extensions-push_extension, schema_extensions-push_unextended}
use meaning.Schema.SchemaLemmas.{schema_of-same, schema_of-more, schema-unfolded, schema_sourced-parts}
use Rattle.std.proofs.lemmas.List.{length-map}
use Rattle.graphql_nodes.specs.declared.source.SourceSpan.{SourceSpan}
use Rattle.graphql_ast.specs.declared.type_system.SchemaExtension.{SchemaExtension}
use Rattle.apollo_component.specs.declared.extension.ComponentOrigin.TheVariants as origins
use Rattle.apollo_meaning.specs.declared.build_error.BuildError.TheVariants as errors
use Rattle.apollo_meaning.specs.Directives.{directive_part}
use Rattle.apollo_schema.specs.declared.tables.Tables.{Tables}
use Rattle.apollo_meaning.specs.Schema.Definition.{schema_parts}
use Rattle.apollo_folding.specs.Noting.{noting, having_folded}
use Rattle.apollo_folding.specs.declared.fold.Fold.{Fold}
use Rattle.apollo_folding.proofs.NotingLemmas.{noting-none}
use Rattle.apollo_schema.specs.Stands.{Stands}
use Rattle.apollo_schema.proofs.Stands.StandsLemmas.{counted_at, at, same_types, same_waiting, same_names}
use Rattle.apollo_schema.proofs.Stands.StandsLemmas.{same_directives, more_faults, noted}

module _ {start : ℕ} {xs : List ListItem} {t : Tables} (was : Stands start xs t) where
  -- the schema has a definition exactly if the list has one
  pub schema_known : (held : NodeView SchemaDefinition) → t.schema_definition ≡ Some held
      → (s : SchemaPart) × ((first_schema xs ≡ Some s)
      × (held ≡ schema_from s (schema_parts start (folded xs) s)))
  schema_known held there = by (first_schema xs) refl (sym there ∙ was.definition)
    where
      by : (o : Option SchemaPart) → first_schema xs ≡ o
          → Some held ≡ option_map (λ s. schema_from s (schema_parts start (folded xs) s)) (first_schema xs)
          → (s : SchemaPart) × ((first_schema xs ≡ Some s)
          × (held ≡ schema_from s (schema_parts start (folded xs) s)))
      by None e g = absurd (cc)
      by (Some s) e g = (s, (e, cc))

  pub schema_unknown : t.schema_definition ≡ None → first_schema xs ≡ None
  schema_unknown absent = grind (arith, absent, was.definition)

  -- the schema's items concern no type and no directive
  abbrev OnlySchema : Tables → Type 0
  OnlySchema u = (u.types ≡ t.types) × ((u.directive_definitions ≡ t.directive_definitions)
      × (u.waiting ≡ t.waiting))

  -- so with such an item they stand where what they hold of the schema, the faults and the numbers do
  with_schema : (x : ListItem) (u : Tables) → OnlySchema u → defined_part x ≡ None → extended_part x ≡ None
      → directive_part x ≡ None → types_folded_at xs x ≡ [] → waited_at xs x ≡ []
      → u.schema_definition ≡ schema_of start (folded (xs ++ x ∷ [])) (xs ++ x ∷ [])
      → map schema_extension_part u.schema_extensions ≡ schema_orphans (xs ++ x ∷ [])
      → u.fold.faults ≡ found (xs ++ x ∷ [])
      → u.fold.ids ≡ source_at (start + length (folded (xs ++ x ∷ []))) → Stands start (xs ++ x ∷ []) u
  with_schema x u same undefined unextended undirected unfolded unwaited definition orphans faults next =
      record {
        definition = definition;
        orphans = orphans;
        types = same_types was x u same.0 undefined unfolded;
        directives = same_directives was x u same.1.0 undirected;
        waiting = same_waiting was x u same.1.1 undefined unextended;
        names = same_names was x u (ap keys_of same.1.1) unwaited;
        faults = faults;
        next = next;
      }

  -- a further definition of the schema changes nothing, and is at fault
  pub Stands-schema_again : (s : SchemaPart) (u : Tables) (held : NodeView SchemaDefinition)
      → t.schema_definition ≡ Some held → u.schema_definition ≡ t.schema_definition
      → u.schema_extensions ≡ t.schema_extensions → OnlySchema u
      → u.fold ≡ noting ((s.location, errors.SchemaDefinitionCollision held.location) ∷ []) t.fold
      → Stands start (xs ++ SchemaDefined s ∷ []) u
  Stands-schema_again s u held there definition extensions same fold =
      let is = schema_known held there in
      let x = SchemaDefined s in
      let none : schemas_folded_at xs x ≡ [] = ap (λ o. option_map_or (λ _. []) o (schema_extensions xs))
      is.1.0 in
      let first : first_schema (xs ++ x ∷ []) ≡ first_schema xs = first_schema-push_definition xs s
      ∙ ap (λ o. option_or o (Some s)) is.1.0 ∙ sym is.1.0 in
      let found = schema_begun_faults s (schema_extensions xs) in
      let now = noted was x u _ fold (ap (λ o. option_map_or (λ f. further_schema f s ∷ []) o found) is.1.0
      ∙ ap (λ (l : Option SourceSpan). (s.location, errors.SchemaDefinitionCollision l) ∷ [])
      (ap (λ (v : NodeView SchemaDefinition). v.location) (sym is.1.1))) refl none in
      with_schema x u same refl refl refl refl refl
      (definition ∙ was.definition ∙ sym (schema_of-same start xs x first none))
      (ap (map schema_extension_part) extensions ∙ was.orphans
      ∙ sym (λ i. option_map_or (λ _. []) (first i) (schema_extensions-push_unextended xs x refl i)))
      now.0 now.1

  -- the first definition of the schema makes its definition, with all that waits for it
  pub Stands-schema_new : (s : SchemaPart) (u : Tables) → t.schema_definition ≡ None
      → u.schema_definition ≡ Some (schema_begun (next_number t.fold.ids) s
      (map schema_extension_part t.schema_extensions)) → u.schema_extensions ≡ []
      → OnlySchema u → u.fold ≡ having_folded (length t.schema_extensions)
      (schema_begun_faults s (map schema_extension_part t.schema_extensions)) t.fold
      → Stands start (xs ++ SchemaDefined s ∷ []) u
  Stands-schema_new s u absent definition extensions same fold =
      let none = schema_unknown absent in
      let x = SchemaDefined s in
      let waiting : map schema_extension_part t.schema_extensions ≡ schema_extensions xs =
      was.orphans ∙ ap (λ o. option_map_or (λ _. []) o (schema_extensions xs)) none in
      let found = schema_begun_faults s (schema_extensions xs) in
      let folding : schemas_folded_at xs x ≡ schema_extensions xs =
      ap (λ o. option_map_or (λ _. []) o (schema_extensions xs)) none in
      let first : first_schema (xs ++ x ∷ []) ≡ Some s = first_schema-push_definition xs s
      ∙ ap (λ o. option_or o (Some s)) none in
      let count : length t.schema_extensions ≡ length (schemas_folded_at xs x) =
      sym (length-map t.schema_extensions schema_extension_part) ∙ ap length (waiting ∙ sym folding) in
      with_schema x u same refl refl refl refl refl (definition
      ∙ (λ i. Some (schema_from s ((origins.Definition, s) ∷ schema_numbered (at was i)
      ((waiting ∙ sym folding) i)))) ∙ sym (schema_of-more start xs x s first refl
      ∙ ap (λ l. Some (schema_from s (((origins.Definition, s) ∷ l) ++ schema_numbered (start
      + length (folded xs)) (schemas_folded_at xs x)))) (schema-unfolded xs start none)))
      (ap (map schema_extension_part) extensions
      ∙ sym (ap (λ o. option_map_or (λ _. []) o (schema_extensions (xs ++ x ∷ []))) first))
      (more_faults was x u _ (ap (λ (f : Fold). f.faults) fold)
      (ap (λ o. option_map_or (λ f. further_schema f s ∷ []) o found) none
      ∙ ap (schema_begun_faults s) (sym waiting)))
      (ap (λ (f : Fold). f.ids) fold
      ∙ ap source_at (omega (arith, count) ∙ counted_at was x [] (schemas_folded_at xs x) refl refl))

  -- an extension of the schema before its definition waits
  pub Stands-schema_early : (e : NodeView SchemaExtension) (u : Tables) → t.schema_definition ≡ None
      → u.schema_definition ≡ t.schema_definition → u.schema_extensions ≡ t.schema_extensions ++ e ∷ []
      → OnlySchema u → u.fold ≡ t.fold
      → Stands start (xs ++ SchemaExtended (schema_extension_part e) ∷ []) u
  Stands-schema_early e u absent definition extensions same fold =
      let none = schema_unknown absent in
      let x = SchemaExtended (schema_extension_part e) in
      let folding : schemas_folded_at xs x ≡ [] =
      ap (λ o. option_map_or (λ _. schema_extension_part e ∷ []) o []) none in
      let first : first_schema (xs ++ x ∷ []) ≡ None = first_schema-push_undefined xs x refl ∙ none in
      let now = noted was x u [] (fold ∙ sym (noting-none t.fold)) (ap
      (λ o. option_map_or (λ s. schema_faults (s ∷ schema_extensions xs) (schema_extension_part e)) o [])
      none) refl folding in
      with_schema x u same refl refl refl refl refl (definition ∙ was.definition
      ∙ sym (schema_of-same start xs x (first_schema-push_undefined xs x refl) folding))
      (ap (map schema_extension_part) extensions ∙ map-append schema_extension_part
      t.schema_extensions (e ∷ []) ∙ ap (λ l. l ++ schema_extension_part e ∷ []) (was.orphans
      ∙ ap (λ o. option_map_or (λ _. []) o (schema_extensions xs)) none)
      ∙ sym (ap (λ o. option_map_or (λ _. []) o (schema_extensions (xs ++ x ∷ []))) first
      ∙ schema_extensions-push_extension xs _))
      now.0 now.1

  -- and one after it is folded in
  pub Stands-schema_late : (e : SchemaPart) (u : Tables) (held grown : NodeView SchemaDefinition)
      → t.schema_definition ≡ Some held → u.schema_definition ≡ Some grown
      → u.schema_extensions ≡ t.schema_extensions → OnlySchema u
      → ((head : SchemaPart) (done : List SourcedSchema) → held ≡ schema_from head done
      → grown ≡ schema_from head (done ++ schema_numbered (next_number t.fold.ids) (e ∷ [])))
      → ((head : SchemaPart) (done : List SourcedSchema) → held ≡ schema_from head done
      → u.fold.faults ≡ t.fold.faults ++ schema_faults (map (λ (s : SourcedSchema). s.1) done) e)
      → u.fold.ids ≡ source_at (next_number t.fold.ids + 1) → Stands start (xs ++ SchemaExtended e ∷ []) u
  Stands-schema_late e u held grown there definition extensions same made faults next =
      let is = schema_known held there in
      let x = SchemaExtended e in
      let done = schema_parts start (folded xs) is.0 in
      let folding : schemas_folded_at xs x ≡ e ∷ [] = ap (λ o. option_map_or (λ _. e ∷ []) o []) is.1.0 in
      let first : first_schema (xs ++ x ∷ []) ≡ Some is.0 = first_schema-push_undefined xs x refl ∙ is.1.0 in
      with_schema x u same refl refl refl refl refl (definition ∙ ap (λ s. Some s) (made is.0 done is.1.1)
      ∙ (λ i. Some (schema_from is.0 (done ++ schema_numbered (at was i) (sym folding i))))
      ∙ sym (schema_of-more start xs x is.0 first refl))
      (ap (map schema_extension_part) extensions ∙ was.orphans
      ∙ ap (λ o. option_map_or (λ _. []) o (schema_extensions xs)) is.1.0
      ∙ sym (ap (λ o. option_map_or (λ _. []) o (schema_extensions (xs ++ x ∷ []))) first))
      (more_faults was x u _ (faults is.0 done is.1.1)
      (ap (λ o. option_map_or (λ s. schema_faults (s ∷ schema_extensions xs) e) o []) is.1.0
      ∙ ap (λ l. schema_faults (is.0 ∷ l) e) (sym (schema_sourced-parts start xs is.0 is.1.0))))
      (next ∙ ap source_at (omega arith ∙ counted_at was x [] (e ∷ []) refl folding))

  -- numbers that are spent there are spent by the list
  pub schema_new-spent : (s : SchemaPart) → t.schema_definition ≡ None
      → 2 ^ 64 ≤ next_number t.fold.ids + length t.schema_extensions
      → 2 ^ 64 ≤ start + length (folded (xs ++ SchemaDefined s ∷ []))
  schema_new-spent s absent full =
      let none = schema_unknown absent in
      let x = SchemaDefined s in
      let folding : schemas_folded_at xs x ≡ map schema_extension_part t.schema_extensions =
      ap (λ o. option_map_or (λ _. []) o (schema_extensions xs)) none
      ∙ sym (was.orphans ∙ ap (λ o. option_map_or (λ _. []) o (schema_extensions xs)) none) in
      omega (
        arith,
        full,
        length-map t.schema_extensions schema_extension_part,
        counted_at was x [] (map schema_extension_part t.schema_extensions) refl folding,
      )

  pub schema_late-spent : (e : SchemaPart) (held : NodeView SchemaDefinition)
      → t.schema_definition ≡ Some held → 2 ^ 64 ≤ next_number t.fold.ids + 1
      → 2 ^ 64 ≤ start + length (folded (xs ++ SchemaExtended e ∷ []))
  schema_late-spent e held there full =
      let is = schema_known held there in
      let folding : schemas_folded_at xs (SchemaExtended e) ≡ e ∷ [] =
      ap (λ o. option_map_or (λ _. e ∷ []) o []) is.1.0 in
      omega (arith, full, counted_at was (SchemaExtended e) [] (e ∷ []) refl folding)
