-- A schema's write-out means an equal schema with the same write-out, without fault, and there is one that it
-- means.
pub mod WrittenList
pub use WrittenList.*
use Rattle.apollo_schema_laws.proofs as laws
pub use laws.Words.{◌==◌, true≢false, bool_cases, ComponentName, bare_schema_definition, has_own_root}
pub use laws.Words.{is_implied, adopting_schema, implicit_roots, IsPermutation-append_comm, schema_orphans}
pub use laws.Words.{DirectiveNamed, faults_in, further_schema, found, drop, bare_directive_definition}
pub use laws.Words.{entries_from_lookups, AreOf, MeansSchema, write_held_type, write_schema, type_of}
pub use laws.Words.{faults_of, each-append, or-none, adopted_by, orphans_of, with_adopted, is_object_name}
use laws.Words.{IsDistinct, Definition, no_parts}
pub use laws.Definitions.{equal-again, implied-unwritten, left-out, left-out-equal, left-out-written}
pub use laws.Definitions.{IsWrittenHead, extension_written, schema-again, IsMeantSchema, first_schema-append}
pub use laws.Definitions.{meant-schema, node-of, schema_node, schema_numbers-parts, SameImplied, no-own}
pub use laws.Definitions.{written-alike, roots_where, implied-distinct, schema-row}
pub use laws.Words.{distinct-filter, flat_map-none}
pub use laws.Types.{schema_numbers, schema_numbers-rise, once-in_parts, once}
pub use laws.Items.{faultless-by_topic, type-faultless, chosen-implied}
pub use Rattle.apollo_component.proofs.Lists.EachAfter.{each_after-append}
pub use Rattle.apollo_meaning.proofs.Completion.CompletionLemmas.{faults-completed}
pub use Rattle.apollo_schema.specs.EqualSchemas.{AreEqualSchemas}
pub use Rattle.apollo_meaning.proofs.Order.FoldingLemmas.{type_kind-from}
use Rattle.graphql_nodes.specs.declared.type_kind.TypeKind.TheVariants as kinds

module _ (schema : Schema) (list : IsMeantByList schema) (c : Bool) where
  open list use {start, adopts, more, means}

  abbrev types : List (NameView × ExtendedType)
  types = schema.types

  abbrev xs : List ListItem
  xs = whole adopts (with_built_ins more)

  -- the list with adopted types
  abbrev W : List ListItem
  W = with_adopted adopts (items adopts more)

  abbrev node : NodeView SchemaDefinition
  node = schema_node start xs

  abbrev d : SchemaDefinition
  d = node.value

  abbrev head : SchemaPart
  head = written_head d node.location

  abbrev exts : List SchemaPart
  exts = written_extensions d

  abbrev ds : Directives
  ds = written_directives schema list

  abbrev others : List ListItem
  others = schema_items c d node.location types ++ directive_items ds

  -- the written list, what it is completed with, and both
  abbrev ys : List ListItem
  ys = written_list c d node.location types ds (values_of types)

  abbrev ends : List ListItem
  ends = implied_schema true ys

  abbrev zs : List ListItem
  zs = ys ++ ends

  quiet : AllByRecursion IsQuiet others
  quiet = each-append IsQuiet _ _ (schema-quiet c d node.location types) (directives-quiet _)

  -- what stands before the types, where nothing stands behind them, and where what it is completed with does
  abbrev before_types : Around
  before_types = record { others = others; ends = []; quiet = quiet; quiet_end = tt }

  abbrev around_types : Around
  around_types = record { others = others; ends = ends; quiet = quiet; quiet_end = quiet-implied ys }

  alone : again_items schema list c before_types ≡ ys
  alone = append-nil ys

  first-nothing : (n : List ℕ) → lookup (by_text n) types ≡ None → about (TypeNamed n) ys ≡ []
  first-nothing n none = ap (about (TypeNamed n)) (sym alone) ∙ view-nothing schema list c before_types n none

  first-there : (n : List ℕ) (t : ExtendedType) (e : lookup (by_text n) types ≡ Some t)
      → first ys n ≡ Some (definition_as t (flag schema list c before_types n t e))
  first-there n t e = ap (λ l. first l n) (sym alone) ∙ first-again schema list c before_types n t e

  orphans-none : (n : List ℕ) → orphans_of ys n ≡ []
  orphans-none n = option_cases _ (λ e. grind (arith, extensions-about n ys, first-nothing n e))
      (λ t e. grind (arith, first-there n t e))

  with-adopted : with_adopted true ys ≡ ys
  with-adopted = ap (λ l. ys ++ l) (flat_map-none _ (λ n. ap adopted_by (orphans-none n)) _) ∙ append-nil ys

  -- whether a type of the name is an object type, in the list and in the written one
  object-listed : (n : List ℕ) → is_object_name W n ≡ is_some_object (lookup (by_text n) types)
  object-listed n = option_cases _ (λ e. grind (arith, e, same_first, unmeant start xs types means.types n e))
      (λ t e. let m = meant start xs types means.types n t e in
      grind (arith, e, same_first, m.first_one, m.made_of.is, type_kind-from, object-kind t))
    where
      same_first : first xs n ≡ first W n
      same_first = simp (first-append, by_implied (λ l. first l n ≡ None) refl (λ s. refl) adopts W, or-none)

  object-again : (n : List ℕ) → is_object_name ys n ≡ is_some_object (lookup (by_text n) types)
  object-again n = option_cases (lookup (by_text n) types)
      (λ e. grind (arith, e, first-about n ys, first-nothing n e))
      (λ t e. grind (arith, e, first-there n t e, object-kind t))

  abbrev implied_here : List Root
  implied_here = roots_where (object_at types)

  implicit-again : implicit_roots ys ≡ implied_here
  implicit-again = simp object-again

  exts-ys : schema_extensions ys ≡ exts
  exts-ys = list-schema_extensions c d node.location types ds (values_of types)

  exts-zs : schema_extensions zs ≡ exts
  exts-zs = chosen-implied extended_schema (λ s. refl) true ys ∙ exts-ys

  -- where a definition is written, the list is completed with nothing, and else with one that has the implied
  -- roots, if no extension names one
  ended : (b : Bool) → is_written types d ≡ b
      → (first_schema ys ≡ cond b (Some head) None)
      × (ends ≡ cond b [] (adopting_schema (roots_in (schema_extensions ys)) (implicit_roots ys)))
  ended b e =
      let here = list-first_schema c d node.location types ds (values_of types)
      ∙ ap (λ b. cond b (Some head) None) e in (here, grind (arith, here))

  -- so there is one
  first-written : is_written types d ≡ true → first_schema zs ≡ Some head
  first-written e = first_schema-append ys ends ∙ ap (λ o. option_or o (first_schema ends)) (ended true e).0

  first-ended : is_written types d ≡ false → (s : SchemaPart) → ends ≡ SchemaDefined s ∷ []
      → first_schema zs ≡ Some s
  first-ended e s is = first_schema-append ys ends
      ∙ (λ i. option_or ((ended false e).0 i) (first_schema (is i)))

  -- The written list is without fault.

  type-none : (n : List ℕ) (t : ExtendedType) → lookup (by_text n) types ≡ Some t
      → found (about (TypeNamed n) ys) ≡ []
  type-none n t e =
      let b = flag schema list c before_types n t e in
      ap found (ap (about (TypeNamed n)) (sym alone) ∙ view-type schema list c before_types n t e
      ∙ ap (λ l. Defined (definition_as t b) ∷ l) (sym (map-map Extended _ (written t).extensions)))
      ∙ type-faultless _ _ (fits schema list c before_types n t e)
      (once-in_parts t b (once t (is-made schema list n t e)))

  schema-items-none : found (about TheSchema ys) ≡ []
  schema-items-none = ap found (list-about_schema c d node.location types ds (values_of types)
      ∙ schema-listed c d node.location types
      ∙ ap (λ l. cond (is_written types d) (SchemaDefined head ∷ []) []
      ++ l) (sym (map-map SchemaExtended schema_extension_of (written_parts_of d).extensions)))
      ∙ (elim (is_written types d) as (λ b. found (cond b (SchemaDefined head ∷ []) [] ++ map SchemaExtended
      exts) ≡ []) [ true ↦ schema-faultless head exts (written-distinct d) | false ↦ early-none [] exts ])

  others-none : found (about NoSubject ys) ≡ []
  others-none = ap found (list-about_others c d node.location types ds (values_of types))
      ∙ each_after-append found_at [] (about NoSubject built_ins) _
      ∙ (λ i. others-built_in i ++ (ap (λ l. each_after found_at l (directive_items ds)) (sym (append-nil _))
      ∙ directives-none (about NoSubject built_ins) (sym (directives-about built_ins)) ds
      (distinct-filter same_text name_laws _ is_handed_in _ (names-distinct schema.directive_definitions
      (unique_directives schema list) (texts schema list)))) i)

  found-none : found ys ≡ []
  found-none = faultless-by_topic ys by
    where
      by : (topic : Subject) → found (about topic ys) ≡ []
      by (TypeNamed n) = option_cases _ (λ e. ap found (first-nothing n e)) (type-none n)
      by TheSchema = schema-items-none
      by NoSubject = others-none
      by (DirectiveNamed n) = ap found (filter-fails _ _ (λ x e. e) ys (each-of _ (λ x. grind arith) ys))

  -- what is found at the end: at an implied definition, and of extensions without any
  end-none : (each_after found_at ys ends ≡ []) × (schema_orphans zs ≡ [])
  end-none = bool_cases (is_written types d) (λ e. (
    ap (each_after found_at ys) (ended true e).1,
    defined head (first-written e),
  )) (λ e. unnamed e _ refl)
    where
      defined : (s : SchemaPart) → first_schema zs ≡ Some s → schema_orphans zs ≡ []
      defined s e = ap (λ o. option_map_or (λ _. []) o (schema_extensions zs)) e

      at : is_written types d ≡ false → (s : SchemaPart) → ends ≡ SchemaDefined s ∷ []
          → IsDistinct same_root (s.parts.roots ++ roots_in exts)
          → (each_after found_at ys ends ≡ []) × (schema_orphans zs ≡ [])
      at e s is d = (
        ap (each_after found_at ys) is ∙ append-nil _
            ∙ ap (λ o. option_map_or (λ f. further_schema f s ∷ []) o (schema_begun_faults s
            (schema_extensions ys))) (ended false e).0
            ∙ ap (schema_begun_faults s) exts-ys ∙ begun-none s exts d,
        defined s (first-ended e s is),
      )

      unnamed : is_written types d ≡ false → (named : List Root) → roots_in (schema_extensions ys) ≡ named
          → (each_after found_at ys ends ≡ []) × (schema_orphans zs ≡ [])
      unnamed e (r ∷ rs) g = at e _ ((ended false e).1 ∙ ap (λ l. adopting_schema l (implicit_roots ys)) g)
          (distinct-front same_root _ (written_parts_of d).definition.roots
          (IsDistinct-IsPermutation same_root same_root_laws.symm _ _ (IsPermutation-append_comm
          (written_parts_of d).definition.roots (roots_in exts)) (written-distinct d)))
      unnamed e [] g = at e (schema_of_roots (implicit_roots ys)) ((ended false e).1
          ∙ ap (λ l. adopting_schema l (implicit_roots ys)) g) (subst (IsDistinct same_root)
          (sym ((λ i. implicit-again i ++ (ap roots_in (sym exts-ys) ∙ g) i) ∙ append-nil implied_here))
          (implied-distinct (object_at types)))

  faults-none : faults_in true ys ≡ []
  faults-none = rw (
    faults-completed,
    with-adopted,
    flat_map-none _ orphans-none _,
    end-none.1,
    end-none.0,
    found-none,
  )

  -- the items of the list with the write-out
  listed : added_items (written_again c schema) ≡ ys
  listed = items-listed c schema ∙ ap (λ (n : NodeView SchemaDefinition). written_list c n.value n.location
      types ds (values_of types)) means.definition

  pub faultless : faults_of true (written_again c schema) ≡ []
  faultless = simp (listed, faults-none)

  all-listed : whole true (written_again c schema) ≡ zs
  all-listed = simp (listed, with-adopted)

  directive_list : directive_definitions zs ≡ directive_definitions built_ins ++ ds
  directive_list = simp (chosen-implied, list-directives)

  -- Each schema that it means is equal, with the same write-out.

  module _ (again : ℕ) (rebuilt : Schema) (means_again : MeansSchema again true (written_again c schema)
      rebuilt) where
    are_again : AreOf again (folding_order zs) zs rebuilt
    are_again = subst (λ l. AreOf again (folding_order l) l rebuilt) all-listed means_again

    m : IsMeantSchema d (implicit_roots W)
    m = meant-schema schema list

    same_implied : SameImplied types rebuilt.types
    same_implied op = ap (λ b. cond b (Some (default_type_text op)) None)
        (same-seen schema list c around_types again rebuilt.types are_again.types is_some_object
        (λ t u a. object-kind u ∙ ap (same_kind kinds.Object) a.kind ∙ sym (object-kind t)) _)

    abbrev es : List (ℕ × SchemaPart)
    es = schema_numbers again (folding_order zs)

    apart : IsDistinct ◌==◌ (map (λ e. e.0) es)
    apart = rising-distinct again _ (schema_numbers-rise again (folding_order zs))

    are_written : (s : SchemaPart) → first_schema zs ≡ Some s → map (λ e. e.1) es ≡ exts
    are_written s here = schema_numbers-parts again zs s here ∙ exts-zs

    abbrev Same : NodeView SchemaDefinition → Type 0
    Same u = (bare_schema_definition u.value ≡ bare_schema_definition d)
        × (write_schema_definition u.value u.location rebuilt.types ≡ write_schema_definition d node.location
        types)

    -- what follows from a head that is written
    from-head : (s : SchemaPart) → first_schema zs ≡ Some s → IsWrittenHead d s
        → (is_written types d ≡ true → s.location ≡ node.location) → Same (schema_node again zs)
    from-head s here h at =
        let a = schema-again d m.made s h es apart (are_written s here) in
        subst Same (sym (node-of again zs s here)) (
          equal-again d _ a,
          written-alike d _ a types rebuilt.types same_implied node.location s.location at,
        )

    module _ (e : is_written types d ≡ false) where
      -- where it is left out
      where-left-out : is_implied types d ≡ true → Same (schema_node again zs)
      where-left-out f =
          let l = left-out d types f in
          let no_exts = ap (map schema_extension_of) (ap (map (extension_written d)) l.extensions) in
          let here = first-ended e _ ((ended false e).1
          ∙ (λ i. adopting_schema (roots_in ((exts-ys ∙ no_exts) i)) (implicit-again i))) in
          subst Same (sym (node-of again zs _ here ∙ ap of_extensions (map-empty _ es
          (are_written _ here ∙ no_exts)))) (
            left-out-equal types _ (λ op. refl) d l,
            implied-unwritten rebuilt.types _ same_implied None
                ∙ sym (left-out-written d node.location types f l.extensions),
          )
        where
          of_extensions : List (ℕ × SchemaPart) → NodeView SchemaDefinition
          of_extensions fs = record { value = made_schema (schema_of_roots implied_here) fs; location = None }

      -- where there are extensions alone
      where-extended : is_implied types d ≡ false → Same (schema_node again zs)
      where-extended f = (elim (roots_in (schema_extensions ys)) as (λ named. roots_in (schema_extensions ys)
          ≡ named → Same (schema_node again zs)) [
            | r ∷ rs ↦ λ g. let is = (ended false e).1 ∙ ap (λ l. adopting_schema l (implicit_roots ys)) g in
                from-head _ (first-ended e _ is) (written-head [] refl) unwritten
            | [] ↦ λ g. let is = (ended false e).1 ∙ ap (λ l. adopting_schema l (implicit_roots ys)) g in
                let here = first-ended e _ is in
                let nothing : (op : OperationType) → root_of d op ≡ None = λ op. (grind (
                  arith,
                  (sym ((schema-again d m.made _ (written-head [] refl) es apart
                      (are_written _ here)).roots op) ∙ ap (option_map (λ (n : ComponentName). n.name))
                      (no-roots es (ap roots_in (are_written _ here ∙ sym exts-ys) ∙ g) op)),
                )) in from-head (schema_of_roots (implicit_roots ys)) here (written-head _
                (implicit-again ∙ sym (simp object-listed) ∙ m.roots own nothing)) unwritten
          ]) refl
        where
          own : has_own_root d ≡ false
          own = grind (arith, f, e)

          written-head : (rs : List Root) → rs ≡ [] → IsWrittenHead d (schema_of_roots rs)
          written-head rs empty = record {
            description = sym (m.description own);
            parts = (λ i. record no_parts {
              directives = sym (m.directives own) i;
              roots = (empty ∙ sym (no-own d own)) i;
            }) ∙ (schema-row d Definition).own;
          }

          unwritten : {A : Type 0} → is_written types d ≡ true → A
          unwritten g = absurd (true≢false (sym g ∙ e))

    -- the schema definition is equal and written out alike
    same_definition : Same (schema_node again zs)
    same_definition = bool_cases _ (λ e. from-head head (first-written e)
        (record { description = refl; parts = (schema-row d Definition).own }) (λ _. refl))
        (λ e. bool_cases _ (where-left-out e) (where-extended e))

    same_directives : (keys_of rebuilt.directive_definitions ≡ keys_of schema.directive_definitions)
        × ((n : List ℕ) → lookup (by_text n) rebuilt.directive_definitions
        ≡ lookup (by_text n) schema.directive_definitions)
    same_directives = directives-again schema list zs rebuilt.directive_definitions directive_list
        are_again.directives

    pub equal : AreEqualSchemas rebuilt schema
    equal = λ i. record {
      definition = definition i;
      directive_definitions =
          (λ n. option_map (λ d. bare_directive_definition d.value) (same_directives.1 n i));
      types = equal_types schema list c around_types again rebuilt.types are_again.types i;
    }
      where
        definition : bare_schema_definition rebuilt.schema_definition.value
            ≡ bare_schema_definition schema.schema_definition.value
        definition = ap (λ (n : NodeView SchemaDefinition). bare_schema_definition n.value)
            are_again.definition ∙ same_definition.0 ∙ ap (λ (n : NodeView SchemaDefinition).
            bare_schema_definition n.value) (sym means.definition)

    pub same-written : write_schema rebuilt ≡ write_schema schema
    same-written = λ i. ((ap (λ (n : NodeView SchemaDefinition). write_schema_definition n.value n.location
        rebuilt.types) are_again.definition ∙ same_definition.1 ∙ ap (λ (n : NodeView SchemaDefinition).
        write_schema_definition n.value n.location schema.types) (sym means.definition)) i
        ++ ap (λ es. write_directives (values_of es)) (entries_from_lookups name_laws
        schema.directive_definitions rebuilt.directive_definitions (unique_directives schema list)
        same_directives.0 (λ k. same_directives.1 k.text)) i)
        ++ (same_written schema list c around_types again rebuilt.types are_again.types write_held_type
        (λ t u a. λ i. cond (is_built_in (a.location i)) (drop 1 (a.same i)) (a.same i))) i

  -- There is such a schema.
  module _ (again : ℕ) where
    abbrev types_meant : List ℕ → Option ExtendedType
    types_meant = type_of again (folding_order zs) zs

    meant-each : (n : List ℕ) → lookup (by_text n) (valued types_meant types) ≡ types_meant n
    meant-each n = option_cases (lookup (by_text n) types) (λ e. grind (
      arith,
      e,
      lookup-valued types_meant n types,
      first-about n zs,
      view-nothing schema list c around_types n e,
    )) (λ t e. grind (
      arith,
      e,
      lookup-valued types_meant n types,
      first-again schema list c around_types n t e,
    ))

    pub rebuilds : (rebuilt : Schema) × MeansSchema again true (written_again c schema) rebuilt
    rebuilds =
        let rebuilt : Schema = record schema
        { schema_definition = schema_node again zs; types = valued types_meant types } in
        let are : AreOf again (folding_order zs) zs rebuilt = record {
          definition = refl;
          types = record {
            names = map-map _ _ types ∙ sym (names-again schema list c around_types);
            each = meant-each;
          };
          directives = record {
            names = sym (ap directive_names directive_list ∙ same_keys schema list);
            each = (λ n. sym (ap (λ ds. directive_of ds n) directive_list ∙ same_meaning schema list n));
          };
        } in
        (rebuilt, subst (λ l. AreOf again (folding_order l) l rebuilt) (sym all-listed) are)
