-- The list with a write-out, item by item, and what it is completed with.
pub mod Again
pub use Again.*
use Rattle.apollo_schema_laws.proofs as laws
pub use laws.Words.{slice_get, filter_map-made, filter_map-unmade, SourceSpan, schema_definition}
pub use laws.Words.{schema_extension, default_type_text, OperationType, extension_location, is_written}
pub use laws.Words.{write_schema_definition, SchemaDefinition, is_some_object, is_object, type_kind}
pub use laws.Words.{SchemaDefined, SchemaExtended, defined_schema, extended_schema, first_schema}
pub use laws.Words.{schema_extensions, SchemaPart, write_directives, NoSubject, Subject, TheSchema}
pub use laws.Words.{implied_schema, Root, same_kind, roots_in, directive_part, root_of, schema_of_roots}
pub use laws.Words.{append_assoc, flat_map-append, flat_map-map, IsDistinct-IsPermutation, list_any}
pub use laws.Words.{operation_text, each_after, by_origin, root_faults, same_root, schema_faults}
pub use laws.Words.{schema_begun_faults, schema_joining_faults, found_at, root_fault, added_items}
pub use laws.Words.{written_again}
use laws.Words.{IsDistinct, built_in_definitions}
pub use laws.Types.{document_items, document_items-append, items-types}
pub use laws.Definitions.{written_extensions, schema_extension_of, written_parts_of, made_schema, root-made}
pub use laws.Definitions.{operations-named, schema-components, schema_sections}
pub use laws.Words.{each-flat_map, each-of, map-empty, distinct-from_first}
pub use laws.Items.{directives-about, first_schema-about, is_about, schema_extensions-about, no-extensions}
pub use laws.Items.{by_implied, items, distinct-front, new-after, none-added, none-made, items-split}
pub use laws.Sections.{joined-values, written-keeps}
pub use Rattle.graphql_ast.specs.Parts.{Roots}
use Rattle.graphql_ast.specs.Parts.{of_schema}
pub use Rattle.apollo_meaning.proofs.Faults.DroppedLemmas.{same_root_laws}
use Rattle.graphql_nodes.specs.declared.type_kind.TypeKind.TheVariants as kinds
use Rattle.graphql_ast.specs.declared.definition.Definition.TheVariants as ast
use Rattle.apollo_meaning.specs.declared.build_error.BuildError.TheVariants as errors

no-schema-built_in : about TheSchema built_ins ≡ []
unfolding built_in_definitions
no-schema-built_in = refl

-- an item that is about the schema, and one that is about neither it nor types
abbrev IsOfSchema : ListItem → Type 0
IsOfSchema x = (is_about TheSchema x ≡ true) × (is_about NoSubject x ≡ false) × IsQuiet x

abbrev IsElse : ListItem → Type 0
IsElse x = (is_about TheSchema x ≡ false) × (is_about NoSubject x ≡ true) × IsQuiet x

-- types are about neither the schema nor directives
module _ (c : Bool) where
  abbrev IsOfType : ListItem → Type 0
  IsOfType x = (is_about TheSchema x ≡ false) × (is_about NoSubject x ≡ false)

  each-type : (ts : List ExtendedType) → AllByRecursion IsOfType (flat_map (held_items c) ts)
  each-type ts = each-flat_map IsOfType _ ts (each-of _ (λ t.
      let extensions = each-made IsOfType _ (λ e. (refl, refl)) (written t).extensions in
      elim (is_built_in (type_location t)) as (λ b. AllByRecursion IsOfType (cond b (extension_items c t)
      (Defined (definition_as t c) ∷ extension_items c t)))
      [ true ↦ extensions | false ↦ ((refl, refl), extensions) ]) ts)

-- the definition's part
abbrev pub written_head : SchemaDefinition → Option SourceSpan → SchemaPart
written_head d location = record {
  location = location;
  description = d.description;
  parts = of_schema (written_parts_of d).definition;
}

module _ (c : Bool) (d : SchemaDefinition) (location : Option SourceSpan)
    (types : List (NameView × ExtendedType)) where
  abbrev pub schema_items : List ListItem
  schema_items = document_items c (write_schema_definition d location types)

  abbrev pub head_items : List ListItem
  head_items = cond (is_written types d) (SchemaDefined (written_head d location) ∷ []) []

  abbrev pub schema_extension_items : List (ExtensionId × Parts) → List ListItem
  schema_extension_items es = map (λ e. SchemaExtended (schema_extension_of e)) es

  pub schema-listed : schema_items ≡ head_items ++ schema_extension_items (written_parts_of d).extensions
  schema-listed = document_items-append c _ _
      ∙ (λ i. head (is_written types d) i ++ later (written_parts_of d).extensions i)
    where
      head : (b : Bool)
          → document_items c (cond b (schema_definition d.description (written_parts_of d).definition location
          ∷ []) []) ≡ cond b (SchemaDefined (written_head d location) ∷ []) []
      head b = grind arith

      later : (es : List (ExtensionId × Parts))
          → document_items c (map (λ e. schema_extension e.1 (extension_location e.0)) es)
          ≡ schema_extension_items es
      later es = simp map-map

  -- they are all about the schema
  each-schema : AllByRecursion IsOfSchema schema_items
  each-schema =
      let exts = each-made IsOfSchema _ (λ e. (refl, refl, (refl, refl))) (written_parts_of d).extensions in
      subst (AllByRecursion IsOfSchema) (sym schema-listed)
      (elim (is_written types d) as (λ b. AllByRecursion IsOfSchema
      (cond b (SchemaDefined (written_head d location) ∷ []) [] ++ schema_extension_items
      (written_parts_of d).extensions)) [ true ↦ ((refl, refl, (refl, refl)), exts) | false ↦ exts ])

  pub schema-quiet : AllByRecursion IsQuiet schema_items
  schema-quiet = each-weaken IsOfSchema IsQuiet (λ x h. h.2) schema_items each-schema

-- directive definitions that are handed in
abbrev pub directive_items : Directives → List ListItem
directive_items ds = map (λ d. Other (ast.DirectiveDefinition d)) ds

pub directives-listed : (c : Bool) (ds : Directives)
    → document_items c (write_directives ds) ≡ directive_items (filter is_handed_in ds)
directives-listed c ds = simp map-map

each-directive : (ds : Directives) → AllByRecursion IsElse (directive_items ds)
each-directive = each-made IsElse _ (λ d. (refl, refl, (refl, refl)))

pub directives-quiet : (ds : Directives) → AllByRecursion IsQuiet (directive_items ds)
directives-quiet ds = each-weaken IsElse IsQuiet (λ x h. h.2) _ (each-directive ds)

pub directives-of_items : (ds : Directives) → directive_definitions (directive_items ds) ≡ ds
directives-of_items ds = filter_map-made directive_part _ (λ d. refl) ds

-- the whole written list
module _ (c : Bool) (d : SchemaDefinition) (location : Option SourceSpan)
    (types : List (NameView × ExtendedType)) (ds : Directives) (ts : List ExtendedType) where
  abbrev pub written_list : List ListItem
  written_list = built_ins ++ ((schema_items c d location types ++ directive_items ds)
      ++ flat_map (held_items c) ts)

  -- what is about the schema, and what about directives, of the three parts after the built-in definitions
  about-parts : (topic : Subject) (ss os : List ListItem) → about topic (schema_items c d location types) ≡ ss
      → about topic (directive_items ds) ≡ os → about topic (flat_map (held_items c) ts) ≡ []
      → about topic written_list ≡ about topic built_ins ++ (ss ++ os)
  about-parts topic ss os s o t = simp (filter-append (is_about topic), s, o, t, append-nil)

  pub list-about_schema : about TheSchema written_list ≡ schema_items c d location types
  list-about_schema = about-parts TheSchema _ [] (filter-all _ _ (each-weaken IsOfSchema _ (λ x h. h.0) _
      (each-schema c d location types))) (filter-fails IsElse _ (λ x h. h.0) _ (each-directive ds))
      (filter-fails _ _ (λ x h. h.0) _ (each-type c ts))
      ∙ (λ i. no-schema-built_in i ++ append-nil (schema_items c d location types) i)

  pub list-about_others : about NoSubject written_list ≡ about NoSubject built_ins ++ directive_items ds
  list-about_others = about-parts NoSubject [] (directive_items ds) (filter-fails IsOfSchema _ (λ x h. h.1) _
      (each-schema c d location types)) (filter-all _ _ (each-weaken IsElse _ (λ x h. h.1) _
      (each-directive ds))) (filter-fails _ _ (λ x h. h.1) _ (each-type c ts))

  exts-all : (es : List (ExtensionId × Parts))
      → filter_map extended_schema (schema_extension_items c d location types es) ≡ map schema_extension_of es
  exts-all es = sym (ap (filter_map extended_schema) (map-map SchemaExtended _ es))
      ∙ filter_map-made _ _ (λ s. refl) _

  pub list-first_schema : first_schema written_list
      ≡ cond (is_written types d) (Some (written_head d location)) None
  list-first_schema = first_schema-about written_list ∙ ap first_schema (list-about_schema
      ∙ schema-listed c d location types)
      ∙ (elim (is_written types d) as (λ b. first_schema (cond b (SchemaDefined (written_head d location)
      ∷ []) [] ++ schema_extension_items c d location types (written_parts_of d).extensions)
      ≡ cond b (Some (written_head d location)) None) [
        | true ↦ refl
        | false ↦ ap (λ l. slice_get l 0) (filter_map-unmade defined_schema _ (λ e. refl)
            (written_parts_of d).extensions)
      ])

  pub list-schema_extensions : schema_extensions written_list ≡ written_extensions d
  list-schema_extensions = schema_extensions-about written_list ∙ ap schema_extensions (list-about_schema
      ∙ schema-listed c d location types)
      ∙ (elim (is_written types d) as (λ b. schema_extensions (cond b (SchemaDefined (written_head d location)
      ∷ []) [] ++ schema_extension_items c d location types (written_parts_of d).extensions)
      ≡ written_extensions d)
      [ true ↦ exts-all (written_parts_of d).extensions | false ↦ exts-all (written_parts_of d).extensions ])

  pub list-directives : directive_definitions written_list ≡ directive_definitions built_ins ++ ds
  list-directives = directives-about written_list
      ∙ simp (list-about_others, filter_map-append, ← directives-about, directives-of_items)

  -- types alone have extensions of types
  pub list-extended : filter_map extended_part written_list
      ≡ filter_map extended_part (flat_map (held_items c) ts)
  list-extended = simp (
    filter_map-append,
    no-extensions,
    extends-quiet _ (schema-quiet c d location types),
    extends-quiet _ (directives-quiet ds),
  )

-- The list with a write-out, and what it is completed with.

-- an object type is one by its kind
pub object-kind : (t : ExtendedType) → is_object t ≡ same_kind kinds.Object (type_kind t)
object-kind t = grind arith

-- whether an object type has the name
abbrev pub object_at : List (NameView × ExtendedType) → OperationType → Bool
object_at types op = is_some_object (lookup (by_text (default_type_text op)) types)

-- a schema definition that is implied is quiet and defines no directive
pub quiet-implied : (ys : List ListItem) → AllByRecursion IsQuiet (implied_schema true ys)
quiet-implied = by_implied (AllByRecursion IsQuiet) tt (λ s. ((refl, refl), tt)) true

-- extensions that name no root leave none
pub no-roots : (es : List (ℕ × SchemaPart)) → roots_in (map (λ e. e.1) es) ≡ [] → (op : OperationType)
    → root_of (made_schema (schema_of_roots []) es) op ≡ None
no-roots es h op = rw (root-made, map-empty _ _ (operations-named es ∙ ap (map (λ (r : Root). r.value.0)) h))

-- roots that differ from those before them and from one another
pub roots-none : (before rs : List Root) → IsDistinct same_root (before ++ rs) → root_faults before rs ≡ []
roots-none = none-added root_fault (IsDistinct same_root) (λ done r rest d. ap (λ o. option_map_or
    (λ (kept : Root). (
      r.location,
      errors.DuplicateRootOperation kept.value.1.location (operation_text r.value.0),
    ) ∷ []) o []) (find-none _ done (new-after same_root same_root_laws done r rest d)))

-- a part after others
schema-none : (ps : List SchemaPart) (p : SchemaPart) (rest : List SchemaPart)
    → IsDistinct same_root (roots_in (ps ++ p ∷ rest)) → schema_faults ps p ≡ []
schema-none ps p rest d =
    roots-none _ p.parts.roots (distinct-front same_root _ _ (subst (IsDistinct same_root)
    (flat_map-append _ ps _ ∙ sym (append_assoc _ p.parts.roots _)) d))

-- extensions that join a definition
pub joining-none : (parts es : List SchemaPart) → IsDistinct same_root (roots_in (parts ++ es))
    → schema_joining_faults parts es ≡ []
joining-none = none-added schema_faults (λ l. IsDistinct same_root (roots_in l)) schema-none

pub begun-none : (s : SchemaPart) (es : List SchemaPart) → IsDistinct same_root (roots_in (s ∷ es))
    → schema_begun_faults s es ≡ []
begun-none s es d = λ i. schema-none [] s es d i ++ joining-none (s ∷ []) es d i

-- extensions after a definition, item by item
pub schema-faultless : (s : SchemaPart) (es : List SchemaPart) → IsDistinct same_root (roots_in (s ∷ es))
    → each_after found_at [] (SchemaDefined s ∷ map SchemaExtended es) ≡ []
schema-faultless s es d = λ i. (append-nil _ ∙ schema-none [] s es d) i ++ none-made found_at (SchemaDefined s
    ∷ []) SchemaExtended (λ l. IsDistinct same_root (roots_in (s ∷ l))) after [] es d i
  where
    after : (done : List SchemaPart) (e : SchemaPart) (rest : List SchemaPart)
        → IsDistinct same_root (roots_in (s ∷ done ++ e ∷ rest))
        → found_at (SchemaDefined s ∷ map SchemaExtended done) (SchemaExtended e) ≡ []
    after done e rest d = ap (λ l. schema_faults (s ∷ l) e) (filter_map-made extended_schema SchemaExtended
        (λ e. refl) done) ∙ schema-none (s ∷ done) e rest d

-- extensions before any definition
pub early-none : (before es : List SchemaPart)
    → each_after found_at (map SchemaExtended before) (map SchemaExtended es) ≡ []
early-none before es = none-made found_at [] SchemaExtended (λ _. Unit {0})
    (λ done e rest _. ap (λ o. option_map_or
    (λ s. schema_faults (s ∷ schema_extensions (map SchemaExtended done)) e) o [])
    (ap (λ done. slice_get done 0) (filter_map-unmade defined_schema SchemaExtended (λ s. refl) done))) before
    es tt

-- so do those of what is written of it
pub written-distinct : (d : SchemaDefinition)
    → IsDistinct same_root ((written_parts_of d).definition.roots ++ roots_in (written_extensions d))
written-distinct d = subst (IsDistinct same_root) (simp (joined-values, flat_map-map))
    (IsDistinct-IsPermutation same_root same_root_laws.symm _ _ (written-keeps (schema_sections d) _
    (ap (λ cs. (by_origin cs).definition) (schema-components d))
    (ap (λ cs. map (λ e. e.1) (by_origin cs).extensions) (schema-components d)) Roots)
    (distinct-from_first same_root _ (grind arith)))

-- A list with a write-out is without fault.

-- handed-in directive definitions whose names differ
pub others-built_in : each_after found_at [] (about NoSubject built_ins) ≡ []
unfolding built_in_definitions
others-built_in = refl

none-named : (k : NameView) (ds : Directives) → list_any (same_text k) (map (λ d. d.value.name) ds) ≡ false
    → find (λ d. has_text k.text d && is_handed_in d) ds ≡ None
none-named k [] h = refl
none-named k (d ∷ ds) h = grind (arith, h, none-named k ds)

pub directives-none : (before : List ListItem) → directive_definitions before ≡ built_in_directives
    → (ds : Directives) → IsDistinct same_text (map (λ d. d.value.name) ds)
    → each_after found_at (before ++ []) (directive_items ds) ≡ []
directives-none before is = none-made found_at before _ _ none []
  where
    none : (done : Directives) (e : NodeView DirectiveDefinition) (rest : Directives)
        → IsDistinct same_text (map (λ d. d.value.name) (done ++ e ∷ rest))
        → found_at (before ++ directive_items done) (Other (ast.DirectiveDefinition e)) ≡ []
    none done e rest d = simp (
      filter_map-append,
      is,
      directives-of_items,
      find-append,
      find-unmarked e.value.name.text built_in_directives built_in-marked,
      none-named e.value.name done (new-after same_text name_laws _ e.value.name _
          (subst (IsDistinct same_text) (map-append _ done _) d)),
    )

-- the names of a table's values differ, and so do those of the handed-in ones
pub names-distinct : (es : List (NameView × NodeView DirectiveDefinition)) → HasUniqueKeys same_text es
    → AllByRecursion (λ e. has_text e.0.text e.1 ≡ true) es
    → IsDistinct same_text (map (λ d. d.value.name) (values_of es))
unfolding IsDistinct
names-distinct [] d t = tt
names-distinct (e ∷ es) d t = (apart es d.0 t.1, names-distinct es d.1 t.1)
  where
    apart : (fs : List (NameView × NodeView DirectiveDefinition))
        → AllByRecursion (λ k. same_text e.0 k ≡ false) (keys_of fs)
        → AllByRecursion (λ f. has_text f.0.text f.1 ≡ true) fs
        → AllByRecursion (λ k. same_text e.1.value.name k ≡ false) (map (λ d. d.value.name) (values_of fs))
    apart [] a u = tt
    apart (f ∷ fs) a u = (
      rw (← same-true e.0.text e.1.value.name.text t.0, ← same-true f.0.text f.1.value.name.text u.0) a.0,
      apart fs a.1 u.1,
    )

-- the items of a list with a schema's write-out
pub items-listed : (c : Bool) (schema : Schema)
    → added_items (written_again c schema) ≡ written_list c schema.schema_definition.value
    schema.schema_definition.location schema.types
    (filter is_handed_in (values_of schema.directive_definitions)) (values_of schema.types)
items-listed c schema = items-split true _
    ∙ simp (document_items-append c, directives-listed c, items-types c)

-- a table with other values, by their keys
module _ {V : Type 0} (g : List ℕ → Option V) where
  abbrev pub valued : List (NameView × V) → List (NameView × V)
  valued = map (λ e. (e.0, unwrap_or (g e.0.text) e.1))

  pub lookup-valued : (n : List ℕ) (es : List (NameView × V))
      → lookup (by_text n) (valued es) ≡ option_map (unwrap_or (g n)) (lookup (by_text n) es)
  lookup-valued n [] = refl
  lookup-valued n (e ∷ es) = grind (arith, same-true n e.0.text, lookup-valued n es)
