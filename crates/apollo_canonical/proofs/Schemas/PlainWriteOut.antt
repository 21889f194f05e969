-- Schemas that lists mean which are one when plain are written out alike, without locations.
use Rattle.apollo_canonical.proofs as canonical
use canonical.Prelude.{AreOf, IsDistinct, List, ListItem, NameView, OperationType, Schema, TypePart, [], ap}
use canonical.Prelude.{arith, bare_definition, bare_directive_node, bare_name, by_text, default_name}
use canonical.Prelude.{defined-unplaced, defined_part, directive_definitions, directive_of, directive_of-bare}
use canonical.Prelude.{directives-unplaced, entries_from_lookups, filter, filter-map, filter_map}
use canonical.Prelude.{first_of_each, first_of_each-distinct, first_of_each-map, flat_map, flat_map-map}
use canonical.Prelude.{folding_order, is_handed_in, is_some_object, lookup, map, map-append, map-flat_map}
use canonical.Prelude.{map-map, mark-kept, name_laws, no_schema, not, option_map, refl, same_text, schema_of}
use canonical.Prelude.{subst, sym, true, type_names-first, type_of, unwrap_or, values_of, write_directives}
use canonical.Prelude.{write_held_schema_definition, write_held_type, write_schema}
use canonical.Prelude.{ℕ, ◌++◌, ◌∙◌, ◌∷◌, ◌≡◌}
use canonical.Schemas.Plain.{plain_list}
use canonical.Schemas.PlainParts.{nowhere}
use canonical.Schemas.PlainSchema.{definition-plain, plain_node, schema_of-plain}
use canonical.Schemas.PlainTypes.{seen, seen_plain, type_of-plain}
use Rattle.apollo_meaning.proofs.Prelude.{Directives, keys_of}
use Rattle.graphql_ast.specs.declared.definition.Definition.TheVariants as ast

-- ---- tables of which a function sees the same under each name

module _ {V W : Type 0} (f : V → W) where
  abbrev through : List (NameView × V) → List (NameView × W)
  through = map (λ e. (bare_name e.0, f e.1))

  -- a table whose keys are the first of each of these names
  keys-through : (es : List (NameView × V)) (names : List NameView)
      → keys_of es ≡ first_of_each same_text names
      → keys_of (through es) ≡ first_of_each same_text (map bare_name names)
  keys-through es names e =
      let bare : keys_of _ ≡ map bare_name (keys_of es) = simp map-map in
      bare ∙ ap (map bare_name) e ∙ first_of_each-map same_text bare_name names

  lookup-through : (k : NameView) (es : List (NameView × V))
      → lookup (same_text k) (through es) ≡ option_map f (lookup (by_text k.text) es)
  lookup-through k [] = refl
  lookup-through k (e ∷ es) = grind (arith, lookup-through k es)

  values-alike : (es fs : List (NameView × V)) (us vs : List NameView)
      → keys_of es ≡ first_of_each same_text us → keys_of fs ≡ first_of_each same_text vs
      → map bare_name us ≡ map bare_name vs
      → ((n : List ℕ) → option_map f (lookup (by_text n) es) ≡ option_map f (lookup (by_text n) fs))
      → map f (values_of es) ≡ map f (values_of fs)
  values-alike es fs us vs keys others names each = values es ∙ ap (λ gs. values_of gs) same ∙ sym (values fs)
    where
      values : (gs : List (NameView × V)) → map f (values_of gs) ≡ values_of (through gs)
      values gs = simp map-map

      same : through es ≡ through fs
      same = entries_from_lookups name_laws _ _ (subst (IsDistinct same_text)
          (sym (keys-through fs vs others)) (first_of_each-distinct same_text _)) (keys-through es us keys
          ∙ ap (first_of_each same_text) names ∙ sym (keys-through fs vs others)) (λ k. lookup-through k es
          ∙ each k.text ∙ sym (lookup-through k fs))

-- ---- what is written out

directives-written : (ds : Directives)
    → map nowhere (write_directives (map bare_directive_node ds)) ≡ map bare_definition (write_directives ds)
directives-written ds = ap (λ l. map nowhere (map ast.DirectiveDefinition l))
    (filter-map is_handed_in bare_directive_node ds
    ∙ (λ i. map bare_directive_node (filter (λ d. not (mark-kept d.location i)) ds))) ∙ simp map-map

-- a write-out by its parts
parts-written : (s : Schema)
    → map bare_definition (write_schema s) ≡ (map bare_definition (write_held_schema_definition s)
    ++ map nowhere (write_directives (map bare_directive_node (values_of s.directive_definitions))))
    ++ flat_map (λ w. w.1) (map seen (values_of s.types))
parts-written s = map-append bare_definition _ _
    ∙ (λ i. (map-append bare_definition _ _ ∙ (λ j. map bare_definition (write_held_schema_definition s)
    ++ sym (directives-written (values_of s.directive_definitions)) j)) i ++ (map-flat_map bare_definition
    write_held_type (values_of s.types) ∙ sym (flat_map-map (λ w. w.1) seen (values_of s.types))) i)

-- the names of types, without locations
defined-plain : (xs : List ListItem)
    → map (λ p. p.name) (filter_map defined_part (plain_list xs))
    ≡ map bare_name (map (λ p. p.name) (filter_map defined_part xs))
defined-plain xs = ap (map (λ (p : TypePart). p.name)) (defined-unplaced true xs) ∙ simp map-map

named-plain : (ds : Directives)
    → map (λ d. d.value.name) (map bare_directive_node ds) ≡ map bare_name (map (λ d. d.value.name) ds)
named-plain ds = simp map-map

module _ (start : ℕ) (xs ys : List ListItem) (alike : plain_list xs ≡ plain_list ys) (s t : Schema)
    (are : AreOf start (folding_order xs) xs s) (other : AreOf start (folding_order ys) ys t) where
  type-alike : (n : List ℕ)
      → option_map seen (lookup (by_text n) s.types) ≡ option_map seen (lookup (by_text n) t.types)
  type-alike n = ap (option_map seen) (are.types.each n) ∙ sym (type_of-plain start xs n)
      ∙ (λ i. option_map seen_plain (type_of start (folding_order (alike i)) (alike i) n))
      ∙ type_of-plain start ys n ∙ sym (ap (option_map seen) (other.types.each n))

  types-alike : map seen (values_of s.types) ≡ map seen (values_of t.types)
  types-alike = values-alike seen s.types t.types _ _ (are.types.names ∙ type_names-first xs)
      (other.types.names ∙ type_names-first ys) (sym (defined-plain xs)
      ∙ ap (λ l. map (λ p. p.name) (filter_map defined_part l)) alike ∙ defined-plain ys) type-alike

  directives-alike : map bare_directive_node (values_of s.directive_definitions)
      ≡ map bare_directive_node (values_of t.directive_definitions)
  directives-alike = values-alike bare_directive_node s.directive_definitions t.directive_definitions _ _
      (are.directives.names ∙ first_of_each-map same_text _ _) (other.directives.names
      ∙ first_of_each-map same_text _ _) (sym (named-plain _) ∙ ap (map (λ d. d.value.name)) bare
      ∙ named-plain _) (λ n. ap (option_map bare_directive_node) (are.directives.each n)
      ∙ sym (directive_of-bare n _) ∙ ap (λ l. directive_of l n) bare ∙ directive_of-bare n _
      ∙ sym (ap (option_map bare_directive_node) (other.directives.each n)))
    where
      bare : map bare_directive_node (directive_definitions xs)
          ≡ map bare_directive_node (directive_definitions ys)
      bare = grind (arith, directives-unplaced true xs, alike, directives-unplaced true ys)

  definition-alike : map bare_definition (write_held_schema_definition s)
      ≡ map bare_definition (write_held_schema_definition t)
  definition-alike = grind (
    arith,
    definition-plain s.types s.types (λ op. refl) s.schema_definition,
    same,
    definition-plain s.types t.types objects t.schema_definition,
  )
    where
      same : plain_node s.schema_definition ≡ plain_node t.schema_definition
      same = ap plain_node are.definition ∙ sym (schema_of-plain start xs)
          ∙ (λ i. unwrap_or (schema_of start (folding_order (alike i)) (alike i)) no_schema)
          ∙ schema_of-plain start ys ∙ sym (ap plain_node other.definition)

      objects : (op : OperationType)
          → is_some_object (lookup (same_text (default_name op)) s.types)
          ≡ is_some_object (lookup (same_text (default_name op)) t.types)
      objects op = grind (arith, type-alike (default_name op).text)

  pub written-alike : map bare_definition (write_schema s) ≡ map bare_definition (write_schema t)
  written-alike = simp (parts-written, directives-alike, definition-alike, types-alike)
