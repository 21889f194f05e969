-- A schema's write-out means the schema again, and folds no more extensions than the list that the schema is
-- of. Write-outs that are equal are equal lists behind the built-in definitions.
pub mod Rebuilt
pub use Rebuilt.*
use Rattle.apollo_schema_laws.proofs as laws
use laws.Words.{IsDistinct, built_in_definitions, ◌≤◌, length, length-map, ◌+◌, length-append}
use laws.Words.{recursion_from_All, All, range_with_len, enumerate_from, filter_map-numbered, SourcedPart}
use laws.Words.{identities, of_extensions, of_origin, origins_in, ComponentOrigin, list_any-first_of_each}
use laws.Words.{extension_id, same_id, Extension, adopted, Added, OfSchema, OfType, Folding, Family, Placed}
use laws.Words.{extension_places, folded_when, is_folded, met_when, once_if_defined, schemas, times_met}
use laws.Words.{types, folds, of_type, not-true, type_extension, write_type, added}
use laws.Words.{write_held_schema_definition}
use laws.Words.{grouped-few, same-once, each-map}
use laws.Sections.{each-among, is_among, ids_in, same_id-equiv}
use laws.Types.{each-of_schema, each-of_type}
use laws.Items.{chosen-completed}
use Rattle.std.proofs.lemmas.Map.Made.{length-le_from_is_member}
use Rattle.std.proofs.lemmas.Map.Steps.{list_any_congr}
use Rattle.std.proofs.lemmas.List.Sums.{count_by-le-length, length-filter}
use Rattle.apollo_meaning.proofs.Order.OnceLemmas.{each-met-once}
use Rattle.graphql_ast.specs.declared.definition.Definition.{Definition}
use Rattle.graphql_ast.specs.BareDocuments.{bare_definition}
use Rattle.apollo_schema_laws.specs.Equal.{AreEqualLists, compared, is_built_in_directive}
use Rattle.graphql_ast.specs.declared.definition.Definition.TheVariants as ast
use Rattle.apollo_component.specs.declared.extension.ComponentOrigin.TheVariants as origins

-- components whose origins are among these identities have no others
among-there : (ids : List ExtensionId) (e : ExtensionId) (cs : List SourcedPart)
    → AllByRecursion (λ c. is_among ids c.0 ≡ true) cs → list_any (same_id e) (ids_in cs) ≡ true
    → list_any (same_id e) ids ≡ true
among-there ids e [] a h = absurd (true≢false (sym h))
among-there ids e (c ∷ cs) a h = grind (arith, a.0, h, list_any_congr, among-there ids e cs a.1)

-- so they are written with no more extensions than there are of these
written-among : (ids : List ExtensionId) (cs : List SourcedPart)
    → AllByRecursion (λ c. is_among ids c.0 ≡ true) cs → length (of_extensions cs) ≤ length ids
written-among ids cs a = omega (
  arith,
  length-map {B = ExtensionId × Parts} (identities (origins_in cs)) (λ e. (e, of_origin (Extension e) cs)),
  length-le_from_is_member same_id-equiv _ ids (first_of_each-distinct same_id _)
      (λ e h. among-there ids e cs a (sym (list_any-first_of_each same_id same_id-equiv e _) ∙ h)),
)

module _ {P : Type 0} (location : P → Option SourceSpan) where
  -- extensions with numbers, and their origins
  abbrev extensions_from : List (ℕ × P) → List (ComponentOrigin × P)
  extensions_from es = map (λ e. (Extension (extension_id e.0 (location e.1)), e.1)) es

  ids-counted : (es : List (ℕ × P)) → length (ids_in (extensions_from es)) ≡ length es
  ids-counted [] = refl
  ids-counted (e ∷ es) = omega (arith, ids-counted es)

  -- components of a definition and of these
  made-few : (head : P) (es : List (ℕ × P)) (cs : List SourcedPart)
      → AllByRecursion (λ c. is_among (ids_in ((origins.Definition, head) ∷ extensions_from es)) c.0
      ≡ true) cs → length (of_extensions cs) ≤ length es
  made-few head es cs a = omega (arith, ids-counted es, written-among _ cs a)

pub type-few : (head : TypePart) (es : List (ℕ × TypePart))
    → length (written (made head es)).extensions ≤ length es
type-few head es = made-few _ head es _
    (each-of_type _ _ (each-among ((origins.Definition, head) ∷ extensions_from _ es)) head.kind head)

pub schema-few : (head : SchemaPart) (es : List (ℕ × SchemaPart))
    → length (written_parts_of (made_schema head es)).extensions ≤ length es
schema-few head es =
    let ps = (origins.Definition, head) ∷ extensions_from (λ (s : SchemaPart). s.location) es in
    made-few _ head es _ (each-of_schema (λ o. is_among (ids_in ps) o ≡ true) ps (each-among ps) head)

-- A list folds no more extensions than it has, and a schema's write-out no more than the list that the schema
-- is of.

-- how many extensions a list has, of types and of the schema
abbrev pub extensions_in : List ListItem → ℕ
extensions_in xs = length (filter_map extended_part xs) + length (schema_extensions xs)

module _ (xs : List ListItem) where
  -- no more are met, at all moments of the list, than there are
  met-few : {P : Type 0} (f : Family P)
      → All (λ e. times_met f xs e ≡ once_if_defined f xs e) (extension_places f xs)
      → length (flat_map (met_when f xs) (range_with_len 0 (length xs))) ≤ length (filter_map f.extended xs)
  met-few {P} f met = omega (
    arith,
    grouped-few _ (range_with_len 0 (length xs)) _ (each-weaken _ _ (λ e. at_most _ _) _
        (recursion_from_All (λ e. times_met f xs e ≡ once_if_defined f xs e) _ met)),
    length-map (extension_places f xs) (λ e. e.1),
    ap length (filter_map-numbered f.extended 0 xs),
  )
    where
      at_most : (o : Option (Placed P)) (n : ℕ) → n ≡ option_map_or (λ _. 1) o 0 → n ≤ 1
      at_most o n h = grind (arith, h)

  -- and no more are folded than are met
  folded-met : (is : List ℕ)
      → length (flat_map (folded_when xs) is) ≤ length (flat_map (met_when types xs) is)
      + length (flat_map (met_when schemas xs) is)
  folded-met [] = omega arith
  folded-met (i ∷ is) = simp (length-append, length-map) (omega (
    arith,
    folded-met is,
    length-filter (is_folded xs) (met_when types xs i),
    count_by-le-length (is_folded xs) (met_when types xs i),
  ))

  folded-few : length (folding_order xs) ≤ extensions_in xs
  folded-few = omega (
    arith,
    folded-met (range_with_len 0 (length xs)),
    met-few types (each-met-once types xs),
    met-few schemas (each-met-once schemas xs),
  )

-- so where extensions are adopted no more are folded than there are
pub folds-few : (xs : List Added) → folds true xs ≤ extensions_in (added_items xs)
folds-few xs = omega (
  arith,
  folded-few (whole true xs),
  ap length (chosen-completed extended_part (λ s. refl) (λ d. refl) true (added_items xs)),
  ap length (chosen-completed extended_schema (λ s. refl) (λ d. refl) true (added_items xs)),
)

-- those that are folded of types and of the schema are all that are folded
of-either : (start : ℕ) (fs : List Folding)
    → length (filter_map of_type (enumerate_from start fs)) + length (schema_numbers start fs) ≡ length fs
of-either start [] = refl
of-either start (OfType p ∷ fs) = omega (arith, of-either (start + 1) fs)
of-either start (OfSchema s ∷ fs) = omega (arith, of-either (start + 1) fs)

-- so those of names that differ, and of the schema, are no more
by-name-few : (start : ℕ) (fs : List Folding) (ks : List NameView) → IsDistinct same_text ks
    → length (flat_map (λ k. numbers_of k.text start fs) ks) + length (schema_numbers start fs) ≤ length fs
by-name-few start fs ks d =
    let folded = filter_map of_type (enumerate_from start fs) in
    omega (
      arith,
      of-either start fs,
      grouped-few _ ks folded (each-of _ (λ e. same-once same_text name_laws ks d e.1.name) folded),
    )

module _ (c : Bool) where
  -- a type has as many extensions in a list as it is written with
  held-counted : (t : ExtendedType)
      → length (filter_map extended_part (held_items c t)) ≡ length (written t).extensions
  held-counted t = grind (
    arith,
    map-map Extended (extension_of t) (written t).extensions,
    filter_map-made extended_part Extended (λ s. refl) (map (extension_of t) (written t).extensions),
    length-map (written t).extensions (extension_of t),
  )

  -- types with no more extensions than were folded for their names
  types-few : (start : ℕ) (fs : List Folding) (es : List (NameView × ExtendedType))
      → AllByRecursion (λ e. length (written e.1).extensions ≤ length (numbers_of e.0.text start fs)) es
      → length (filter_map extended_part (flat_map (held_items c) (values_of es)))
      ≤ length (flat_map (λ k. numbers_of k.text start fs) (keys_of es))
  types-few start fs [] a = omega arith
  types-few start fs (e ∷ es) a = simp (filter_map-append, length-append, held-counted)
      (omega (arith, types-few start fs es a.1, a.0))

  -- a write-out has the extensions of the types and of the schema definition
  written-counted : (schema : Schema)
      → extensions_in (added_items (written_again c schema))
      ≡ length (filter_map extended_part (flat_map (held_items c) (values_of schema.types)))
      + length (written_parts_of schema.schema_definition.value).extensions
  written-counted schema = rw (items-listed, list-extended, list-schema_extensions, length-map)

module _ (start : ℕ) (adopts c : Bool) (xs : List Added) (schema : Schema) (means : MeansSchema start adopts
    xs schema) where
  abbrev items : List ListItem
  items = whole adopts xs

  abbrev folded : List Folding
  folded = folding_order items

  definition-few : length (written_parts_of schema.schema_definition.value).extensions
      ≤ length (schema_numbers start folded)
  definition-few = subst (λ (n : NodeView SchemaDefinition). length (written_parts_of n.value).extensions
      ≤ length (schema_numbers start folded)) (sym means.definition) (option_cases (first_schema items)
      (λ e. grind (arith, e)) (λ s e. grind (arith, e, schema-few s (schema_numbers start folded))))

  each-few : AllByRecursion (λ e. length (written e.1).extensions ≤ length (numbers_of e.0.text start folded))
      schema.types
  each-few = each-weaken _ _ (λ e found. option_cases (first items e.0.text)
      (λ f. absurd (grind (arith, f, means.types.each e.0.text, found))) (λ d f.
      let is : made d (numbers_of e.0.text start folded) ≡ e.1 =
      grind (arith, f, means.types.each e.0.text, found) in
      subst (λ u. length (written u).extensions ≤ length (numbers_of e.0.text start folded)) is (type-few d
      _))) schema.types (each-entry schema.types (unique start items schema.types means.types))

  pub folds-no_more : folds true (written_again c schema) ≤ folds adopts xs
  folds-no_more = omega (
    arith,
    folds-few (written_again c schema),
    written-counted c schema,
    definition-few,
    types-few c start folded schema.types each-few,
    by-name-few start folded _ (unique start items schema.types means.types),
  )

-- it is no directive definition that is marked built-in
abbrev IsUnmarked : Definition → Type 0
IsUnmarked d = is_built_in_directive d ≡ false

unmarked-type : (t : ExtendedType) → AllByRecursion IsUnmarked (write_held_type t)
unmarked-type t =
    let make : ExtensionId × Parts → Definition = λ e. type_extension (type_kind t) (type_name t) e.1
    (extension_location e.0) in
    let extensions = each-made IsUnmarked make (λ e. grind arith) (written t).extensions in
    elim (is_built_in (type_location t)) as (λ b. AllByRecursion IsUnmarked
    (cond b (map make (written t).extensions) (write_type t)))
    [ true ↦ extensions | false ↦ ((grind arith), extensions) ]

-- the schema definition's part is of the schema
unmarked-schema : (s : Schema) → AllByRecursion IsUnmarked (write_held_schema_definition s)
unmarked-schema s =
    let d = s.schema_definition.value in
    let make : ExtensionId × Parts → Definition = λ e. schema_extension e.1 (extension_location e.0) in
    let extensions = each-made IsUnmarked make (λ e. refl) (written_parts_of d).extensions in
    elim (is_written s.types d) as (λ b. AllByRecursion IsUnmarked
    (cond b (schema_definition d.description (written_parts_of d).definition s.schema_definition.location
    ∷ []) [] ++ map make (written_parts_of d).extensions))
    [ true ↦ (refl, extensions) | false ↦ extensions ]

-- so no directive definition that is marked built-in is written
unmarked : (s : Schema) → AllByRecursion IsUnmarked (write_schema s)
unmarked s = each-append IsUnmarked _ _ (each-append IsUnmarked _ _ (unmarked-schema s)
    (each-map IsUnmarked ast.DirectiveDefinition _ (each-weaken _ _ (λ d h. not-true _ h) _
    (passes is_handed_in (values_of s.directive_definitions))))) (each-flat_map IsUnmarked write_held_type _
    (each-of _ unmarked-type (values_of s.types)))

-- and what is compared of a write-out is its definitions without locations
compared-written : (c : Bool) (ds : List Definition) → AllByRecursion IsUnmarked ds
    → map compared (added c ds) ≡ map (λ d. (false, d)) (map bare_definition ds)
compared-written c [] a = refl
compared-written c (d ∷ ds) a = simp (a.0, compared-written c ds a.1)

-- equal write-outs are equal lists behind the built-in definitions
pub equal-lists : (c : Bool) (s t : Schema)
    → map bare_definition (write_schema s) ≡ map bare_definition (write_schema t)
    → AreEqualLists (written_again c s) (written_again c t)
equal-lists c s t alike = map-append compared (added false built_in_definitions) _
    ∙ ap (λ l. map compared (added false built_in_definitions) ++ l) (compared-written c _ (unmarked s)
    ∙ ap (map (λ d. (false, d))) alike ∙ sym (compared-written c _ (unmarked t)))
    ∙ sym (map-append compared (added false built_in_definitions) _)
