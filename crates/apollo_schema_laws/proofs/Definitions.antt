-- What is written of a schema definition: of two that say the same, of one of roots alone, and of one that is
-- left out.
pub mod OneSchema
pub use OneSchema.*
use Rattle.apollo_schema_laws.proofs as laws
use laws.Words.{IsDistinct, false, not, ◌||◌, ◌&&◌, is_none, find, length, length-map, option_eq, nat_eq}
use laws.Words.{true≢false, and_parts, nat_tests, list_all, flat_map-map, map-flat_map, nil_from_length}
use laws.Words.{NameView, SourceSpan, schema_definition, schema_extension, default_type_text, same-true}
use laws.Words.{same-refl, identities, origins_in, has_implied_root, has_own_root, implied_name, is_written}
use laws.Words.{write_schema_definition, ExtendedType, is_implied, default_root, schema_of_roots, roots_in}
use laws.Words.{same_root, filter_map-append, option_map_or, option_or, ◌≢◌, option_cases, adopted}
use laws.Words.{with_adopted, implicit_roots, implied_schema, schema_for, ListItem, SchemaDefined}
use laws.Words.{added_items, defined_schema, first_schema, schema_extensions, folding_order, no_schema}
use laws.Words.{schema_of, whole, Schema, IsMeantByList, with_built_ins, extended_schema, all-kept}
use laws.Sections.{has_none}
use laws.Words.{distinct-from_first, both-empty, map-empty, found-holds}
use laws.Types.{rising-distinct, schema_numbers, schema_numbers-rise}
use laws.Items.{adopted-unchosen, no-schema_definitions, adopted-split, items, rooted, chosen-implied}
use Rattle.std.specs.Cmp.Lexicographic.{pointwise}
use Rattle.apollo_meaning.proofs.Order.FoldedLemmas.{folded-of_schema}
use Rattle.apollo_component.specs.declared.extension.ComponentOrigin.TheVariants as origins

-- whether a root is of the definition
abbrev is_own : Option ComponentName → Bool
is_own None = false
is_own (Some n) = same_origin origins.Definition n.origin

has_own-three : (d : SchemaDefinition)
    → has_own_root d ≡ (is_own d.query || (is_own d.mutation || (is_own d.subscription || false)))
has_own-three d = grind arith

-- a definition that has no root of its own names none
pub own-root : (head : SchemaPart) (es : List (ℕ × SchemaPart)) → has_own_root (made_schema head es) ≡ false
    → head.parts.roots ≡ []
own-root head es h = (elim head.parts.roots as (λ rs. head.parts.roots ≡ rs → rs ≡ []) [
  | [] ↦ λ e. refl
  | r ∷ rs ↦ λ e. absurd (true≢false (sym (named r rs e) ∙ h))
]) refl
  where
    named : (r : Root) (rs : List Root) → head.parts.roots ≡ r ∷ rs
        → has_own_root (made_schema head es) ≡ true
    named r rs e = has_own-three (made_schema head es) ∙ grind (arith, own)
      where
        own : (op : OperationType) → same_operation op r.value.0 ≡ true
            → is_own (option_map (λ r. r.1) (find (λ r. same_operation op r.0)
            (flat_map roots_of ((origins.Definition, head) ∷ map schema_extension_source es)))) ≡ true
        own op same = simp (e, same)

has_some-append : {A : Type 0} (xs ys : List A) → has_some (xs ++ ys) ≡ (has_some xs || has_some ys)
has_some-append [] ys = refl
has_some-append (x ∷ xs) ys = refl

own-entry : (op : OperationType) (o : Option ComponentName)
    → is_own o ≡ has_some (picked origins.Definition (entries op o))
own-entry op o = grind arith

-- it has one where roots are written of the definition
pub own-said : (d : SchemaDefinition) → has_own_root d ≡ has_some (written_parts_of d).definition.roots
own-said d = has_own-three d ∙ (λ i. own-entry Query d.query i || (own-entry Mutation d.mutation i
    || (own-entry Subscription d.subscription i || false)))
    ∙ sym (ap has_some (ap (λ q. q.roots) (of_schema-origin d origins.Definition)
    ∙ picked-roots origins.Definition d) ∙ simp has_some-append)

pub no-own : (d : SchemaDefinition) → has_own_root d ≡ false → (written_parts_of d).definition.roots ≡ []
no-own d h = has_none (written_parts_of d).definition.roots (sym (own-said d) ∙ h)

-- where a definition has no directive of its own, none is written of it
pub no-directives : (head : SchemaPart) (es : List (ℕ × SchemaPart)) → head.parts.directives ≡ []
    → (written_parts_of (made_schema head es)).definition.directives ≡ []
no-directives head es e =
    let p = parts_from (λ s. s.location) schema_held head es in
    ap (λ q. q.directives) (of_schema-origin (made_schema head es) origins.Definition)
    ∙ ap (picked origins.Definition) (directives-in_parts head es) ∙ of-alone origins.Definition
    (λ q. q.directives) (with_origins p) (origins.Definition, p.definition) (definition-alone p) ∙ e

-- where there is no root of any operation type, no part names one
pub all-none : (l : List (OperationType × ComponentName))
    → ((op : OperationType) → option_map (λ r. r.1) (find (λ r. same_operation op r.0) l) ≡ None) → l ≡ []
all-none [] h = refl
all-none (x ∷ l) h = absurd (grind (arith, h x.0))

-- extensions name roots of the operation types of their parts' roots
pub operations-named : (es : List (ℕ × SchemaPart))
    → map (λ r. r.0) (flat_map roots_of (map schema_extension_source es))
    ≡ map (λ r. r.value.0) (roots_in (map (λ e. e.1) es))
operations-named es = simp (map-flat_map, flat_map-map, map-map)

-- the names that roots have where none is named, in two tables of types
abbrev pub SameImplied : List (NameView × ExtendedType) → List (NameView × ExtendedType) → Type 0
SameImplied types others = (op : OperationType) → implied_name others op ≡ implied_name types op

text-of : (d u : SchemaDefinition) → IsSchemaAgain d u → (op : OperationType)
    → option_map (λ n. n.name.text) (root_of u op) ≡ option_map (λ n. n.name.text) (root_of d op)
text-of d u a op = sym (option_map-twice _ _ _) ∙ ap (option_map (λ n. n.text)) (a.roots op)
    ∙ option_map-twice _ _ _

module _ (d u : SchemaDefinition) (a : IsSchemaAgain d u) (types others : List (NameView × ExtendedType))
    (same : SameImplied types others) where
  implied-root : (op : OperationType) → has_implied_root others u op ≡ has_implied_root types d op
  implied-root op = simp (text-of d u a op, same op)

  same-written : is_written others u ≡ is_written types d
  same-written = λ i. (own-said u ∙ ap (λ q. has_some q.roots) a.definition ∙ sym (own-said d)) i
      && not (is_none (a.description i) && (simp length-map at (ap length a.directives) i == 0)
      && (simp length-map at (ap length a.extensions) i == 0)
      && (implied-root Query i && (implied-root Mutation i && (implied-root Subscription i && true))))

  -- schema definitions that say the same are written out alike
  pub written-alike : (location other : Option SourceSpan) → (is_written types d ≡ true → other ≡ location)
      → write_schema_definition u other others ≡ write_schema_definition d location types
  written-alike location other at =
      λ i. (ap (λ b. cond b (schema_definition u.description (written_parts_of u).definition other ∷ []) [])
      same-written ∙ (elim (is_written types d) as (λ b. is_written types d ≡ b
      → (cond b (schema_definition u.description (written_parts_of u).definition other ∷ []) [])
      ≡ (cond b (schema_definition d.description (written_parts_of d).definition location ∷ []) [])) [
        | true ↦ λ e. (λ i. schema_definition (a.description i) (a.definition i) (at e i) ∷ [])
        | false ↦ λ e. refl
      ]) refl) i ++ same-located (λ w. schema_extension w.1 w.0) (written_parts_of u).extensions
      (written_parts_of d).extensions a.extensions i

-- A schema definition that is left out: its roots are those that no schema definition would have to name.

-- the roots that are implied where these operation types have an object type of the default name
abbrev pub roots_where : (OperationType → Bool) → List Root
roots_where has = flat_map (λ op. cond (has op) (default_root op ∷ []) []) operation_types

abbrev pub implied_schema_of : (OperationType → Bool) → SchemaDefinition
implied_schema_of has = made_schema (schema_of_roots (roots_where has)) []

-- its roots, that it has no extension, and that the roots differ
root-three : (has : OperationType → Bool) (op : OperationType)
    → option_map (λ n. n.name.text) (root_of (implied_schema_of has) op)
    ≡ cond (has op) (Some (default_type_text op)) None
root-three has op = grind arith

unextended : (has : OperationType → Bool)
    → identities (origins_in (schema_components (implied_schema_of has))) ≡ []
unextended has = grind arith

pub implied-distinct : (has : OperationType → Bool) → IsDistinct same_root (roots_where has)
implied-distinct has = distinct-from_first same_root _ (grind arith)

-- the text of a root that equals an implied one
implied-text : (a b : Option (List ℕ)) → option_eq (pointwise nat_eq) a b ≡ true → a ≡ b
implied-text (Some x) (Some y) h = ap Some (same-true x y h)
implied-text a b h = grind (arith, h)

is-empty : {X : Type 0} (xs : List X) → (length xs == 0) ≡ true → xs ≡ []
is-empty xs h = nil_from_length xs (grind (arith, nat_tests, h))

-- a name of this text
abbrev bare_text : List ℕ → NameView
bare_text t = record { text = t; location = None }

-- a test that all operation types pass
each-operation : (test : OperationType → Bool) (op : OperationType) → list_all test operation_types ≡ true
    → test op ≡ true
each-operation test op h = grind (arith, h)

-- nothing is said by it but implied roots
pub record IsLeftOut (d : SchemaDefinition) (types : List (NameView × ExtendedType)) : Type 0 where
  pub description : d.description ≡ None
  pub directives : d.directives.0 ≡ []
  pub extensions : identities (origins_in (schema_components d)) ≡ []
  pub roots : (op : OperationType) → option_map (λ n. n.name.text) (root_of d op) ≡ implied_name types op

pub left-out : (d : SchemaDefinition) (types : List (NameView × ExtendedType)) → is_implied types d ≡ true
    → IsLeftOut d types
left-out d types h = record {
  description = grind (arith, h);
  directives = is-empty d.directives.0 (grind (arith, h));
  extensions = is-empty _ (grind (arith, h));
  roots = λ op. implied-text _ _ (each-operation (has_implied_root types d) op (and_parts _ _ h).1);
}

module _ (types : List (NameView × ExtendedType)) (has : OperationType → Bool) (are : (op : OperationType)
    → implied_name types op ≡ cond (has op) (Some (default_type_text op)) None) where
  -- the implied definition says what one that is left out says
  pub left-out-equal : (d : SchemaDefinition) → IsLeftOut d types
      → bare_schema_definition (implied_schema_of has) ≡ bare_schema_definition d
  left-out-equal d l = λ i. record {
    description = option_map bare_name (sym l.description i);
    directives = map (bare_component bare_directive) (sym l.directives i);
    query = root Query i;
    mutation = root Mutation i;
    subscription = root Subscription i;
  }
    where
      root : (op : OperationType)
          → option_map bare_component_name (root_of (implied_schema_of has) op)
          ≡ option_map bare_component_name (root_of d op)
      root op = sym (option_map-twice bare_text _ _) ∙ ap (option_map bare_text) (root-three has op
          ∙ sym (are op) ∙ sym (l.roots op)) ∙ option_map-twice bare_text _ _

  implied-again : is_implied types (implied_schema_of has) ≡ true
  implied-again = grind (arith, unextended, root-three, are, same-refl)

-- nothing is written of it
pub left-out-written : (d : SchemaDefinition) (location : Option SourceSpan)
    (types : List (NameView × ExtendedType)) → is_implied types d ≡ true
    → identities (origins_in (schema_components d)) ≡ [] → write_schema_definition d location types ≡ []
left-out-written d location types implied none =
    let unwritten : is_written types d ≡ false = grind (arith, implied) in rw (unwritten, none)

pub implied-unwritten : (types : List (NameView × ExtendedType)) (has : OperationType → Bool)
    → ((op : OperationType) → implied_name types op ≡ cond (has op) (Some (default_type_text op)) None)
    → (location : Option SourceSpan) → write_schema_definition (implied_schema_of has) location types ≡ []
implied-unwritten types has are location = left-out-written (implied_schema_of has) location types
    (implied-again types has are) (unextended has)

-- it names a root
abbrev pub NamesRoot : SchemaPart → Type 0
NamesRoot s = s.parts.roots ≢ []

pub first_schema-append : (xs ys : List ListItem)
    → first_schema (xs ++ ys) ≡ option_or (first_schema xs) (first_schema ys)
first_schema-append xs ys =
    simp filter_map-append
    (elim (filter_map defined_schema xs) as (λ l. slice_get (l ++ filter_map defined_schema ys) 0
    ≡ option_or (slice_get l 0) (slice_get (filter_map defined_schema ys) 0)) [ [] ↦ refl | s ∷ l ↦ refl ])

-- the extensions that are folded are all, where there is a definition
pub schema_numbers-parts : (start : ℕ) (xs : List ListItem) (s : SchemaPart) → first_schema xs ≡ Some s
    → map (λ e. e.1) (schema_numbers start (folding_order xs)) ≡ schema_extensions xs
schema_numbers-parts start xs s h = sym (map-map _ schema_extension_source _) ∙ folded-of_schema start xs s h

-- a schema definition that isn't written in a list has nothing of its own but implied roots, if the list
-- implies these
pub record IsMeantSchema (d : SchemaDefinition) (implied : List Root) : Type 0 where
  pub made : IsMadeBy made_schema d
  pub description : has_own_root d ≡ false → d.description ≡ None
  pub directives : has_own_root d ≡ false → (written_parts_of d).definition.directives ≡ []
  pub roots : has_own_root d ≡ false → ((op : OperationType) → root_of d op ≡ None) → implied ≡ []

module _ (start : ℕ) (xs : List ListItem) where
  abbrev pub schema_node : NodeView SchemaDefinition
  schema_node = unwrap_or (schema_of start (folding_order xs) xs) no_schema

  pub node-of : (s : SchemaPart) → first_schema xs ≡ Some s → schema_node ≡ record {
    value = made_schema s (schema_numbers start (folding_order xs));
    location = s.location;
  }
  node-of s h = grind (arith, h)

  pub node-none : first_schema xs ≡ None → schema_node ≡ no_schema
  node-none h = grind (arith, h)

no-numbers : IsDistinct {K = ℕ} ◌==◌ []
unfolding IsDistinct
no-numbers = tt

-- a definition that names a root
meant-explicit : (s : SchemaPart) (es : List (ℕ × SchemaPart)) (implied : List Root)
    → IsDistinct ◌==◌ (map (λ e. e.0) es) → NamesRoot s → IsMeantSchema (made_schema s es) implied
meant-explicit s es implied apart named = record {
  made = record { head = s; extensions = es; apart = apart; is = refl };
  description = (λ h. absurd (named (own-root s es h)));
  directives = (λ h. absurd (named (own-root s es h)));
  roots = (λ h. absurd (named (own-root s es h)));
}

-- one of roots alone
meant-of_roots : (rs : List Root) (es : List (ℕ × SchemaPart)) (implied : List Root)
    → IsDistinct ◌==◌ (map (λ e. e.0) es)
    → (has_own_root (made_schema (schema_of_roots rs) es) ≡ false → ((op : OperationType)
    → root_of (made_schema (schema_of_roots rs) es) op ≡ None) → implied ≡ [])
    → IsMeantSchema (made_schema (schema_of_roots rs) es) implied
meant-of_roots rs es implied apart roots = record {
  made = record { head = schema_of_roots rs; extensions = es; apart = apart; is = refl };
  description = (λ h. refl);
  directives = (λ h. no-directives (schema_of_roots rs) es refl);
  roots = roots;
}

-- a definition without any root, and without extensions that name one
none-named : (head : SchemaPart) (es : List (ℕ × SchemaPart))
    → ((op : OperationType) → root_of (made_schema head es) op ≡ None) → roots_in (map (λ e. e.1) es) ≡ []
none-named head es none = map-empty _ _ (sym (operations-named es)
    ∙ ap (map (λ (r : OperationType × ComponentName). r.0))
    ((both-empty _ _ (all-none _ (λ op. sym (root-made head es op) ∙ none op))).1))

module _ (schema : Schema) (list : IsMeantByList schema) where
  open list use {start, adopts, more}

  -- the list with adopted types, and with the implied definition of the schema
  abbrev W : List ListItem
  W = with_adopted adopts (items adopts more)

  abbrev xs : List ListItem
  xs = whole adopts (with_built_ins more)

  -- the extensions of the schema that are folded, with their numbers
  abbrev es : List (ℕ × SchemaPart)
  es = schema_numbers start (folding_order xs)

  definitions-of : filter_map defined_schema W ≡ filter_map defined_schema (added_items more)
  definitions-of = ap (filter_map defined_schema) (adopted-split adopts more) ∙ simp (
    filter_map-append,
    no-schema_definitions,
    elim adopts as (λ b. filter_map defined_schema (cond b (adopted (items adopts more)) []) ≡ [])
        [ true ↦ adopted-unchosen defined_schema (λ p. refl) (items adopts more) | false ↦ refl ],
    append-nil,
  )

  first-roots : (s : SchemaPart) → first_schema W ≡ Some s → NamesRoot s
  first-roots s h = found-holds NamesRoot (λ _. true) (filter_map defined_schema (added_items more)) s
      (rooted schema list) (find-first (λ _. true) _ ∙ ap (λ l. slice_get l 0)
      (sym (all-kept (filter_map defined_schema (added_items more))) ∙ sym definitions-of) ∙ h)

  apart : IsDistinct ◌==◌ (map (λ e. e.0) es)
  apart = rising-distinct start _ (schema_numbers-rise start (folding_order xs))

  -- where the list is completed with this definition, that is its definition
  completed-first : (s : SchemaPart) → first_schema W ≡ None → implied_schema adopts W ≡ SchemaDefined s ∷ []
      → first_schema xs ≡ Some s
  completed-first s none is = first_schema-append W _ ∙ (λ i. option_or (none i) (first_schema (is i)))

  pub meant-schema : IsMeantSchema (schema_node start xs).value (implicit_roots W)
  meant-schema = option_cases _ (λ h. implied h adopts _ _ refl refl
      (ap (λ o. option_map_or (λ _. []) o (schema_for adopts (roots_in (schema_extensions W))
      (implicit_roots W))) h)) (λ s h. is_meant s (first_schema-append W _
      ∙ ap (λ o. option_or o (first_schema (implied_schema adopts W))) h)
      (meant-explicit s _ _ apart (first-roots s h)))
    where
      is_meant : (s : SchemaPart) → first_schema xs ≡ Some s
          → IsMeantSchema (made_schema s es) (implicit_roots W)
          → IsMeantSchema (schema_node start xs).value (implicit_roots W)
      is_meant s h m = subst (λ n. IsMeantSchema n.value (implicit_roots W)) (sym (node-of start xs s h)) m

      implied : first_schema W ≡ None → (b : Bool) (named implicit : List Root)
          → roots_in (schema_extensions W) ≡ named → implicit_roots W ≡ implicit
          → implied_schema adopts W ≡ schema_for b named implicit
          → IsMeantSchema (schema_node start xs).value (implicit_roots W)
      implied none true [] implicit named_is implicit_is is =
          is_meant _ (completed-first _ none is) (meant-of_roots implicit _ _ apart
          (λ own nothing. implicit_is ∙ own-root (schema_of_roots implicit) es own))
      implied none true (r ∷ rs) implicit named_is implicit_is is =
          let here = completed-first _ none is in
          is_meant _ here (meant-of_roots [] es _ apart (λ own nothing. absurd (let g = sym named_is
          ∙ ap roots_in (sym (chosen-implied extended_schema (λ s. refl) adopts W)
          ∙ sym (schema_numbers-parts start xs _ here)) ∙ none-named (schema_of_roots []) es
          nothing in cc)))
      implied none false named [] named_is implicit_is is =
          let nothing = first_schema-append W _ ∙ (λ i. option_or (none i) (first_schema (is i))) in
          subst (λ n. IsMeantSchema n.value (implicit_roots W)) (sym (node-none start xs nothing))
          (meant-of_roots [] [] (implicit_roots W) no-numbers (λ own nothing. implicit_is))
      implied none false named (r ∷ rs) named_is implicit_is is =
          is_meant _ (completed-first (schema_of_roots (r ∷ rs)) none is)
          (meant-explicit (schema_of_roots (r ∷ rs)) es (implicit_roots W) apart (λ e. let g = e in cc))
