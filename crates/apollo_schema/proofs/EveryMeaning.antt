-- Every list of definitions means a schema.
use Rattle.apollo_meaning.proofs as meaning
use meaning.Prelude.{arith, ◌≡◌, ℕ, Bool, true, false, cond, ◌&&◌, List, [], ◌∷◌, map, filter, filter_map}
use meaning.Prelude.{find, list_any, Option, None, Some, is_some, refl, sym, ap, option_or, option_map}
use meaning.Prelude.{unwrap_or, lookup, keys_of, map-map, NameView, NodeView, same, same_text, by_text}
use meaning.Prelude.{same-true, DirectiveDefinition, list_any-first_of_each, is_some-lookup, name_laws}
use meaning.Prelude.{Directives, directive_definitions, Added, ListItem, defined_part, TypePart, first}
use meaning.Prelude.{type_names, folding_order, whole, ExtendedType, Scalar}
use meaning.Types.NameLemmas.{type_names-first}
use Rattle.std.specs.List.{last_or}
use Rattle.graphql_nodes.specs.NameView.{plain_name}
use Rattle.apollo_component.proofs.Lists.Cases.{list_any-map}
use Rattle.apollo_component.proofs.FirstOfEachLemmas.{first_of_each-map}
use Rattle.apollo_component.proofs.Tabled.{tabled, lookup-tabled}
use Rattle.apollo_meaning.specs.Directives.{directive_names, directive_of, has_text, is_handed_in}
use Rattle.apollo_meaning.specs.Items.Named.{definitions}
use Rattle.apollo_meaning.specs.Schema.Definition.{schema_of, no_schema}
use Rattle.apollo_meaning.specs.Types.Meaning.{type_of}
use Rattle.apollo_schema.specs.MeantSchema.{MeansSchema}
use Rattle.apollo_schema.specs.declared.schema.Schema.{Schema}

-- a table of these names, which has at each what is given of its text
module _ {V : Type 0} (given : List ℕ → Option V) (other : V) (names : List NameView) (named : (n : List ℕ)
    → list_any (by_text n) names ≡ is_some (given n)) where
  abbrev at_name : NameView → V
  at_name k = unwrap_or (given k.text) other

  abbrev table : List (NameView × V)
  table = tabled at_name names

  table-names : keys_of table ≡ names
  table-names = simp (map-map, itself)
    where
      itself : (ks : List NameView) → map (λ (k : NameView). k) ks ≡ ks
      itself [] = refl
      itself (k ∷ ks) = rw (itself ks)

  table-each : (n : List ℕ) → lookup (by_text n) table ≡ given n
  table-each n = simp (
    lookup-tabled same_text name_laws at_name (plain_name n)
        (λ k is. ap (λ (t : List ℕ). unwrap_or (given t) other) (sym (same-true n k.text is))) names,
    named n,
    by (given n),
  )
    where
      by : (o : Option V) → cond (is_some o) (Some (unwrap_or o other)) None ≡ o
      by o = grind arith

is_some-map : {A B : Type 0} (f : A → B) (o : Option A) → is_some (option_map f o) ≡ is_some o
is_some-map f None = refl
is_some-map f (Some a) = refl

-- a name is one of the types exactly where it is defined
types-named : (xs : List ListItem) (n : List ℕ) → list_any (by_text n) (type_names xs) ≡ is_some (first xs n)
types-named xs n = rw (
  type_names-first xs,
  list_any-first_of_each same_text name_laws (plain_name n),
  list_any-map,
  ← list_any-map (λ (e : List ℕ × TypePart). same n e.0) (λ (p : TypePart). (p.name.text, p))
      (filter_map defined_part xs),
  is_some-lookup (same n) (definitions xs),
)

-- a name means a directive definition exactly where it has one
last_or-some : {X : Type 0} (x : X) (o : Option X) (xs : List X) → is_some (last_or (Some x) xs) ≡ true
last_or-some x o [] = refl
last_or-some x o (y ∷ ys) = last_or-some y o ys

module _ {X : Type 0} (p q : X → Bool) where
  meant-there : (xs : List X)
      → is_some (option_or (find (λ x. p x && q x) xs) (last_or None (filter p xs))) ≡ list_any p xs
  meant-there [] = refl
  meant-there (x ∷ xs) = grind (arith, meant-there xs, last_or-some x None (filter p xs))

directives-named : (ds : Directives) (n : List ℕ)
    → list_any (by_text n) (directive_names ds) ≡ is_some (directive_of ds n)
directives-named ds n = simp (
  first_of_each-map same_text (λ (d : NodeView DirectiveDefinition). d.value.name) ds,
  list_any-first_of_each same_text name_laws (plain_name n) (map (λ d. d.value.name) ds),
  list_any-map (by_text n) (λ (d : NodeView DirectiveDefinition). d.value.name) ds,
  meant-there (has_text n) is_handed_in ds,
)

module _ (start : ℕ) (adopts : Bool) (list : List Added) where
  abbrev xs : List ListItem
  xs = whole adopts list

  abbrev ds : Directives
  ds = directive_definitions xs

  abbrev type_at : List ℕ → Option ExtendedType
  type_at = type_of start (folding_order xs) xs

  -- what stands where nothing is looked up
  no_type : ExtendedType
  no_type = Scalar (record {
    value = record { description = None; name = plain_name []; directives = record { 0 = [] } };
    location = None;
  })

  no_directive : NodeView DirectiveDefinition
  no_directive = record {
    value = record {
      description = None;
      name = plain_name [];
      arguments = [];
      repeatable = false;
      locations = [];
    };
    location = None;
  }

  are-types : (n : List ℕ) → list_any (by_text n) (type_names xs) ≡ is_some (type_at n)
  are-types n = simp (types-named, is_some-map)

  pub every_schema : (schema : Schema) × MeansSchema start adopts list schema
  every_schema = (
    record {
      sources = [];
      schema_definition = unwrap_or (schema_of start (folding_order xs) xs) no_schema;
      directive_definitions = table (directive_of ds) no_directive (directive_names ds) (directives-named ds);
      types = table type_at no_type (type_names xs) are-types;
      meta_fields = tt;
    },
    record {
      definition = refl;
      types = record {
        names = table-names type_at no_type _ are-types;
        each = table-each type_at no_type _ are-types;
      };
      directives = record {
        names = table-names _ no_directive _ (directives-named ds);
        each = table-each _ no_directive _ (directives-named ds);
      };
    },
  )
