-- What a definition is about, and what lists say of a subject, where those of its groups stand in both in the
-- same order.
use Rattle.apollo_meaning.proofs.Prelude.{ap, arith, Bool, Defined, defined_part, defined_schema}
use Rattle.apollo_meaning.proofs.Prelude.{directive_definitions, DirectiveDefinition, Extended, extended_part}
use Rattle.apollo_meaning.proofs.Prelude.{extended_schema, extensions_of, false, filter, filter_map, find}
use Rattle.apollo_meaning.proofs.Prelude.{first, first_schema, found_at, is_some, key_of, List, ListItem}
use Rattle.apollo_meaning.proofs.Prelude.{lookup-keyed, NodeView, Option, option_map_or, Other, refl, same}
use Rattle.apollo_meaning.proofs.Prelude.{same-true, schema_extensions, SchemaDefined, SchemaExtended}
use Rattle.apollo_meaning.proofs.Prelude.{slice_get, sym, true, TypePart, ℕ, [], ◌&&◌, ◌∙◌, ◌∷◌, ◌≡◌}
use Rattle.apollo_schema_laws.proofs.Rearranged.Words.{chosen-wider, DefinitionsOf, directive_of}
use Rattle.apollo_schema_laws.proofs.Rearranged.Words.{directive_part, DirectiveDefinitionsOf, ExtensionsOf}
use Rattle.apollo_schema_laws.proofs.Rearranged.Words.{filter-wider, filter_map-wider, find-first, Group}
use Rattle.apollo_schema_laws.proofs.Rearranged.Words.{has_text, is_handed_in, is_in, IsOwn, IsTest}
use Rattle.apollo_schema_laws.proofs.Rearranged.Words.{SchemaDefinitions, SchemaExtensions}
use Rattle.graphql_nodes.proofs.Texts.{same-refl}
use Rattle.graphql_ast.specs.declared.definition.Definition.TheVariants as ast

pub data Subject : Type 0 where
  TypeNamed : List ℕ → Subject
  DirectiveNamed : List ℕ → Subject
  TheSchema : Subject
  NoSubject : Subject

abbrev pub of_directive : Option (NodeView DirectiveDefinition) → Subject
of_directive o = option_map_or (λ d. DirectiveNamed d.value.name.text) o NoSubject

abbrev pub subject : ListItem → Subject
subject (Defined p) = TypeNamed (key_of p)
subject (Extended p) = TypeNamed (key_of p)
subject (SchemaDefined s) = TheSchema
subject (SchemaExtended s) = TheSchema
subject (Other d) = of_directive (directive_part (Other d))

abbrev pub subject_of_group : Group → Subject
subject_of_group (DefinitionsOf n) = TypeNamed n
subject_of_group (ExtensionsOf n) = TypeNamed n
subject_of_group (DirectiveDefinitionsOf n) = DirectiveNamed n
subject_of_group SchemaDefinitions = TheSchema
subject_of_group SchemaExtensions = TheSchema

abbrev pub same_subject : Subject → Subject → Bool
same_subject (TypeNamed n) (TypeNamed m) = same n m
same_subject (DirectiveNamed n) (DirectiveNamed m) = same n m
same_subject TheSchema TheSchema = true
same_subject NoSubject NoSubject = true
same_subject _ _ = false

pub subject_laws : IsTest same_subject
subject_laws = record { is = is; itself = λ a. grind (arith, same-refl) }
  where
    is : (a b : Subject) → same_subject a b ≡ true → a ≡ b
    is (TypeNamed n) (TypeNamed m) e = ap TypeNamed (same-true n m e)
    is (DirectiveNamed n) (DirectiveNamed m) e = ap DirectiveNamed (same-true n m e)
    is a b e = grind (arith, e)

-- those of a group have its subject
pub in-subject : (g : Group) (x : ListItem) → is_in g x ≡ true → subject_of_group g ≡ subject x
in-subject (DefinitionsOf n) (Defined p) e = ap TypeNamed (same-true n _ e)
in-subject (ExtensionsOf n) (Extended p) e = ap TypeNamed (same-true n _ e)
in-subject (DirectiveDefinitionsOf n) (Other (ast.DirectiveDefinition m)) e =
    ap DirectiveNamed (same-true n m.value.name.text e)
in-subject g x e = grind (arith, e)

-- the definitions of a name, in order
abbrev pub definitions_of : List ListItem → List ℕ → List TypePart
definitions_of xs n = filter (λ p. same n (key_of p)) (filter_map defined_part xs)

pub first-is : (xs : List ListItem) (n : List ℕ) → first xs n ≡ slice_get (definitions_of xs n) 0
first-is xs n = simp (lookup-keyed, find-first)

-- the first that passes two tests is, of those that pass one, the first that passes the other
find-filter : {X : Type 0} (p q : X → Bool) (xs : List X) → find (λ x. p x && q x) xs ≡ find q (filter p xs)
find-filter p q [] = refl
find-filter p q (x ∷ xs) = grind (arith, find-filter p q xs)

module _ (xs ys : List ListItem) where
  -- those of a group stand in both lists in the same order
  abbrev pub Agree : Group → Type 0
  Agree g = filter (is_in g) xs ≡ filter (is_in g) ys

  chosen-agree : {P : Type 0} (which : ListItem → Option P) (q : P → Bool)
      → filter (λ x. option_map_or q (which x) false) xs ≡ filter (λ x. option_map_or q (which x) false) ys
      → filter q (filter_map which xs) ≡ filter q (filter_map which ys)
  chosen-agree which q a = grind (arith, chosen-wider, a, chosen-wider which _ q (λ x e. e) ys)

  all-agree : {P : Type 0} (which : ListItem → Option P)
      → filter (λ x. is_some (which x)) xs ≡ filter (λ x. is_some (which x)) ys
      → filter_map which xs ≡ filter_map which ys
  all-agree which a = grind (arith, filter_map-wider, a)

  pub definitions-agree : (n : List ℕ) → Agree (DefinitionsOf n) → definitions_of xs n ≡ definitions_of ys n
  definitions-agree n = chosen-agree defined_part _

  pub first-agree : (n : List ℕ) → Agree (DefinitionsOf n) → first xs n ≡ first ys n
  first-agree n a = simp (first-is, definitions-agree)

  pub extensions-agree : (n : List ℕ) → Agree (ExtensionsOf n) → extensions_of xs n ≡ extensions_of ys n
  extensions-agree n = chosen-agree extended_part _

  directives-agree : (n : List ℕ) → Agree (DirectiveDefinitionsOf n)
      → filter (has_text n) (directive_definitions xs) ≡ filter (has_text n) (directive_definitions ys)
  directives-agree n = chosen-agree directive_part _

  pub schema_definitions-agree : Agree SchemaDefinitions
      → filter_map defined_schema xs ≡ filter_map defined_schema ys
  schema_definitions-agree = all-agree defined_schema

  pub first_schema-agree : Agree SchemaDefinitions → first_schema xs ≡ first_schema ys
  first_schema-agree a = ap (λ l. slice_get l 0) (schema_definitions-agree a)

  pub schema_extensions-agree : Agree SchemaExtensions → schema_extensions xs ≡ schema_extensions ys
  schema_extensions-agree = all-agree extended_schema

  -- the first directive definition of a name that is handed in
  handed_in-agree : (n : List ℕ) → Agree (DirectiveDefinitionsOf n)
      → find (λ d. has_text n d && is_handed_in d) (directive_definitions xs)
      ≡ find (λ d. has_text n d && is_handed_in d) (directive_definitions ys)
  handed_in-agree n a = simp (find-filter, directives-agree)

  pub directive_of-agree : (n : List ℕ) → Agree (DirectiveDefinitionsOf n)
      → directive_of (directive_definitions xs) n ≡ directive_of (directive_definitions ys) n
  directive_of-agree n a = simp (handed_in-agree, directives-agree)

  -- what is found at an item after either list
  pub found_at-agree : (x : ListItem) → ((g : Group) → subject_of_group g ≡ subject x → Agree g)
      → found_at xs x ≡ found_at ys x
  found_at-agree (Defined d) a = simp (first-agree, extensions-agree)
  found_at-agree (Extended e) a = simp (extensions-agree, first-agree)
  found_at-agree (SchemaDefined s) a = simp (first_schema-agree, schema_extensions-agree)
  found_at-agree (SchemaExtended e) a = simp (first_schema-agree, schema_extensions-agree)
  found_at-agree (Other (ast.DirectiveDefinition n)) a = simp handed_in-agree
  found_at-agree (Other d) a = refl

-- what is found at an item is decided by those of its subject before it
pub found_at-own : IsOwn same_subject subject_laws subject found_at
found_at-own before x =
    found_at-agree before _ x (λ g is. sym (filter-wider (λ y. same_subject (subject x) (subject y)) _
    (λ y h. ap (same_subject _) (sym (in-subject g y h) ∙ is) ∙ subject_laws.itself (subject x)) before))
