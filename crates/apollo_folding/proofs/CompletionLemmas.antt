-- What a list is completed with: types that are adopted, and the definition of the schema that is implied.
use Rattle.apollo_meaning.proofs.Prelude.{◌≡◌, ℕ, ◌+◌, ◌<◌, Bool, true, false, ◌||◌, ◌&&◌, ◌==◌, not}
use Rattle.apollo_meaning.proofs.Prelude.{if◌then◌else◌, get_or, take, drop, List, [], ◌∷◌, ◌++◌}
use Rattle.apollo_meaning.proofs.Prelude.{None, Some, length, map, refl, arith, nat_tests}
use Rattle.apollo_meaning.proofs.Prelude.{list_any, option_map, take-append-drop, NodeView, Definition}
use Rattle.apollo_meaning.proofs.Prelude.{schema_extension_part, Root, roots_in, Defined}
use Rattle.apollo_meaning.proofs.Prelude.{SchemaDefined, item_of, extended_part, extended_parts, adopted_part}
use Rattle.apollo_meaning.proofs.Prelude.{is_some, schema_for, TypePart, Option, sym, ap}
use Rattle.apollo_folding.specs.Adopting.{adopted_for}
use Rattle.graphql_ast.specs.declared.type_system.SchemaExtension.{SchemaExtension}
use Rattle.apollo_meaning.specs.Completion.ImpliedSchema.{schema_of_roots, rooted_schema}
use Rattle.apollo_meaning.proofs.Order.FoldingLemmas.{extended_parts-append, extended_parts-turn}

-- what is made of a value that is there, is there
pub mapped-some : {X Y : Type 0} (f : X → Y) (o : Option X) {p : Option Y} → option_map f o ≡ p
    → is_some p ≡ is_some o
mapped-some f None is = ap is_some (sym is)
mapped-some f (Some x) is = ap is_some (sym is)

-- what is adopted for definitions is what is adopted for the first of them that extends a type
pub adopted-first : (xs : List Definition) (i : ℕ) (x : Definition) → i < length xs → x ≡ get_or xs i x
    → extended_parts (take i xs) ≡ [] → is_some (extended_part (item_of x)) ≡ true
    → adopted_for (x ∷ []) ≡ adopted_for xs
adopted-first xs i x lt is none extends = grind (
  arith,
  extended_parts-append (take (i + 1) xs) (drop (i + 1) xs),
  take-append-drop (i + 1) xs,
  extended_parts-turn xs i x lt is,
)

-- a definition that extends no type adds no extension
pub unextended-turn : (xs : List Definition) (i : ℕ) (x : Definition) → i < length xs → x ≡ get_or xs i x
    → extended_parts (take i xs) ≡ [] → is_some (extended_part (item_of x)) ≡ false
    → extended_parts (take (i + 1) xs) ≡ []
unextended-turn xs i x lt is none extends = grind (arith, extended_parts-turn xs i x lt is)

-- what is adopted for an extension of a type alone
pub adopted-alone : (x : Definition) (e : TypePart) → Some e ≡ extended_part (item_of x)
    → adopted_for (x ∷ []) ≡ Defined (adopted_part e) ∷ []
adopted-alone x e is = grind (arith, is)

pub adopted-nothing : (x : Definition) → None ≡ extended_part (item_of x) → adopted_for (x ∷ []) ≡ []
adopted-nothing x is = grind (arith, is)

some-apart : {X : Type 0} (x : X) (xs : List X) → (length (x ∷ xs) == 0) ≡ false
some-apart x xs = grind (arith, nat_tests)

-- extensions that name no root have none, and others have one
names-roots : (xs : List (NodeView SchemaExtension))
    → list_any (λ e. not (length e.value.root_operations == 0)) xs
    ≡ not (length (roots_in (map schema_extension_part xs)) == 0)
names-roots [] = refl
names-roots (x ∷ xs) = by x.value.root_operations (names-roots xs)
  where
    by : (rs : List Root)
        → list_any (λ (e : NodeView SchemaExtension). not (length e.value.root_operations == 0)) xs
        ≡ not (length (roots_in (map schema_extension_part xs)) == 0)
        → (not (length rs == 0) || list_any (λ (e : NodeView SchemaExtension). not
        (length e.value.root_operations == 0)) xs)
        ≡ not (length (rs ++ roots_in (map schema_extension_part xs)) == 0)
    by [] rest = rest
    by (r ∷ rs) rest = rw (some-apart r rs, some-apart r _)

-- where they are not adopted, a schema definition is implied if there is a root
implied-rooted : (roots : List Root) → (length roots == 0) ≡ false
    → SchemaDefined (schema_of_roots roots) ∷ [] ≡ rooted_schema roots
implied-rooted roots some = grind (arith, nat_tests)

module _ (xs : List (NodeView SchemaExtension)) (implicit roots : List Root) where
  abbrev AreImplied : Bool → Type 0
  AreImplied adopts = roots ≡ (if adopts && list_any (λ e. not (length e.value.root_operations == 0)) xs then
      [] else implicit)

  -- where they are, one is implied
  pub implied-adopting : (adopts : Bool) → adopts ≡ true → AreImplied adopts
      → SchemaDefined (schema_of_roots roots) ∷ [] ≡ schema_for adopts
      (roots_in (map schema_extension_part xs)) implicit
  implied-adopting adopts adopted is = grind (arith, nat_tests, names-roots xs)

  -- and so with a root, either way
  pub implied-some : (adopts : Bool) → (length roots == 0) ≡ false → AreImplied adopts
      → SchemaDefined (schema_of_roots roots) ∷ [] ≡ schema_for adopts
      (roots_in (map schema_extension_part xs)) implicit
  implied-some adopts some is = grind (arith, nat_tests, names-roots xs, implied-rooted roots)
