-- Definitions that differ in locations alone, and are not marked built-in, make lists that are alike. With
-- adoption, one has a fault where the other has. They mean schemas that are written out alike.
use Rattle.apollo_canonical.proofs as canonical
use canonical.Prelude.{Added, AllByRecursion, Defined, Definition, Extended, List, ListItem, MeansSchema}
use canonical.Prelude.{None, Option, Other, Schema, SchemaDefined, SchemaExtended, SourceSpan, [], added}
use canonical.Prelude.{added_item, added_items, ap, arith, bare_definition, completed, completed-unplaced}
use canonical.Prelude.{definition_location, false, faults_in, faults_of, is_built_in, map, map-append, refl}
use canonical.Prelude.{sym, true, with_built_ins, write_schema, ℕ, ◌++◌, ◌∙◌, ◌∷◌, ◌≡◌}
use canonical.Schemas.Plain.{plain_list}
use canonical.Schemas.PlainFaults.{blank, count, faults-count}
use canonical.Schemas.PlainWriteOut.{written-alike}
use canonical.Schemas.WellFormedLists.{map-empty}
use Rattle.graphql_ast.specs.declared.definition.Definition.TheVariants as ast
use Rattle.apollo_meaning.specs.BuiltInTable.{built_in_definitions}
use Rattle.apollo_schema_laws.specs.Equal.{AreEqualLists, compared}

-- a definition that is not marked built-in
abbrev pub IsUnmarked : Definition → Type 0
IsUnmarked d = is_built_in (definition_location d) ≡ false

-- what a definition says, at a location
abbrev place : Option SourceSpan → ListItem → ListItem
place at (Defined p) = Defined (record p { location = at })
place at (Extended p) = Extended (record p { location = at })
place at (SchemaDefined s) = SchemaDefined (record s { location = at })
place at (SchemaExtended s) = SchemaExtended (record s { location = at })
place at (Other (ast.DirectiveDefinition n)) = Other (ast.DirectiveDefinition (record n { location = at }))
place at (Other d) = Other d

-- so what is said without locations is said by the definitions without locations
all-placed : (ds : List Definition) → AllByRecursion IsUnmarked ds
    → plain_list (added_items (added false ds)) ≡ map (λ b. place None (added_item (false, b)))
    (map bare_definition ds)
all-placed [] a = refl
all-placed (d ∷ ds) a = grind (arith, a.0, all-placed ds a.1)

-- and what is compared
all-compared : (ds : List Definition) → AllByRecursion IsUnmarked ds
    → map compared (added false ds) ≡ map (λ b. (false, b)) (map bare_definition ds)
all-compared [] a = refl
all-compared (d ∷ ds) a = grind (arith, a.0, all-compared ds a.1)

module _ (ds es : List Definition) (unmarked : AllByRecursion IsUnmarked ds)
    (others : AllByRecursion IsUnmarked es) (alike : map bare_definition ds ≡ map bare_definition es) where
  abbrev list : List Definition → List Added
  list l = with_built_ins (added false l)

  abbrev built_in : List Added
  built_in = added false built_in_definitions

  same-list : plain_list (added_items (list ds)) ≡ plain_list (added_items (list es))
  same-list = simp (split, all-placed, alike)
    where
      split : (l : List Definition)
          → plain_list (added_items (list l)) ≡ plain_list (added_items built_in)
          ++ plain_list (added_items (added false l))
      split l = simp map-append

  -- the lists are equal
  pub equal : AreEqualLists (list ds) (list es)
  equal = simp (map-append, all-compared, alike)

  -- without a fault together
  pub faultless : faults_of true (list ds) ≡ [] → faults_of true (list es) ≡ []
  faultless none = map-empty blank (faults_of true (list es)) (sym (faults-count true (added_items (list es)))
      ∙ ap (λ l. count (faults_in true l)) (sym same-list) ∙ faults-count true (added_items (list ds))
      ∙ ap count none)

  -- and written out alike
  pub written : (start : ℕ) (s t : Schema) → MeansSchema start true (list ds) s
      → MeansSchema start true (list es) t
      → map bare_definition (write_schema s) ≡ map bare_definition (write_schema t)
  written start = written-alike start _ _ (sym (completed-unplaced true true _)
      ∙ ap (completed true) same-list ∙ completed-unplaced true true _)
