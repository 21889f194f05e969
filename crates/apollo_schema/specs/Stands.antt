-- What a builder holds for a list: GraphQL specification of October 2021, sections 3.3, 3.4.3 and 3.13.
use Rattle.std.specs.Prelude.{◌≡◌, ℕ, ◌+◌, ◌≤◌, Bool, List, ◌++◌, length, map}
use Rattle.std.specs.List.{flat_map}
use Rattle.graphql_nodes.specs.Tables.{keys_of, lookup}
use Rattle.apollo_component.specs.Extensions.{next_number, source_at}
use Rattle.apollo_schema.specs.declared.tables.Tables.{Tables}
use Rattle.apollo_schema.specs.declared.state.State.{State}
use Rattle.apollo_schema.specs.declared.state.State.TheVariants as state
use Rattle.apollo_schema.specs.BuilderStands.{Standing, Open, Failed, with_built_ins}
use Rattle.apollo_meaning.specs.Items.ListItems.{ListItem, Extended, Added, added_items, items_held}
use Rattle.apollo_meaning.specs.Items.Parts.{schema_extension_part}
use Rattle.graphql_nodes.specs.SameText.{by_text}
use Rattle.apollo_meaning.specs.Types.Meaning.{AreTypesOf}
use Rattle.apollo_meaning.specs.Directives.{directive_definitions, AreDirectivesOf}
use Rattle.apollo_meaning.specs.Schema.Definition.{schema_of}
use Rattle.apollo_meaning.specs.Completion.Adoption.{extended_names, orphans_of, schema_orphans}
use Rattle.apollo_meaning.specs.Completion.ImpliedSchema.{completed}
use Rattle.apollo_meaning.specs.Faults.TypeFaults.{orphan}
use Rattle.apollo_meaning.specs.Faults.RootFaults.{schema_orphan}
use Rattle.apollo_meaning.specs.Faults.ListFaults.{faults_in}
use Rattle.apollo_component.specs.EachAfter.{each_after}
use Rattle.apollo_meaning.specs.Steps.Prefixes.{folded, found_at, found, waited}

-- these tables are those of the list, with its extensions numbered from `start`
pub record Stands (start : ℕ) (xs : List ListItem) (t : Tables) : Type 0 where
  pub definition : t.schema_definition ≡ schema_of start (folded xs) xs
  -- the extensions of the schema that wait for its definition
  pub orphans : map schema_extension_part t.schema_extensions ≡ schema_orphans xs
  pub types : AreTypesOf start (folded xs) xs t.types
  pub directives : AreDirectivesOf (directive_definitions xs) t.directive_definitions
  -- under each name the extensions that wait for its definition
  pub waiting : (n : List ℕ) → items_held (lookup (by_text n) t.waiting) ≡ map Extended (orphans_of xs n)
  -- the names under which an extension once waited, in order
  pub names : keys_of t.waiting ≡ waited xs
  -- what was found so far, in order
  pub faults : t.fold.faults ≡ found xs
  -- the number of the next extension that is folded
  pub next : t.fold.ids ≡ source_at (start + length (folded xs))

-- these tables are those of a list that ends with these items, which are implied. They hold what was found
-- and what is left without a definition
pub record Ends (start : ℕ) (implied xs : List ListItem) (t : Tables) : Type 0 where
  pub definition : t.schema_definition ≡ schema_of start (folded (xs ++ implied)) (xs ++ implied)
  pub types : AreTypesOf start (folded (xs ++ implied)) (xs ++ implied) t.types
  pub directives : AreDirectivesOf (directive_definitions (xs ++ implied)) t.directive_definitions
  -- what was found before, and the extensions of types without a definition. Then what is found at the
  -- implied items, and the extensions of the schema without a definition
  pub faults : t.fold.faults
      ≡ found xs ++ (map orphan (flat_map (orphans_of xs) (extended_names xs))
      ++ (each_after found_at xs implied ++ map schema_orphan (schema_orphans (xs ++ implied))))
  -- the number after that of the last extension that is folded
  pub next : t.fold.ids ≡ source_at (start + length (folded (xs ++ implied)))

-- these tables are those of all that the list means, and hold all its faults
pub record Completes (start : ℕ) (adopts : Bool) (xs : List ListItem) (t : Tables) : Type 0 where
  pub definition : t.schema_definition ≡ schema_of start (folded (completed adopts xs)) (completed adopts xs)
  pub types : AreTypesOf start (folded (completed adopts xs)) (completed adopts xs) t.types
  pub directives : AreDirectivesOf (directive_definitions (completed adopts xs)) t.directive_definitions
  pub faults : t.fold.faults ≡ faults_in adopts xs
  -- the number after that of the last extension that is folded
  pub next : t.fold.ids ≡ source_at (start + length (folded (completed adopts xs)))

-- what is seen of what a builder holds, and of the definitions that were handed in
abbrev pub standing_of : List Added → State → Standing
standing_of more (state.Open held) = Open (with_built_ins more) held.sources
standing_of more (state.Failed source) = Failed source

-- what holds of what a builder with this first number holds. Its tables are those of what was added, the
-- built-in definitions first. Or a call was refused, and the source is not below the first number
abbrev pub HoldsFor : ℕ → List Added → State → Type 0
HoldsFor start more (state.Open held) = Stands start (added_items (with_built_ins more)) held.tables
HoldsFor start more (state.Failed source) = start ≤ next_number source
