-- Lists that the law of the write-out speaks of: GraphQL specification of October 2021, sections 3 and 3.3.
--
-- **Written again.** `written_again ignores schema` is the list with the built-in definitions and then the
-- write-out. `IsMeantByList` says that a schema is meant by such a list as the laws take. That is the
-- built-in definitions with others behind them. Of those others none is marked built-in, and each schema
-- definition names a root (`IsUnmarkedAndRooted`). **Sections** are the components of a type sort by sort.
-- The **written** ones are those of the definition and of each extension under which the write-out puts them.
use Rattle.std.specs.Prelude.{◌≡◌, ◌≢◌, ℕ, Bool, false, List, [], filter_map, All}
use Rattle.graphql_nodes.specs.BuiltIn.{is_built_in}
use Rattle.graphql_ast.specs.Definitions.{definition_location}
use Rattle.graphql_ast.specs.declared.definition.Definition.{Definition}
use Rattle.apollo_meaning.specs.Items.ListItems.{Added, added, added_items, defined_schema}
pub use Rattle.apollo_schema.specs.BuilderStands.{with_built_ins}
use Rattle.apollo_schema.specs.MeantSchema.{MeansSchema}
use Rattle.apollo_schema.specs.SchemaWriteOut.{write_schema}
use Rattle.apollo_schema.specs.declared.schema.Schema.{Schema}

-- none of these is marked built-in, and each schema definition among them names a root
pub record IsUnmarkedAndRooted (more : List Added) : Type 0 where
  pub unmarked : All (λ a. is_built_in (definition_location a.1) ≡ false) more
  pub rooted : All (λ s. s.parts.roots ≢ []) (filter_map defined_schema (added_items more))

-- a schema that some such list means, with extensions numbered from some number, under some setting of
-- adoption
pub record IsMeantByList (schema : Schema) : Type 0 where
  -- the number of the first extension that is folded
  pub start : ℕ
  -- whether names that are extended only are adopted
  pub adopts : Bool
  -- what is added after the built-in definitions
  pub more : List Added
  pub within : IsUnmarkedAndRooted more
  pub means : MeansSchema start adopts (with_built_ins more) schema

-- the write-out of a schema, added as one document after the built-in definitions
abbrev pub written_again : Bool → Schema → List Added
written_again ignores schema = with_built_ins (added ignores (write_schema schema))

-- what a schema that the list means is written out as
abbrev pub IsWriteOutOf : ℕ → Bool → List Added → List Definition → Type 0
IsWriteOutOf start adopts xs ds = (schema : Schema) × MeansSchema start adopts xs schema
    × (ds ≡ write_schema schema)
