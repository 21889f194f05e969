-- Lists of the same definitions in another order: GraphQL specification of October 2021, sections 3 and
-- 3.4.3.
--
-- **Group.** A group (`Group`) is a sublist of a list, of one of five kinds. Three are of a name: the
-- definitions of a type's name, the extensions of a type's name, and the directive definitions of a name. Two
-- are of the schema: its definitions and its extensions. `is_in` says whether an item is in a group. An
-- executable definition is in none.
--
-- **Rearranged.** Two lists are rearranged (`AreRearranged`) under two conditions. One is a permutation of
-- the other. And they have the same sublist of each group, in the same order. It is said of what definitions
-- say: items, with what they hold and where. So two definitions that say the same may stand for one another.
-- So definitions of different names may change places, a definition and the extensions of its own name, and
-- types and the schema.
--
-- `type_meant`, `directive_meant` and `schema_meant` are what `==` compares of what a list means, if it means
-- one. They are of the type of a name, of the directive definition of a name and of the schema definition.
-- `MeanEqualSchemas adopts xs ys` says that any schemas that the two lists mean are equal, wherever their
-- numbers start. `StandFor xs ys b c` says that one builder stands for the first list and the other for the
-- second. It says that both adopt or neither does. `BuildEqualSchemas` and `BuildSameFaults` say what is said
-- of the two answers.
use Rattle.std.specs.Prelude.{◌≡◌, ℕ, Bool, false, List, Option, filter, is_some, option_map}
use Rattle.std.specs.List.Sorted.{IsPermutation}
use Rattle.std.specs.Option.{option_map_or}
use Rattle.graphql_nodes.specs.SameText.{same}
use Rattle.graphql_ast.specs.BareTypeSystem.{bare_directive_definition}
use Rattle.graphql_ast.specs.declared.type_system.DirectiveDefinition.{DirectiveDefinition}
use Rattle.apollo_meaning.specs.Directives.{directive_definitions, directive_of, directive_part, has_text}
use Rattle.apollo_meaning.specs.Items.ListItems.{ListItem, defined_part, defined_schema, extended_part}
use Rattle.apollo_meaning.specs.Items.ListItems.{extended_schema}
use Rattle.apollo_meaning.specs.Items.Parts.{key_of}
use Rattle.apollo_meaning.specs.Order.Places.{folding_order}
use Rattle.apollo_meaning.specs.Schema.Definition.{schema_of}
use Rattle.apollo_meaning.specs.Types.Meaning.{type_of}
use Rattle.apollo_types.specs.BareTypes.{BareSchemaDefinition, BareType, bare_extended_type}
use Rattle.apollo_types.specs.BareTypes.{bare_schema_definition}

-- definitions among which the order counts. They are those of a type's name, the extensions of a type's name,
-- or the directive definitions of a name. Or they are the definitions of the schema, or its extensions
pub data Group : Type 0 where
  -- the definitions of the type of this name
  DefinitionsOf : List ℕ → Group
  -- the extensions of the type of this name
  ExtensionsOf : List ℕ → Group
  -- the definitions of the directive of this name
  DirectiveDefinitionsOf : List ℕ → Group
  -- the definitions of the schema
  SchemaDefinitions : Group
  -- the extensions of the schema
  SchemaExtensions : Group

-- whether an item of a list is in a group
abbrev pub is_in : Group → ListItem → Bool
is_in (DefinitionsOf n) x = option_map_or (λ p. same n (key_of p)) (defined_part x) false
is_in (ExtensionsOf n) x = option_map_or (λ p. same n (key_of p)) (extended_part x) false
is_in (DirectiveDefinitionsOf n) x = option_map_or (has_text n) (directive_part x) false
is_in SchemaDefinitions x = is_some (defined_schema x)
is_in SchemaExtensions x = is_some (extended_schema x)

-- the lists have the same definitions, and those of each group stand in the same order; those of different
-- groups may change places
pub record AreRearranged (xs ys : List ListItem) : Type 0 where
  pub same_definitions : IsPermutation xs ys
  pub in_order : (g : Group) → filter (is_in g) xs ≡ filter (is_in g) ys

-- what `==` compares of the type that a name means, with extensions numbered from `start`
abbrev pub type_meant : ℕ → List ListItem → List ℕ → Option BareType
type_meant start xs n = option_map bare_extended_type (type_of start (folding_order xs) xs n)

-- what `==` compares of the schema definition that a list means, if it means one
abbrev pub schema_meant : ℕ → List ListItem → Option BareSchemaDefinition
schema_meant start xs =
    option_map (λ s. bare_schema_definition s.value) (schema_of start (folding_order xs) xs)

-- what `==` compares of the directive definition that a name means
abbrev pub directive_meant : List ListItem → List ℕ → Option DirectiveDefinition
directive_meant xs n =
    option_map (λ d. bare_directive_definition d.value) (directive_of (directive_definitions xs) n)
