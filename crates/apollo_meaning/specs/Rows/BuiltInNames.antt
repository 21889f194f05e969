-- Names in the table of built-in definitions: GraphQL specification of October 2021, sections 3.5, 3.13 and
-- 4.2.
use Rattle.std.specs.Prelude.{ℕ, List, [], map, ◌≡◌}
use Rattle.std.specs.List.{filter_map}
use Rattle.graphql_nodes.specs.SameText.{same}
use Rattle.graphql_ast.specs.Definitions.{definition_name}
use Rattle.graphql_ast.specs.declared.definition.Definition.{Definition}
use Rattle.apollo_component.specs.FirstOfEach.{first_of_each}
use Rattle.graphql_ast.specs.declared.definition.Definition.TheVariants as ast

-- the names that are defined, in order
abbrev pub defined_names : List Definition → List (List ℕ)
defined_names xs = map (λ n. n.text) (filter_map definition_name xs)

-- the names of the fields or values of a type
abbrev pub component_names : Definition → List (List ℕ)
component_names (ast.ObjectTypeDefinition n) = map (λ f. f.value.name.text) n.value.fields
component_names (ast.EnumTypeDefinition n) = map (λ v. v.value.value.text) n.value.values
component_names _ = []

-- no text stands twice
abbrev pub Distinct : List (List ℕ) → Type 0
Distinct texts = first_of_each same texts ≡ texts
