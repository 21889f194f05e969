-- Lists of definitions that could have come of texts: GraphQL specification of October 2021, sections 2 and
-- 3.
use Rattle.std.specs.Prelude.{List}
use Rattle.std.specs.List.{AllByRecursion}
use Rattle.graphql_ast.specs.declared.definition.Definition.{Definition}
use Rattle.graphql_productions.specs.DefinitionTreeParts.{definition_parts}
use Rattle.graphql_productions.specs.WellFormed.{IsWellFormed}
use Rattle.apollo_meaning.specs.Items.ListItems.{Added}

-- a definition that could have come of a text
abbrev pub IsWellFormedDefinition : Definition → Type 0
IsWellFormedDefinition d = IsWellFormed (definition_parts d)

-- each definition of a list that was added could have come of a text
abbrev pub AreWellFormed : List Added → Type 0
AreWellFormed xs = AllByRecursion (λ a. IsWellFormedDefinition a.1) xs
