-- Definitions as a builder takes them: GraphQL specification of October 2021, section 2.2.
use Rattle.std.specs.Prelude.{Bool, List, map}
use Rattle.graphql_ast.specs.declared.definition.Definition.{Definition}

-- a definition, and whether an option of its builder was set when it was added
abbrev pub AddedDefinition : Type 0
AddedDefinition = Bool × Definition

-- definitions that were all added with the option set, or all without
abbrev pub added_definitions : Bool → List Definition → List AddedDefinition
added_definitions flag ds = map (λ d. (flag, d)) ds
