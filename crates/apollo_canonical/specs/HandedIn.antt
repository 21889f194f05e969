-- Lists of definitions whose operations and fragments could have come of a text: GraphQL specification of
-- October 2021, sections 2.2, 2.3 and 2.8.
use Rattle.std.specs.Prelude.{List}
use Rattle.std.specs.List.{AllByRecursion}
use Rattle.graphql_ast.specs.declared.definition.Definition.TheVariants as d
use Rattle.apollo_document.specs.AddedDefinitions.{DocumentItem, fragments, operations}
use Rattle.apollo_canonical.specs.WellFormedLists.{IsWellFormedDefinition}

-- each operation and each fragment of a list could have come of a text
pub record HasWellFormedExecutables (xs : List DocumentItem) : Type 0 where
  pub each_operation : AllByRecursion (λ n. IsWellFormedDefinition (d.OperationDefinition n)) (operations xs)
  pub each_fragment : AllByRecursion (λ n. IsWellFormedDefinition (d.FragmentDefinition n)) (fragments xs)
