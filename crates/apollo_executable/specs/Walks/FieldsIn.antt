-- The fields that stand in selections, in the order in which a walk would come to them. Each comes before
-- those below it. They are found through inline fragments, but not through spreads. GraphQL specification of
-- October 2021, sections 2.4 to 2.8.
use Rattle.std.specs.Prelude.{Bool, List}
use Rattle.graphql_nodes.specs.NodeView.{NodeView}
use Rattle.apollo_walks.specs.Selections.{occurrences}
use Rattle.apollo_executable.specs.Walks.Plain.{plain}
use Rattle.apollo_executable.specs.declared.selection.Selection.{Selection}
use Rattle.apollo_executable.specs.declared.selection.Field.{Field}

-- where `deep` is false, without those below fields
abbrev pub fields_in : Bool → List Selection → List (NodeView Field)
fields_in deep selections = occurrences (plain deep selections)
