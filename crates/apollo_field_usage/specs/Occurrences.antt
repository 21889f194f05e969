-- Fields where they stand: GraphQL specification of October 2021, section 2.5.
use Rattle.graphql_nodes.specs.NameView.{NameView}
use Rattle.graphql_nodes.specs.NodeView.{NodeView}
use Rattle.apollo_executable.specs.declared.selection.Field.{Field}

-- a field, and the type of the set in which it stands
pub record Occurrence : Type 0 where
  pub ty : NameView
  pub field : NodeView Field
