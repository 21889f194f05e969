-- What laws of this crate say of names and nodes, of clones and of equality.
pub use Rattle.graphql_nodes.specs.Clones.{IsExact}
pub use Rattle.graphql_nodes.specs.Comparing.{ComparesBy}
pub use Rattle.graphql_nodes.specs.NameView.{NameView}
pub use Rattle.graphql_nodes.specs.NodeView.{NodeView}
