-- Trees as contracts see them, what is left of each without its locations, and the parts by which they are
-- well-formed.
pub use Rattle.graphql_nodes.specs.Comparing.{bare_node}
pub use Rattle.graphql_nodes.specs.NodeView.{NodeView}
pub use Rattle.graphql_nodes.specs.declared.source.FileId.{FileId}
pub use Rattle.graphql_ast.specs.Bare.{bare_type, bare_value}
pub use Rattle.graphql_ast.specs.BareDocuments.{bare_definition}
pub use Rattle.graphql_ast.specs.BareSelections.{bare_selection}
pub use Rattle.graphql_ast.specs.declared.definition.Definition.{Definition}
pub use Rattle.graphql_ast.specs.declared.selection.Selection.{Selection}
pub use Rattle.graphql_ast.specs.declared.type_reference.Type.{«Type» as TypeReference}
pub use Rattle.graphql_ast.specs.declared.value.Value.{Value}
pub use Rattle.graphql_productions.specs.DefinitionTreeParts.{document_parts}
pub use Rattle.graphql_productions.specs.SelectionParts.{selection_parts}
pub use Rattle.graphql_productions.specs.TreeParts.{node_parts, type_parts, value_parts, wanted_parts}
pub use Rattle.graphql_productions.specs.WellFormed.{IsWellFormed}
