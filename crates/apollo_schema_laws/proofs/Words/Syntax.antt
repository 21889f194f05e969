-- Words of names, nodes and syntax trees, and of the built-in definitions.
pub use Rattle.graphql_nodes.specs.BuiltIn.{is_built_in}
pub use Rattle.graphql_nodes.specs.Comparing.{bare_name, entries_by_text, members_by_text}
pub use Rattle.graphql_nodes.specs.NameView.{NameView}
pub use Rattle.graphql_nodes.specs.NodeView.{NodeView}
pub use Rattle.graphql_nodes.specs.OperationTexts.{default_type_text, operation_text}
pub use Rattle.graphql_nodes.specs.SameText.{by_text, same, same_text}
pub use Rattle.graphql_nodes.specs.Tables.{HasUniqueKeys, keys_of, lookup, values_of}
pub use Rattle.graphql_nodes.specs.declared.operation_type.OperationType.{OperationType}
pub use Rattle.graphql_nodes.specs.declared.operation_type.OperationType.TheVariants.{Mutation, Query}
pub use Rattle.graphql_nodes.specs.declared.operation_type.OperationType.TheVariants.{Subscription}
pub use Rattle.graphql_nodes.specs.declared.source.SourceSpan.{SourceSpan}
pub use Rattle.graphql_nodes.specs.declared.type_kind.TypeKind.{TypeKind}
pub use Rattle.graphql_nodes.proofs.Texts.{same-is, same-true, same-refl}
pub use Rattle.graphql_ast.specs.Bare.{bare_directive}
pub use Rattle.graphql_ast.specs.BareTypeSystem.{bare_directive_definition, bare_enum_value_definition}
pub use Rattle.graphql_ast.specs.BareTypeSystem.{bare_field_definition, bare_input_value_definition}
pub use Rattle.graphql_ast.specs.Declarations.{schema_definition, schema_extension, type_definition}
pub use Rattle.graphql_ast.specs.Declarations.{type_extension}
pub use Rattle.graphql_ast.specs.Parts.{no_parts}
pub use Rattle.graphql_ast.specs.declared.definition.Definition.{Definition}
pub use Rattle.graphql_ast.specs.declared.parts.Part.{Part}
pub use Rattle.graphql_ast.specs.declared.parts.Parts.{Parts}
pub use Rattle.graphql_ast.specs.declared.directive.Directive.{Directive}
pub use Rattle.graphql_ast.specs.declared.type_system.DirectiveDefinition.{DirectiveDefinition}
unfoldable pub use Rattle.apollo_meaning.specs.BuiltInTable.{built_in_definitions}
