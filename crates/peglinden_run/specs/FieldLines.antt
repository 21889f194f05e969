-- What the command `fields` writes in JSON: GraphQL specification of October 2021, sections 2.3 to 2.8.
use Rattle.std.specs.Prelude.{ℕ, List, [], ◌∷◌, ◌++◌, Option, None, Some, codes, option_map, option_and_then}
use Rattle.std.specs.List.{flat_map}
use Rattle.graphql_nodes.specs.NameView.{NameView}
use Rattle.graphql_nodes.specs.NodeView.{NodeView}
use Rattle.graphql_nodes.specs.OperationTexts.{operation_text}
use Rattle.graphql_nodes.specs.Sources.{Files}
use Rattle.graphql_nodes.specs.declared.source.SourceSpan.{SourceSpan}
use Rattle.graphql_ast.specs.declared.type_system.FieldDefinition.{FieldDefinition}
use Rattle.graphql_printing.specs.Texts.{type_text}
use Rattle.apollo_component.specs.declared.component.Component.{Component}
use Rattle.apollo_coordinate.specs.CoordinateText.{attribute_coordinate_text}
use Rattle.apollo_executable.specs.Operations.{all_operations}
use Rattle.apollo_executable.specs.declared.document.ExecutableDocument.{ExecutableDocument}
use Rattle.apollo_executable.specs.declared.operation.Operation.{Operation}
use Rattle.apollo_field_usage.specs.Reached.{reached}
use Rattle.apollo_field_usage.specs.Usage.{usage}
use Rattle.apollo_field_usage.specs.declared.counting.FieldUsage.{FieldUsage}
use Rattle.apollo_reporting.specs.FaultData.{Member, definition_data, number_data, text_data}
use Rattle.apollo_reporting.specs.JsonObjects.{placed_members}
use Rattle.apollo_schema.specs.Lookups.{field_at}
use Rattle.apollo_schema.specs.declared.schema.Schema.{Schema}
use Rattle.peglinden_run.specs.Lines.{object_line}

-- the definition of a field that is reached, where the schema has it
abbrev pub definition_at : Schema → FieldUsage → Option (NodeView FieldDefinition)
definition_at schema field = option_map (λ (c : Component FieldDefinition). c.node)
    (field_at schema field.coordinate.ty field.coordinate.attribute)

-- the text of its type
abbrev pub definition_type : Option (NodeView FieldDefinition) → Option (List ℕ)
definition_type definition = option_map (λ (n : NodeView FieldDefinition). type_text n.value.ty) definition

-- where it is defined
abbrev pub definition_location : Option (NodeView FieldDefinition) → Option SourceSpan
definition_location definition = option_and_then (λ (n : NodeView FieldDefinition). n.location) definition

-- the name of an operation, if it has one
abbrev pub operation_name : Operation → Option (List ℕ)
operation_name operation = option_map (λ (n : NameView). n.text) operation.name

-- what is said of a field that an operation reaches: the operation, the coordinate, the type, and how often
-- it stands there
abbrev pub usage_members : Operation → List ℕ → Option (List ℕ) → ℕ → List Member
usage_members operation coordinate ty count = (
  codes "operation",
  definition_data (operation_text operation.operation_type) (operation_name operation),
)
    ∷ (codes "coordinate", text_data (Some coordinate))
    ∷ (codes "field_type", text_data ty)
    ∷ (codes "count", number_data (Some count)) ∷ []

-- the line of that, with where the field is defined
abbrev pub usage_line : Files → Operation → List ℕ → Option (List ℕ) → ℕ → Option SourceSpan → List ℕ
usage_line files operation coordinate ty count location = object_line (codes "field")
    (usage_members operation coordinate ty count ++ placed_members location files)

-- the line of such a field
abbrev pub field_line : Files → Schema → Operation → FieldUsage → List ℕ
field_line files schema operation field =
    usage_line files operation (attribute_coordinate_text field.coordinate)
    (definition_type (definition_at schema field)) field.count
    (definition_location (definition_at schema field))

-- the lines of an operation: those of the fields that it reaches, in order of first reach
abbrev pub operation_lines : Files → Schema → ExecutableDocument → Operation → List ℕ
operation_lines files schema document operation =
    flat_map (field_line files schema operation) (usage (reached document operation.selection_set))

-- the lines of an operation at its node
abbrev pub node_lines : Files → Schema → ExecutableDocument → NodeView Operation → List ℕ
node_lines files schema document operation = operation_lines files schema document operation.value

-- the lines of all operations, the anonymous one first
abbrev pub field_lines : Files → Schema → ExecutableDocument → List ℕ
field_lines files schema document =
    flat_map (node_lines files schema document) (all_operations document.operations)
