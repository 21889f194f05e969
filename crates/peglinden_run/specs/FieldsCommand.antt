-- What the command `fields` writes: GraphQL specification of October 2021, sections 2.3 to 2.8.
use Rattle.std.specs.Prelude.{ℕ, List, [], ◌++◌, Option, None, Some, codes, decimal}
use Rattle.std.specs.List.{flat_map}
use Rattle.graphql_nodes.specs.NameView.{NameView}
use Rattle.graphql_nodes.specs.NodeView.{NodeView}
use Rattle.graphql_nodes.specs.OperationTexts.{operation_text}
use Rattle.apollo_coordinate.specs.CoordinateText.{attribute_coordinate_text}
use Rattle.apollo_executable.specs.Operations.{all_operations}
use Rattle.apollo_executable.specs.declared.document.ExecutableDocument.{ExecutableDocument}
use Rattle.apollo_executable.specs.declared.operation.Operation.{Operation}
use Rattle.apollo_field_usage.specs.Reached.{reached}
use Rattle.apollo_field_usage.specs.Usage.{usage}
use Rattle.apollo_field_usage.specs.declared.counting.FieldUsage.{FieldUsage}

-- a name behind a blank, or nothing
abbrev pub name_behind : Option NameView → List ℕ
name_behind None = []
name_behind (Some name) = codes " " ++ name.text

-- the line that names an operation
abbrev pub operation_line : Operation → List ℕ
operation_line operation = operation_text operation.operation_type ++ name_behind operation.name ++ codes "\n"

-- the line of a field: its coordinate, and how often it stands there
abbrev pub usage_line : FieldUsage → List ℕ
usage_line field = codes "  " ++ attribute_coordinate_text field.coordinate ++ codes " "
    ++ decimal field.count ++ codes "\n"

-- the lines of an operation: that which names it, and those of the fields that it reaches, in order of
-- first reach
abbrev pub operation_fields : ExecutableDocument → Operation → List ℕ
operation_fields document operation =
    operation_line operation ++ flat_map usage_line (usage (reached document operation.selection_set))

-- the lines of an operation at its node
abbrev pub node_fields : ExecutableDocument → NodeView Operation → List ℕ
node_fields document operation = operation_fields document operation.value

-- the lines of all operations, the anonymous one first
abbrev pub fields_text : ExecutableDocument → List ℕ
fields_text document = flat_map (node_fields document) (all_operations document.operations)
