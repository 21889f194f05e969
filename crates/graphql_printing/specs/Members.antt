-- The text of what stands between the braces of a type, by itself: GraphQL specification of October 2021,
-- sections 3.6, 3.6.1, 3.9 and 3.10.
use Rattle.std.specs.Prelude.{ℕ, List}
use Rattle.graphql_ast.specs.declared.type_system.EnumValueDefinition.{EnumValueDefinition}
use Rattle.graphql_ast.specs.declared.type_system.FieldDefinition.{FieldDefinition}
use Rattle.graphql_ast.specs.declared.type_system.InputValueDefinition.{InputValueDefinition}
use Rattle.graphql_printing.specs.TypeSystem.{enum_value_further_in, field_further_in, input_value_further_in}

-- a field that is defined, as in its type, but not further in
abbrev pub field_text : FieldDefinition → List ℕ
field_text field = field_further_in 0 field

-- an argument or input field that is defined, as where it stands, but not further in
abbrev pub input_value_text : InputValueDefinition → List ℕ
input_value_text input = input_value_further_in 0 input

-- an enum value that is defined, as in its type, but not further in
abbrev pub enum_value_text : EnumValueDefinition → List ℕ
enum_value_text value = enum_value_further_in 0 value
