-- The text of definitions and extensions of the type system: GraphQL specification of October 2021, section
-- 3.
use Rattle.std.specs.Prelude.{ℕ, Bool, List, [], ◌++◌, Option, None, Some, is_some, if◌then◌else◌, codes}
use Rattle.std.specs.List.{list_any}
use Rattle.graphql_nodes.specs.LocationTexts.{location_text}
use Rattle.graphql_nodes.specs.NameView.{NameView}
use Rattle.graphql_nodes.specs.NodeView.{NodeView}
use Rattle.graphql_nodes.specs.OperationTexts.{operation_text}
use Rattle.graphql_nodes.specs.declared.operation_type.OperationType.{OperationType}
use Rattle.graphql_nodes.specs.declared.type_kind.TypeKind.{TypeKind}
use Rattle.graphql_nodes.specs.declared.type_kind.TypeKind.TheVariants as t
use Rattle.graphql_ast.specs.declared.parts.Parts.{Parts}
use Rattle.graphql_ast.specs.declared.type_system.DirectiveDefinition.{DirectiveDefinition}
use Rattle.graphql_ast.specs.declared.type_system.EnumValueDefinition.{EnumValueDefinition}
use Rattle.graphql_ast.specs.declared.type_system.FieldDefinition.{FieldDefinition}
use Rattle.graphql_ast.specs.declared.type_system.InputValueDefinition.{InputValueDefinition}
use Rattle.graphql_printing.specs.Descriptions.{description_text}
use Rattle.graphql_printing.specs.Layout.{braces, enclosed, line_end, on_lines, separated}
use Rattle.graphql_printing.specs.Operations.{default_text}
use Rattle.graphql_printing.specs.Texts.{directives_text, label_text, type_text}

-- a description on lines of its own above what stands further in by so many blanks, or nothing where there is
-- none: section 3.2
abbrev pub described : ℕ → Option NameView → List ℕ
described indent None = []
described indent (Some text) = description_text indent text.text ++ line_end indent

-- an argument or input field that is defined, further in by so many blanks, as `a: Int = 1 @b`: sections
-- 3.6.1 and 3.10
abbrev pub input_value_further_in : ℕ → InputValueDefinition → List ℕ
input_value_further_in indent input =
    described indent input.description ++ label_text input.name ++ type_text input.ty.value
    ++ default_text input.default_value ++ directives_text input.directives.0

-- the same of a node
abbrev pub input_value_text : ℕ → NodeView InputValueDefinition → List ℕ
input_value_text indent input = input_value_further_in indent input.value

-- whether an argument that is defined takes several lines: it has a description
abbrev pub takes_lines : NodeView InputValueDefinition → Bool
takes_lines input = is_some input.value.description

-- arguments that are defined, as `(a: Int, b: Int)`, or one a line where one of them takes several, or
-- nothing where there is none: section 3.6.1
abbrev pub argument_definitions_text : ℕ → List (NodeView InputValueDefinition) → List ℕ
argument_definitions_text indent inputs =
    if list_any takes_lines inputs
    then on_lines (codes "(") (codes ")") indent input_value_text inputs
    else enclosed (codes "(") (codes ", ") (codes ")") (input_value_text indent) inputs

-- a field that is defined, further in by so many blanks, as `a(b: Int): Int @c`: section 3.6
abbrev pub field_further_in : ℕ → FieldDefinition → List ℕ
field_further_in indent field =
    described indent field.description ++ field.name.text ++ argument_definitions_text indent field.arguments
    ++ codes ": " ++ type_text field.ty ++ directives_text field.directives.0

-- the same of a node
abbrev pub field_definition_text : ℕ → NodeView FieldDefinition → List ℕ
field_definition_text indent field = field_further_in indent field.value

-- an enum value that is defined, further in by so many blanks, as `A @b`: section 3.9
abbrev pub enum_value_further_in : ℕ → EnumValueDefinition → List ℕ
enum_value_further_in indent value =
    described indent value.description ++ value.value.text ++ directives_text value.directives.0

-- the same of a node
abbrev pub enum_value_text : ℕ → NodeView EnumValueDefinition → List ℕ
enum_value_text indent value = enum_value_further_in indent value.value

-- a root of the schema, as `query: Q`: section 3.3
abbrev pub root_text : ℕ → NodeView (OperationType × NameView) → List ℕ
root_text indent root = operation_text root.value.0 ++ codes ": " ++ root.value.1.text

-- a name by itself
abbrev pub name_text : NameView → List ℕ
name_text name = name.text

-- the interfaces of a type, as ` implements A & B`, or nothing where there is none: section 3.6
abbrev pub interfaces_text : List NameView → List ℕ
interfaces_text names = enclosed (codes " implements ") (codes " & ") [] name_text names

-- the members of a union, as ` = A | B`, or nothing where there is none: section 3.8
abbrev pub members_text : List NameView → List ℕ
members_text names = enclosed (codes " = ") (codes " | ") [] name_text names

-- the word of a kind of types
abbrev pub keyword_text : TypeKind → List ℕ
keyword_text t.Scalar = codes "scalar"
keyword_text t.Object = codes "type"
keyword_text t.Interface = codes "interface"
keyword_text t.Union = codes "union"
keyword_text t.Enum = codes "enum"
keyword_text t.InputObject = codes "input"

-- interfaces, directives and fields
abbrev pub fielded_text : Parts → List ℕ
fielded_text parts =
    interfaces_text parts.names ++ directives_text parts.directives
    ++ braces (codes " {") 0 field_definition_text parts.fields

-- what a type of this kind has behind its name: sections 3.5 to 3.10
abbrev pub behind_name : TypeKind → Parts → List ℕ
behind_name t.Scalar parts = directives_text parts.directives
behind_name t.Object parts = fielded_text parts
behind_name t.Interface parts = fielded_text parts
behind_name t.Union parts = directives_text parts.directives ++ members_text parts.names
behind_name t.Enum parts =
    directives_text parts.directives ++ braces (codes " {") 0 enum_value_text parts.values
behind_name t.InputObject parts =
    directives_text parts.directives ++ braces (codes " {") 0 input_value_text parts.input_fields

-- a type of this kind, defined or extended: section 3.4
abbrev pub type_shape : TypeKind → NameView → Parts → List ℕ
type_shape kind name parts = keyword_text kind ++ codes " " ++ name.text ++ behind_name kind parts

-- the schema, defined or extended: section 3.3
abbrev pub schema_shape : Parts → List ℕ
schema_shape parts =
    codes "schema" ++ directives_text parts.directives ++ braces (codes " {") 0 root_text parts.roots

-- that a directive may be repeated
abbrev pub repeatable_text : Bool → List ℕ
repeatable_text is = if is then codes " repeatable" else []

-- a directive that is defined, as `directive @a(b: Int) repeatable on FIELD | QUERY`: section 3.13
abbrev pub directive_shape : DirectiveDefinition → List ℕ
directive_shape directive =
    codes "directive @" ++ directive.name.text ++ argument_definitions_text 0 directive.arguments
    ++ repeatable_text directive.repeatable ++ codes " on "
    ++ separated (codes " | ") location_text directive.locations
