-- The text of types and definitions in the notation: docs/NOTATION.md.
use Rattle.std.specs.Prelude.{ℕ, List, [], ◌++◌, ◌+◌, Bool, true, false, codes}
use Rattle.std.specs.List.{flat_map}
use Rattle.graphql_nodes.specs.NameView.{NameView}
use Rattle.graphql_nodes.specs.NodeView.{NodeView}
use Rattle.graphql_nodes.specs.LocationTexts.{location_text}
use Rattle.graphql_nodes.specs.OperationTexts.{operation_text}
use Rattle.graphql_nodes.specs.declared.directive_location.DirectiveLocation.{DirectiveLocation}
use Rattle.graphql_nodes.specs.declared.operation_type.OperationType.{OperationType}
use Rattle.graphql_nodes.specs.declared.type_kind.TypeKind.{TypeKind}
use Rattle.graphql_nodes.specs.declared.type_kind.TypeKind.TheVariants as k
use Rattle.graphql_ast.specs.Declarations.{Declaration, OfType, OfSchema, OfDirective, OfOperation}
use Rattle.graphql_ast.specs.Declarations.{OfFragment, declaration_of}
use Rattle.graphql_ast.specs.declared.type_reference.Type.{«Type» as TypeReference, fold-Type}
use Rattle.graphql_ast.specs.declared.type_reference.Type.TheOpen.{Type-F}
use Rattle.graphql_ast.specs.declared.directive.Directive.{Directive}
use Rattle.graphql_ast.specs.declared.type_system.DirectiveDefinition.{DirectiveDefinition}
use Rattle.graphql_ast.specs.declared.type_system.EnumValueDefinition.{EnumValueDefinition}
use Rattle.graphql_ast.specs.declared.type_system.FieldDefinition.{FieldDefinition}
use Rattle.graphql_ast.specs.declared.type_system.InputValueDefinition.{InputValueDefinition}
use Rattle.graphql_ast.specs.declared.operation.OperationDefinition.{OperationDefinition}
use Rattle.graphql_ast.specs.declared.operation.FragmentDefinition.{FragmentDefinition}
use Rattle.graphql_ast.specs.declared.definition.Definition.{Definition}
use Rattle.graphql_ast.specs.declared.parts.Parts.{Parts}
use Rattle.bench_notation.specs.SelectionText.{selections_text}
use Rattle.bench_notation.specs.declared.kind_words.Role.{Role}
use Rattle.bench_notation.specs.HeaderWords.{role_of, role_word, schema_word, kind_word, name_word}

-- the text at one level, where what is inside a list has given its own
abbrev pub type_step : Type-F (List ℕ) → List ℕ
type_step (Type-F.Named name) = name.text
type_step (Type-F.NonNullNamed name) = name.text ++ codes "!"
type_step (Type-F.List inner) = codes "[" ++ inner ++ codes "]"
type_step (Type-F.NonNullList inner) = codes "[" ++ inner ++ codes "]!"

-- a type, as `[[Int!]]!`
abbrev pub type_text : TypeReference → List ℕ
type_text = fold-Type (List ℕ) type_step

-- how many brackets are opened at one level, where what is inside a list has given its own
abbrev pub brackets_step : Type-F ℕ → ℕ
brackets_step (Type-F.Named name) = 0
brackets_step (Type-F.NonNullNamed name) = 0
brackets_step (Type-F.List inner) = inner + 1
brackets_step (Type-F.NonNullList inner) = inner + 1

-- how many brackets a type opens
abbrev pub opened_brackets : TypeReference → ℕ
opened_brackets = fold-Type ℕ brackets_step

-- a word with its space, another word, and the end of the line
abbrev pub word_line : List ℕ → List ℕ → List ℕ
word_line first word = first ++ word ++ codes "\n"

-- a word with its space, a name, and the end of the line
abbrev pub named_line : List ℕ → NameView → List ℕ
named_line word name = word_line word name.text

-- a word with its space, a name, its type, and the end of the line
abbrev pub typed_line : List ℕ → NameView → TypeReference → List ℕ
typed_line word name ty = word ++ name.text ++ codes " " ++ type_text ty ++ codes "\n"

-- each directive on a line of its own, after this word
abbrev pub directives_text : List ℕ → List (NodeView Directive) → List ℕ
directives_text word directives =
    flat_map (λ (directive : NodeView Directive). named_line word directive.value.name) directives

-- each name on a line of its own, after this word
abbrev pub names_text : List ℕ → List NameView → List ℕ
names_text word names = flat_map (λ (name : NameView). named_line word name) names

-- each argument on a line of its own
abbrev pub arguments_text : List (NodeView InputValueDefinition) → List ℕ
arguments_text arguments =
    flat_map (λ (argument : NodeView InputValueDefinition).
    typed_line (codes "arg ") argument.value.name argument.value.ty.value) arguments

-- a field, then its directives
abbrev pub field_line_text : NameView → TypeReference → List (NodeView Directive) → List ℕ
field_line_text name ty directives =
    typed_line (codes "field ") name ty ++ directives_text (codes "field@ ") directives

-- a field, then its directives, then its arguments
abbrev pub field_definition_text : NodeView FieldDefinition → List ℕ
field_definition_text field = field_line_text field.value.name field.value.ty field.value.directives.0
    ++ arguments_text field.value.arguments

-- a field of an input object, then its directives
abbrev pub input_field_text : NodeView InputValueDefinition → List ℕ
input_field_text field = field_line_text field.value.name field.value.ty.value field.value.directives.0

-- the fields of an input object, each with its directives
abbrev pub input_fields_text : List (NodeView InputValueDefinition) → List ℕ
input_fields_text fields = flat_map input_field_text fields

-- each value of an enum on a line of its own
abbrev pub values_text : List (NodeView EnumValueDefinition) → List ℕ
values_text values =
    flat_map (λ (value : NodeView EnumValueDefinition). named_line (codes "value ") value.value.value) values

-- the header of a type, then the directives of the type
abbrev pub type_head_text : Role → TypeKind → NameView → List (NodeView Directive) → List ℕ
type_head_text role kind name directives =
    role_word role ++ codes " " ++ named_line (kind_word kind ++ codes " ") name
    ++ directives_text (codes "@ ") directives

-- interfaces, then fields
abbrev pub fields_text : List NameView → List (NodeView FieldDefinition) → List ℕ
fields_text interfaces fields =
    names_text (codes "implements ") interfaces ++ flat_map field_definition_text fields

-- the line that says that a directive may be repeated
abbrev pub repeatable_text : Bool → List ℕ
repeatable_text true = codes "repeatable\n"
repeatable_text false = []

-- each location of a directive on a line of its own
abbrev pub locations_text : List DirectiveLocation → List ℕ
locations_text locations =
    flat_map (λ (location : DirectiveLocation). word_line (codes "on ") (location_text location)) locations

-- a root: the kind of its operations, and its name
abbrev pub root_text : NodeView (OperationType × NameView) → List ℕ
root_text root = codes "root " ++ operation_text root.value.0 ++ named_line (codes " ") root.value.1

-- each root on a line of its own
abbrev pub roots_text : List (NodeView (OperationType × NameView)) → List ℕ
roots_text roots = flat_map root_text roots

-- the header of the schema, then its directives
abbrev pub schema_head_text : Role → List (NodeView Directive) → List ℕ
schema_head_text role directives = schema_word role ++ codes "\n" ++ directives_text (codes "@ ") directives

-- the header of an operation, then its directives
abbrev pub operation_head_text : OperationDefinition → List ℕ
operation_head_text item = codes "operation " ++ operation_text item.operation_type ++ codes " "
    ++ name_word item.name ++ codes "\n" ++ directives_text (codes "@ ") item.directives.0

-- the header of a fragment, then its directives
abbrev pub fragment_head_text : FragmentDefinition → List ℕ
fragment_head_text item = codes "fragment " ++ item.name.text ++ named_line (codes " ") item.type_condition
    ++ directives_text (codes "@ ") item.directives.0

-- what a directive's definition has: its arguments, then where it may be applied
abbrev pub directive_body_text : DirectiveDefinition → List ℕ
directive_body_text item =
    arguments_text item.arguments ++ repeatable_text item.repeatable ++ locations_text item.locations

-- what a type of this kind has besides directives
abbrev pub parts_text : TypeKind → Parts → List ℕ
parts_text k.Scalar parts = []
parts_text k.Object parts = fields_text parts.names parts.fields
parts_text k.Interface parts = fields_text parts.names parts.fields
parts_text k.Union parts = names_text (codes "member ") parts.names
parts_text k.Enum parts = values_text parts.values
parts_text k.InputObject parts = input_fields_text parts.input_fields

-- the header of a definition or extension, then its directives
abbrev pub header_text : Declaration → List ℕ
header_text (OfType t) = type_head_text (role_of t.is_extension) t.kind t.name t.parts.directives
header_text (OfSchema s) = schema_head_text (role_of s.is_extension) s.parts.directives
header_text (OfDirective n) = named_line (codes "directive ") n.value.name
header_text (OfOperation n) = operation_head_text n.value
header_text (OfFragment n) = fragment_head_text n.value

-- the lines below the header of a definition or extension
abbrev pub body_text : Declaration → List ℕ
body_text (OfType t) = parts_text t.kind t.parts
body_text (OfSchema s) = roots_text s.parts.roots
body_text (OfDirective n) = directive_body_text n.value
body_text (OfOperation n) = selections_text 0 n.value.selection_set
body_text (OfFragment n) = selections_text 0 n.value.selection_set

-- a definition or extension: its header, then the lines below it
abbrev pub printed_definition : Definition → List ℕ
printed_definition definition =
    header_text (declaration_of definition) ++ body_text (declaration_of definition)

-- definitions, in order
abbrev pub printed_definitions : List Definition → List ℕ
printed_definitions definitions = flat_map printed_definition definitions
