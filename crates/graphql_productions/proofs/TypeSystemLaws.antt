-- What definitions and extensions of the type system hold is tame.
use Rattle.std.proofs.Common.{refl, true, ◌≡◌}
use Rattle.graphql_nodes.specs.declared.source.FileId.{FileId}
use Rattle.graphql_nodes.specs.declared.type_kind.TypeKind.{TypeKind}
use Rattle.graphql_nodes.specs.declared.type_kind.TypeKind.TheVariants as t
use Rattle.graphql_grammar.specs.declared.fault.FaultKind.TheVariants.{Expected}
use Rattle.graphql_grammar.specs.declared.fault.Item.TheVariants as i
use Rattle.graphql_grammar.specs.declared.kind.Kind.{Kind}
use Rattle.graphql_grammar.specs.declared.kind.Kind.TheVariants as k
use Rattle.graphql_grammar.specs.declared.kind.Names.TheVariants as names
use Rattle.graphql_grammar.specs.Kinds.{either_of, is_name, is_token, names_of, none, only}
use Rattle.graphql_grammar.specs.Pieces.{optional, some}
use Rattle.graphql_grammar.proofs.ViableLaws.{Begins}
use Rattle.graphql_productions.specs.Directives.{arguments, directive_node, directives}
use Rattle.graphql_productions.specs.Nodes.{between, name}
use Rattle.graphql_productions.specs.Operations.{is_operation_type, no_root, typed}
use Rattle.graphql_productions.specs.TypeSystem.{description, description_body, enum_value_definition}
use Rattle.graphql_productions.specs.TypeSystem.{enum_value_name, enum_value_node, enum_values, expecting}
use Rattle.graphql_productions.specs.TypeSystem.{field_definition, field_node, fielded, fields, input_node}
use Rattle.graphql_productions.specs.TypeSystem.{input_value, input_values, is_described_name, is_description}
use Rattle.graphql_productions.specs.TypeSystem.{is_enum_value, names_behind, no_enum_value, parts, root}
use Rattle.graphql_productions.specs.TypeSystem.{root_node, roots}
use Rattle.graphql_productions.proofs.TamePieces.{Disjoint, Leading, Nesting, Steady, begun, headed_tame}
use Rattle.graphql_productions.proofs.TamePieces.{item_tame, led, mapped_tame, optional_tame, separated_tame}
use Rattle.graphql_productions.proofs.TamePieces.{seq_tame, sign_tame, some_tame, word_tame}
use Rattle.graphql_productions.proofs.NodeLaws.{between_tame, braced, list_led, name_tame, node_tame}
use Rattle.graphql_productions.proofs.TypeLaws.{type_tame}
use Rattle.graphql_productions.proofs.DirectiveLaws.{directives_tame}
use Rattle.graphql_productions.proofs.OperationLaws.{operation_type_tame, typed_tame}

pub optional_description_tame : (file : FileId) → Steady (optional (description file))
unfolding description_body
optional_description_tame file =
    optional_tame (led (headed_tame is_description (mapped_tame
    (word_tame is_description (λ _. Expected i.Definition) k.String refl refl)) refl refl refl)) refl

-- ---- input values

pub input_value_tame : (file : FileId) → Nesting (input_value file)
unfolding input_node name
input_value_tame file depth = item_tame is_described_name (expecting i.InputValue)
    (node_tame (mapped_tame (seq_tame (optional_description_tame file)
    (seq_tame (name_tame file) (typed_tame file depth) refl) refl)) refl) refl refl

pub argument_definitions_tame : (file : FileId) → Nesting (input_values file k.LeftParen k.RightParen)
unfolding input_values input_node typed directives directive_node arguments name
argument_definitions_tame file depth =
    mapped_tame (optional_tame (list_led k.LeftParen k.RightParen (expecting i.InputValue) (input_value file)
    (input_value_tame file) refl refl (λ n. refl) (λ n. refl) (λ n. refl) depth) refl)

pub input_fields_led : (file : FileId) → Leading (braced (expecting i.InputValue) (input_value file))
unfolding input_node typed directives directive_node arguments name
input_fields_led file = list_led k.LeftBrace k.RightBrace (expecting i.InputValue) (input_value file)
    (input_value_tame file) refl refl (λ n. refl) (λ n. refl) (λ n. refl)

input_fields_tame : (file : FileId) → Nesting (input_values file k.LeftBrace k.RightBrace)
unfolding input_values
input_fields_tame file depth = mapped_tame (optional_tame (input_fields_led file depth) refl)

-- ---- fields

pub field_definition_tame : (file : FileId) → Nesting (field_definition file)
unfolding field_node input_values directives directive_node arguments name
field_definition_tame file depth = item_tame is_described_name (expecting i.FieldDefinition)
    (node_tame (mapped_tame (seq_tame (optional_description_tame file)
    (seq_tame (name_tame file) (seq_tame (argument_definitions_tame file depth)
    (seq_tame (sign_tame k.Colon refl) (seq_tame (type_tame file depth) (directives_tame file true depth)
    refl) refl) refl) refl) refl)) refl) refl refl

pub fields_led : (file : FileId) → Leading (braced (expecting i.FieldDefinition) (field_definition file))
unfolding field_node directives directive_node arguments name input_values
fields_led file = list_led k.LeftBrace k.RightBrace (expecting i.FieldDefinition) (field_definition file)
    (field_definition_tame file) refl refl (λ n. refl) (λ n. refl) (λ n. refl)

fields_tame : (file : FileId) → Nesting (fields file)
unfolding fields
fields_tame file depth = mapped_tame (optional_tame (fields_led file depth) refl)

-- ---- names with a sign between them

names_tame : (file : FileId) (opening between : Kind) → is_token opening ≡ true → is_token between ≡ true
    → Disjoint (either_of none (only between)) is_name → Steady (names_behind file opening between)
unfolding names_behind name
names_tame file opening between o b far =
    mapped_tame (optional_tame
    (led (mapped_tame (seq_tame (sign_tame opening o) (separated_tame between (name_tame file) b refl refl
    far) refl))) refl)

pub implementing_tame : (file : FileId) → Steady (names_behind file k.Implements k.Ampersand)
implementing_tame file = names_tame file k.Implements k.Ampersand refl refl refl

-- ---- enum values

enum_value_name_tame : (file : FileId) → Steady (enum_value_name file)
unfolding enum_value_name
enum_value_name_tame file = mapped_tame (word_tame (names_of names.EnumValue) no_enum_value k.Name refl refl)

pub enum_value_tame : (file : FileId) → Nesting (enum_value_definition file)
unfolding enum_value_node enum_value_name directives directive_node arguments name
enum_value_tame file depth =
    item_tame is_enum_value no_enum_value (node_tame (mapped_tame (seq_tame (optional_description_tame file)
    (seq_tame (enum_value_name_tame file) (directives_tame file true depth) refl) refl)) refl) refl refl

pub enum_values_led : (file : FileId) → Leading (braced no_enum_value (enum_value_definition file))
unfolding enum_value_node enum_value_name directives directive_node arguments name
enum_values_led file = list_led k.LeftBrace k.RightBrace no_enum_value (enum_value_definition file)
    (enum_value_tame file) refl refl (λ n. refl) (λ n. refl) (λ n. refl)

enum_values_tame : (file : FileId) → Nesting (enum_values file)
unfolding enum_values
enum_values_tame file depth = mapped_tame (optional_tame (enum_values_led file depth) refl)

-- ---- roots

pub root_tame : (file : FileId) → Steady (root file)
unfolding root_node name
root_tame file = item_tame is_operation_type no_root
    (node_tame (mapped_tame (seq_tame operation_type_tame (seq_tame (sign_tame k.Colon refl) (name_tame file)
    refl) refl)) refl) refl refl

pub roots_led : (file : FileId) → Leading (roots file)
unfolding root_node name
roots_led file = list_led k.LeftBrace k.RightBrace no_root (λ _. root file) (λ _. root_tame file) refl refl
    (λ n. refl) (λ n. refl) (λ n. refl)

pub roots_tame : (file : FileId) → Nesting (roots file)
unfolding root_node name
roots_tame file depth =
    let t : Steady (between k.LeftBrace k.RightBrace no_root (some (root file))) = between_tame k.LeftBrace
    k.RightBrace no_root (some_tame (root_tame file) refl refl) refl refl refl in
    let b : Begins (between k.LeftBrace k.RightBrace no_root (some (root file)))
    (between k.LeftBrace k.RightBrace no_root (some (root file))) = t.goes in
    begun (roots_led file depth) b.value b.words b.some

-- ---- what stands behind a name

fielded_tame : (file : FileId) → Nesting (fielded file)
unfolding fielded names_behind fields directives directive_node arguments name
fielded_tame file depth =
    mapped_tame (seq_tame (implementing_tame file) (seq_tame (directives_tame file true depth)
    (fields_tame file depth) refl) refl)

pub parts_tame : (file : FileId) (kind : TypeKind) → Nesting (parts file kind)
unfolding parts names_behind enum_values input_values directives directive_node arguments name
parts_tame file t.Scalar depth = mapped_tame (directives_tame file true depth)
parts_tame file t.Object depth = fielded_tame file depth
parts_tame file t.Interface depth = fielded_tame file depth
parts_tame file t.Union depth = mapped_tame (seq_tame (directives_tame file true depth)
    (names_tame file k.Equals k.Pipe refl refl refl) refl)
parts_tame file t.Enum depth =
    mapped_tame (seq_tame (directives_tame file true depth) (enum_values_tame file depth) refl)
parts_tame file t.InputObject depth =
    mapped_tame (seq_tame (directives_tame file true depth) (input_fields_tame file depth) refl)
