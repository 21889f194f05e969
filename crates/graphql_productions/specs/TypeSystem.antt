-- The type system: GraphQL specification of October 2021, section 3.
use Rattle.std.specs.Prelude.{ℕ, List, [], ◌∷◌, Bool, true, false, not, ◌||◌, ◌&&◌, Option, None, Some}
use Rattle.std.specs.Prelude.{if◌then◌else◌}
use Rattle.graphql_nodes.specs.declared.directive_location.DirectiveLocation.{DirectiveLocation}
use Rattle.graphql_nodes.specs.declared.operation_type.OperationType.{OperationType}
use Rattle.graphql_nodes.specs.declared.source.FileId.{FileId}
use Rattle.graphql_nodes.specs.declared.source.SourceSpan.{SourceSpan}
use Rattle.graphql_nodes.specs.declared.type_kind.TypeKind.{TypeKind}
use Rattle.graphql_nodes.specs.declared.type_kind.TypeKind.TheVariants as t
use Rattle.graphql_nodes.specs.NameView.{NameView}
use Rattle.graphql_nodes.specs.NodeView.{NodeView}
use Rattle.graphql_ast.specs.Declarations.{schema_definition, schema_extension, type_definition}
use Rattle.graphql_ast.specs.Declarations.{type_extension}
use Rattle.graphql_ast.specs.Parts.{directed}
use Rattle.graphql_ast.specs.declared.definition.Definition.{Definition}
use Rattle.graphql_ast.specs.declared.definition.Definition.TheVariants as d
use Rattle.graphql_ast.specs.declared.directive.DirectiveList.{DirectiveList}
use Rattle.graphql_ast.specs.declared.parts.Parts.{Parts}
use Rattle.graphql_ast.specs.declared.type_reference.Type.{«Type» as TypeReference}
use Rattle.graphql_ast.specs.declared.type_system.EnumValueDefinition.{EnumValueDefinition}
use Rattle.graphql_ast.specs.declared.type_system.FieldDefinition.{FieldDefinition}
use Rattle.graphql_ast.specs.declared.type_system.InputValueDefinition.{InputValueDefinition}
use Rattle.graphql_ast.specs.declared.value.Value.{Value}
use Rattle.graphql_tokens.specs.BlockStringValues.{block_string_value}
use Rattle.graphql_tokens.specs.StringValues.{string_value}
use Rattle.graphql_grammar.specs.declared.fault.FaultKind.TheVariants.{DescriptionNotAllowed, Expected}
use Rattle.graphql_grammar.specs.declared.fault.FaultKind.TheVariants.{ReservedName, UnknownDirectiveLocation}
use Rattle.graphql_grammar.specs.declared.fault.Item.{Item}
use Rattle.graphql_grammar.specs.declared.fault.Item.TheVariants as i
use Rattle.graphql_grammar.specs.declared.kind.Kind.{Kind}
use Rattle.graphql_grammar.specs.declared.kind.Kind.TheVariants as k
use Rattle.graphql_grammar.specs.declared.kind.Names.TheVariants as names
use Rattle.graphql_grammar.specs.Kinds.{Kinds, is_name, names_of, only}
use Rattle.graphql_grammar.specs.Pieces.{Piece, Wrong, branch, choose, filtered, headed, item, located}
use Rattle.graphql_grammar.specs.Pieces.{mapped, nothing, optional, picked, separated, seq, sign, some, word}
use Rattle.graphql_grammar.specs.Words.{WordView, begins}
use Rattle.graphql_productions.specs.Directives.{directives}
use Rattle.graphql_productions.specs.Locations.{location_of}
use Rattle.graphql_productions.specs.Nodes.{behind, enclosed, name, name_of, node, optional_list, or_none}
use Rattle.graphql_productions.specs.Nodes.{span_at}
use Rattle.graphql_productions.specs.Operations.{is_operation_type, no_root, operation_type, typed}
use Rattle.graphql_productions.specs.Types.{type}

-- ---- descriptions: section 3.2

-- the text of a description, at the word that it is
abbrev pub description_of : FileId → WordView → NameView
description_of file w =
    record {
      text = (if only k.BlockString w.kind then block_string_value w.text else string_value w.text);
      location = span_at file (w.start, w.end);
    }

-- a string or a block string: section 3.2
abbrev pub is_description : Kinds
is_description kind = only k.String kind || only k.BlockString kind

-- Description: section 3.2
unfoldable pub description_body : FileId → Piece NameView
description_body file = mapped (description_of file) (word is_description (λ _. Expected i.Definition))

-- Description
abbrev pub description : FileId → Piece NameView
description file = headed is_description (description_body file)

-- what may begin with a description, and begins with a name without one
abbrev pub is_described_name : Kinds
is_described_name kind = is_name kind || is_description kind

-- ---- input values: sections 3.6.1 and 3.10

-- this item was expected
abbrev pub expecting : Item → Wrong
expecting wanted = λ _. Expected wanted

-- an argument or input field of its parts
abbrev pub input_of : Option NameView
    × (NameView × (Unit {0} × (NodeView TypeReference × (Option (NodeView Value) × DirectiveList))))
    → InputValueDefinition
input_of x = record {
  description = x.0;
  name = x.1.0;
  ty = x.1.1.1.0;
  default_value = x.1.1.1.1.0;
  directives = x.1.1.1.1.1;
}

-- InputValueDefinition
unfoldable pub input_node : FileId → ℕ → Piece (NodeView InputValueDefinition)
input_node file depth =
    node file (mapped input_of (seq (optional (description file)) (seq (name file) (typed file depth))))

-- InputValueDefinition: section 3.6.1
abbrev pub input_value : FileId → ℕ → Piece (NodeView InputValueDefinition)
input_value file depth = item is_described_name (expecting i.InputValue) (input_node file depth)

-- input values between these signs, if there are any: ArgumentsDefinition, InputFieldsDefinition
unfoldable pub input_values : FileId → Kind → Kind → ℕ → Piece (List (NodeView InputValueDefinition))
input_values file opening closing depth =
    optional_list opening closing (expecting i.InputValue) depth (input_value file)

-- ---- fields: section 3.6

-- a field of its parts
abbrev pub field_of : Option NameView
    × (NameView × (List (NodeView InputValueDefinition) × (Unit {0} × (TypeReference × DirectiveList))))
    → FieldDefinition
field_of x =
    record {
      description = x.0;
      name = x.1.0;
      arguments = x.1.1.0;
      ty = x.1.1.1.1.0;
      directives = x.1.1.1.1.1;
    }

-- FieldDefinition
unfoldable pub field_node : FileId → ℕ → Piece (NodeView FieldDefinition)
field_node file depth =
    node file (mapped field_of
    (seq (optional (description file))
    (seq (name file)
    (seq (input_values file k.LeftParen k.RightParen depth)
    (seq (sign k.Colon) (seq (type file depth) (directives file true depth)))))))

-- FieldDefinition: section 3.6
abbrev pub field_definition : FileId → ℕ → Piece (NodeView FieldDefinition)
field_definition file depth = item is_described_name (expecting i.FieldDefinition) (field_node file depth)

-- FieldsDefinition, if there is one
unfoldable pub fields : FileId → ℕ → Piece (List (NodeView FieldDefinition))
fields file depth =
    optional_list k.LeftBrace k.RightBrace (expecting i.FieldDefinition) depth (field_definition file)

-- ---- interfaces and members: sections 3.6 and 3.8

-- names behind a sign, with a sign between each two
abbrev pub names_body : FileId → Kind → Kind → Piece (List NameView)
names_body file opening between = mapped behind (seq (sign opening) (separated between (name file)))

-- names behind a word, with a sign between them and one before the first or not, if there are any
unfoldable pub names_behind : FileId → Kind → Kind → Piece (List NameView)
names_behind file opening between = mapped or_none (optional (names_body file opening between))

-- ---- enum values: section 3.9

-- `true`, `false` or `null`, which no enum value is called: section 3.9
abbrev pub is_reserved : Kinds
is_reserved kind = only k.True kind || (only k.False kind || only k.Null kind)

-- what is wrong where no enum value is defined
abbrev pub no_enum_value : Wrong
no_enum_value left = if begins is_reserved left then ReservedName else Expected i.EnumValue

-- what an enum value may begin with
abbrev pub is_enum_value : Kinds
is_enum_value kind = names_of names.EnumValue kind || is_description kind

-- an enum value of its description, name and directives
abbrev pub enum_value_of : Option NameView × (NameView × DirectiveList) → EnumValueDefinition
enum_value_of x = record { description = x.0; value = x.1.0; directives = x.1.1 }

-- EnumValueDefinition: a name, not `true`, `false` or `null`
unfoldable pub enum_value_name : FileId → Piece NameView
enum_value_name file = mapped (name_of file) (word (names_of names.EnumValue) no_enum_value)

-- an enum value with its location: section 3.9
unfoldable pub enum_value_node : FileId → ℕ → Piece (NodeView EnumValueDefinition)
enum_value_node file depth =
    node file (mapped enum_value_of
    (seq (optional (description file)) (seq (enum_value_name file) (directives file true depth))))

-- EnumValueDefinition: section 3.9
abbrev pub enum_value_definition : FileId → ℕ → Piece (NodeView EnumValueDefinition)
enum_value_definition file depth = item is_enum_value no_enum_value (enum_value_node file depth)

-- EnumValuesDefinition, if there is one
unfoldable pub enum_values : FileId → ℕ → Piece (List (NodeView EnumValueDefinition))
enum_values file depth =
    optional_list k.LeftBrace k.RightBrace no_enum_value depth (enum_value_definition file)

-- ---- roots: section 3.3

-- a root of its operation and the name of its type
abbrev pub root_of : OperationType × (Unit {0} × NameView) → OperationType × NameView
root_of x = (x.0, x.1.1)

-- RootOperationTypeDefinition
unfoldable pub root_node : FileId → Piece (NodeView (OperationType × NameView))
root_node file = node file (mapped root_of (seq operation_type (seq (sign k.Colon) (name file))))

-- RootOperationTypeDefinition: section 3.3.1
abbrev pub root : FileId → Piece (NodeView (OperationType × NameView))
root file = item is_operation_type no_root (root_node file)

-- the roots between braces
abbrev pub roots : FileId → ℕ → Piece (List (NodeView (OperationType × NameView)))
roots file depth = enclosed k.LeftBrace k.RightBrace no_root depth (λ inside. some (root file))

-- ---- what a definition or extension of a kind holds behind its name

-- what a scalar type has: section 3.5
abbrev pub scalar_parts : DirectiveList → Parts
scalar_parts directives = directed directives

-- what an object or interface type has: sections 3.6 and 3.7
abbrev pub fielded_parts : List NameView × (DirectiveList × List (NodeView FieldDefinition)) → Parts
fielded_parts x = record (directed x.1.0) { names = x.0; fields = x.1.1 }

-- what a union type has: section 3.8
abbrev pub union_parts : DirectiveList × List NameView → Parts
union_parts x = record (directed x.0) { names = x.1 }

-- what an enum type has: section 3.9
abbrev pub enum_parts : DirectiveList × List (NodeView EnumValueDefinition) → Parts
enum_parts x = record (directed x.0) { values = x.1 }

-- what an input object type has: section 3.10
abbrev pub input_parts : DirectiveList × List (NodeView InputValueDefinition) → Parts
input_parts x = record (directed x.0) { input_fields = x.1 }

-- what the schema has: section 3.3
abbrev pub schema_parts : DirectiveList × List (NodeView (OperationType × NameView)) → Parts
schema_parts x = record (directed x.0) { roots = x.1 }

-- the interfaces, directives and fields of an object or interface type: sections 3.6 and 3.7
unfoldable pub fielded : FileId → ℕ → Piece Parts
fielded file depth =
    mapped fielded_parts
    (seq (names_behind file k.Implements k.Ampersand)
    (seq (directives file true depth) (fields file depth)))

-- what stands behind the name of a type of this kind: sections 3.5 to 3.10
unfoldable pub parts : FileId → TypeKind → ℕ → Piece Parts
parts file t.Scalar depth = mapped scalar_parts (directives file true depth)
parts file t.Object depth = fielded file depth
parts file t.Interface depth = fielded file depth
parts file t.Union depth =
    mapped union_parts (seq (directives file true depth) (names_behind file k.Equals k.Pipe))
parts file t.Enum depth = mapped enum_parts (seq (directives file true depth) (enum_values file depth))
parts file t.InputObject depth =
    mapped input_parts (seq (directives file true depth) (input_values file k.LeftBrace k.RightBrace depth))

-- the word of a kind of types
abbrev pub keyword : TypeKind → Kind
keyword t.Scalar = k.Scalar
keyword t.Object = k.Type
keyword t.Interface = k.Interface
keyword t.Union = k.Union
keyword t.Enum = k.Enum
keyword t.InputObject = k.Input

-- ---- definitions

-- a definition that wants its description and its location
abbrev pub Described : Type 0
Described = Option NameView → Option SourceSpan → Definition

-- the definition of a type of this kind, of its name and what it has
abbrev pub type_of : TypeKind → Unit {0} × (NameView × Parts) → Described
type_of kind x = λ description location. type_definition kind description x.1.0 x.1.1 location

-- ScalarTypeDefinition .. InputObjectTypeDefinition, behind the description
unfoldable pub type_body : FileId → TypeKind → ℕ → Piece Described
type_body file kind depth =
    mapped (type_of kind) (seq (sign (keyword kind)) (seq (name file) (parts file kind depth)))

-- the definition of the schema, of what it has
abbrev pub schema_of : Unit {0} × (DirectiveList × List (NodeView (OperationType × NameView))) → Described
schema_of x = λ description location. schema_definition description (schema_parts x.1) location

-- SchemaDefinition, behind the description: section 3.3
unfoldable pub schema_body : FileId → ℕ → Piece Described
schema_body file depth =
    mapped schema_of (seq (sign k.Schema) (seq (directives file true depth) (roots file depth)))

-- a directive location was expected; a name that is none is unknown
abbrev pub no_location : Wrong
no_location left = if begins is_name left then UnknownDirectiveLocation else Expected i.DirectiveLocation

-- the location that a word names
abbrev pub location_word : WordView → Option DirectiveLocation
location_word w = if is_name w.kind then location_of w.text else None

-- DirectiveLocation: section 3.13
unfoldable pub location : Piece DirectiveLocation
location = picked location_word is_name no_location

-- whether a sign stood there
abbrev pub is_there : Option (Unit {0}) → Bool
is_there None = false
is_there (Some _) = true

-- the definition of a directive, of its parts: section 3.13
abbrev pub directive_of : Unit {0}
    × (Unit {0} × (NameView
    × (List (NodeView InputValueDefinition) × (Option (Unit {0}) × (Unit {0} × List DirectiveLocation)))))
    → Described
directive_of x = λ description location. d.DirectiveDefinition (record {
  value = record {
    description = description;
    name = x.1.1.0;
    arguments = x.1.1.1.0;
    repeatable = is_there x.1.1.1.1.0;
    locations = x.1.1.1.1.1.1;
  };
  location = location;
})

-- DirectiveDefinition, behind the description: section 3.13
unfoldable pub directive_body : FileId → ℕ → Piece Described
directive_body file depth =
    mapped directive_of
    (seq (sign k.Directive)
    (seq (sign k.At)
    (seq (name file)
    (seq (input_values file k.LeftParen k.RightParen depth)
    (seq (optional (sign k.Repeatable)) (seq (sign k.On) (separated k.Pipe location)))))))

-- what no description may stand before
abbrev pub is_undescribed : Kinds
is_undescribed kind =
    only k.LeftBrace kind || (is_operation_type kind || (only k.Fragment kind || only k.Extend kind))

-- a definition was expected; one that has no description can not stand behind one
abbrev pub no_described : Wrong
no_described left = if begins is_undescribed left then DescriptionNotAllowed else Expected i.Definition

-- the piece of the kind of types whose word this is, and where it is none another
abbrev pub by_type_kind : {A : Type 0} → Kind → (TypeKind → Piece A) → Piece A → Piece A
by_type_kind kind of_type other =
    choose (only k.Scalar kind) (of_type t.Scalar) (
    choose (only k.Type kind) (of_type t.Object) (
    choose (only k.Interface kind) (of_type t.Interface) (
    choose (only k.Union kind) (of_type t.Union) (
    choose (only k.Enum kind) (of_type t.Enum) (
    choose (only k.Input kind) (of_type t.InputObject) other)))))

-- the definition behind a description that begins with a word of this kind
abbrev pub described_pick : FileId → ℕ → Kind → Piece Described
described_pick file depth kind =
    choose (only k.Schema kind) (schema_body file depth) (
    by_type_kind kind (λ of. type_body file of depth) (
    choose (only k.Directive kind) (directive_body file depth) (nothing no_described)))

-- the words that definitions of the type system begin with, behind their descriptions
abbrev pub is_described : Kinds
is_described kind =
    only k.Schema kind
    || (only k.Scalar kind
    || (only k.Type kind
    || (only k.Interface kind
    || (only k.Union kind || (only k.Enum kind || (only k.Input kind || only k.Directive kind))))))

-- what goes on with a definition of the type system, or an extension
abbrev pub goes_on_type : Kinds
goes_on_type kind =
    only k.At kind
    || (only k.LeftParen kind
    || (only k.LeftBrace kind
    || (only k.Implements kind || (only k.Ampersand kind || (only k.Equals kind || only k.Pipe kind)))))

-- a definition of the type system without its description: section 3
abbrev pub described : FileId → ℕ → Piece Described
described file depth = branch is_described goes_on_type (described_pick file depth) no_described

-- a definition with its description, at its place in the file
abbrev pub definition_made : FileId → (Option NameView × Described) × (ℕ × ℕ) → Definition
definition_made file x = x.0.1 x.0.0 (span_at file x.1)

-- TypeSystemDefinition, from its description on
unfoldable pub system_definition : FileId → ℕ → Piece Definition
system_definition file depth =
    mapped (definition_made file) (located (seq (optional (description file)) (described file depth)))

-- ---- extensions

-- whether there is nothing
abbrev pub is_none : {A : Type 0} → List A → Bool
is_none [] = true
is_none (x ∷ xs) = false

-- whether there is any part
abbrev pub has_part : Parts → Bool
has_part p =
    not (is_none p.directives
    && (is_none p.names
    && (is_none p.fields && (is_none p.values && (is_none p.input_fields && is_none p.roots)))))

-- whether a `{` behind these parts of such a type would still be its own. That is so if the type may have
-- fields or values between braces, and has none. Sections 3.6, 3.7, 3.9 and 3.10
abbrev pub parts_take : TypeKind → Parts → Bool
parts_take t.Scalar p = false
parts_take t.Object p = is_none p.fields
parts_take t.Interface p = is_none p.fields
parts_take t.Union p = false
parts_take t.Enum p = is_none p.values
parts_take t.InputObject p = is_none p.input_fields

-- the extension of a type of this kind, of its name and what it adds
abbrev pub extension_of : TypeKind → Unit {0} × (NameView × Parts) → Option SourceSpan → Definition
extension_of kind x location = type_extension kind x.1.0 x.1.1 location

-- ScalarTypeExtension .. InputObjectTypeExtension, behind `extend`
unfoldable pub extension_body : FileId → TypeKind → ℕ → Piece (Option SourceSpan → Definition)
extension_body file kind depth =
    mapped (extension_of kind)
    (seq (sign (keyword kind))
    (seq (name file) (filtered has_part (expecting i.ExtensionPart) (parts file kind depth))))

-- the roots between braces, if they are there
abbrev pub optional_roots : FileId → ℕ → Piece (List (NodeView (OperationType × NameView)))
optional_roots file depth = mapped or_none (optional (roots file depth))

-- the extension of the schema, of what it adds
abbrev pub schema_extension_of : Unit {0} × Parts → Option SourceSpan → Definition
schema_extension_of x location = schema_extension x.1 location

-- SchemaExtension, behind `extend`: section 3.3.2
unfoldable pub schema_extension_body : FileId → ℕ → Piece (Option SourceSpan → Definition)
schema_extension_body file depth =
    mapped schema_extension_of
    (seq (sign k.Schema)
    (filtered has_part (expecting i.ExtensionPart)
    (mapped schema_parts (seq (directives file true depth) (optional_roots file depth)))))

-- the extension that goes on with a word of this kind behind `extend`
abbrev pub extended_pick : FileId → ℕ → Kind → Piece (Option SourceSpan → Definition)
extended_pick file depth kind =
    choose (only k.Schema kind) (schema_extension_body file depth) (
    by_type_kind kind (λ of. extension_body file of depth) (nothing (expecting i.Extended)))

-- the words that say what is extended
abbrev pub is_extended : Kinds
is_extended kind =
    only k.Schema kind
    || (only k.Scalar kind
    || (only k.Type kind
    || (only k.Interface kind || (only k.Union kind || (only k.Enum kind || only k.Input kind)))))

-- an extension without its `extend`: section 3.4.3
abbrev pub extended : FileId → ℕ → Piece (Option SourceSpan → Definition)
extended file depth = branch is_extended goes_on_type (extended_pick file depth) (expecting i.Extended)

-- an extension at its place in the file
abbrev pub extension_made : FileId → (Unit {0} × (Option SourceSpan → Definition)) × (ℕ × ℕ) → Definition
extension_made file x = x.0.1 (span_at file x.1)

-- TypeSystemExtension
unfoldable pub extension : FileId → ℕ → Piece Definition
extension file depth = mapped (extension_made file) (located (seq (sign k.Extend) (extended file depth)))
