-- What components add to the item that is being read: docs/NOTATION.md.
use Rattle.std.specs.Prelude.{ℕ, ◌-◌, List, [], ◌∷◌, ◌++◌, length, slice_get, Bool, true, false, Option, None}
use Rattle.std.specs.Prelude.{Some, option_map}
use Rattle.graphql_ast.specs.Declarations.{made_type, made_schema}
use Rattle.graphql_ast.specs.Parts.{directive_list, no_parts, with_part}
use Rattle.graphql_ast.specs.declared.parts.Part.{Part}
use Rattle.graphql_ast.specs.declared.parts.Part.TheVariants as p
use Rattle.graphql_ast.specs.declared.parts.Parts.{Parts}
use Rattle.graphql_nodes.specs.NameView.{NameView}
use Rattle.graphql_nodes.specs.NodeView.{NodeView}
use Rattle.graphql_nodes.specs.declared.source.SourceSpan.{SourceSpan}
use Rattle.graphql_nodes.specs.declared.type_kind.TypeKind.TheVariants as k
use Rattle.graphql_ast.specs.declared.type_reference.Type.{«Type» as TypeReference}
use Rattle.graphql_ast.specs.declared.directive.Directive.{Directive}
use Rattle.graphql_ast.specs.declared.directive.DirectiveList.{DirectiveList}
use Rattle.graphql_ast.specs.declared.type_system.EnumValueDefinition.{EnumValueDefinition}
use Rattle.graphql_ast.specs.declared.type_system.FieldDefinition.{FieldDefinition}
use Rattle.graphql_ast.specs.declared.type_system.InputValueDefinition.{InputValueDefinition}
use Rattle.graphql_ast.specs.declared.definition.Definition.{Definition}
use Rattle.graphql_ast.specs.declared.definition.Definition.TheVariants as d
use Rattle.graphql_ast.specs.declared.selection.Selection.{Selection}
use Rattle.bench_notation.specs.HeaderWords.{is_extension}
use Rattle.bench_notation.specs.Nesting.{levels_below, selections_at}
use Rattle.bench_notation.specs.declared.selection_line.SelectionLine.{SelectionLine}
use Rattle.bench_notation.specs.declared.executable_header.ExecutableHeader.{ExecutableHeader}
use Rattle.bench_notation.specs.declared.executable_header.ExecutableHeader.TheVariants as x
use Rattle.bench_notation.specs.declared.above.Above.{Above}
use Rattle.bench_notation.specs.declared.above.Above.TheVariants as a
use Rattle.bench_notation.specs.declared.line.Header.{Header}
use Rattle.bench_notation.specs.declared.line.Header.TheVariants as h
use Rattle.bench_notation.specs.declared.line.Component.{Component}
use Rattle.bench_notation.specs.declared.line.Component.TheVariants as c
use Rattle.bench_notation.specs.declared.directive_parts.DirectiveParts.{DirectiveParts}
use Rattle.bench_notation.specs.declared.open_field.OpenField.{OpenField}
use Rattle.bench_notation.specs.declared.item.OpenItem.{OpenItem}

-- a node that stands at this location
abbrev pub node_at : {A : Type 0} → SourceSpan → A → NodeView A
node_at location value = record { value = value; location = Some location }

-- a directive without arguments
abbrev pub applied_directive : NameView → Directive
applied_directive name = record { name = name; arguments = [] }

-- an argument's definition, or that of a field of an input object
abbrev pub input_value : NameView → TypeReference → DirectiveList → SourceSpan → NodeView InputValueDefinition
input_value name ty directives location = node_at location record {
  description = None;
  name = name;
  ty = node_at location ty;
  default_value = None;
  directives = directives;
}

-- a value of an enum
abbrev pub enum_value : NameView → EnumValueDefinition
enum_value name = record { description = None; value = name; directives = record { 0 = [] } }

-- a field alone
abbrev pub field_alone : NameView → TypeReference → SourceSpan → OpenField
field_alone name ty location =
    record { location = location; name = name; ty = ty; arguments = []; directives = record { 0 = [] } }

-- a field with its arguments and directives
abbrev pub field_node : OpenField → NodeView FieldDefinition
field_node field = node_at field.location record {
  description = None;
  name = field.name;
  arguments = field.arguments;
  ty = field.ty;
  directives = field.directives;
}

-- a field of an input object type with its directives
abbrev pub input_field_node : OpenField → NodeView InputValueDefinition
input_field_node field = input_value field.name field.ty field.directives field.location

-- nothing that a directive's definition alone has
abbrev pub no_directive_parts : DirectiveParts
no_directive_parts = record { arguments = []; is_repeatable = false; locations = [] }

-- a header alone
abbrev pub header_alone : Header → SourceSpan → OpenItem
header_alone header location =
    record {
      location = location;
      header = header;
      parts = no_parts;
      directive = no_directive_parts;
      last_field = None;
      selections = [];
    }

-- at how many depths a selection may stand below this one, and at one where there is none
abbrev pub levels_behind : Option SelectionLine → ℕ
levels_behind None = 1
levels_behind (Some line) = levels_below line

-- at how many depths the selection behind these may stand
abbrev pub levels_after : List SelectionLine → ℕ
levels_after lines = levels_behind (slice_get lines (length lines - 1))

-- what stands above the next line, below this header, this field, if there is one, and these selections
abbrev pub above_below : Header → Option OpenField → List SelectionLine → Above
above_below (h.Type role kind name) None selections = a.Type kind
above_below (h.Type role kind name) (Some field) selections = a.Field kind
above_below (h.Directive name) field selections = a.Directive
above_below (h.Schema role) field selections = a.Schema
above_below (h.Executable header) field selections = a.Selections (levels_after selections)

-- the header is that of an input object type
abbrev pub is_input_object : Header → Bool
is_input_object (h.Type role k.InputObject name) = true
is_input_object _ = false

-- a field as a part of an input object type, or of another
abbrev pub field_part : Bool → OpenField → Part
field_part true field = p.InputField (input_field_node field)
field_part false field = p.Field (field_node field)

-- a field more, if there is one
abbrev pub with_last : Bool → Option OpenField → Parts → Parts
with_last is_input None parts = parts
with_last is_input (Some field) parts = with_part (field_part is_input field) parts

-- an item whose last field has all of its parts
abbrev pub field_closed : OpenItem → OpenItem
field_closed item = record item {
  parts = with_last (is_input_object item.header) item.last_field item.parts;
  last_field = None;
}

-- an item and one field more, which is the last
abbrev pub with_field : OpenField → OpenItem → OpenItem
with_field field item = record (field_closed item) { last_field = Some field }

-- an item and one directive more of its last field
abbrev pub with_field_directive : NodeView Directive → OpenItem → OpenItem
with_field_directive directive item =
    record item {
      last_field = option_map (λ (field : OpenField).
          record field { directives = record { 0 = field.directives.0 ++ directive ∷ [] } }) item.last_field;
    }

-- a field and one argument more
abbrev pub with_field_argument : NodeView InputValueDefinition → OpenField → OpenField
with_field_argument argument field = record field { arguments = field.arguments ++ argument ∷ [] }

-- an argument more of the last field, or where there is none, of the item
abbrev pub with_argument_below : NodeView InputValueDefinition → Option OpenField → OpenItem → OpenItem
with_argument_below argument None item =
    record item {
      directive = record item.directive {
        arguments = item.directive.arguments
            ++ argument ∷ [];
      };
    }
with_argument_below argument (Some field) item =
    record item { last_field = Some (with_field_argument argument field) }

-- an item and one argument more: of its last field, if it has one, or else of the item itself
abbrev pub with_argument : NodeView InputValueDefinition → OpenItem → OpenItem
with_argument argument item = with_argument_below argument item.last_field item

-- an item and one part more
abbrev pub with_own_part : Part → OpenItem → OpenItem
with_own_part part item = record item { parts = with_part part item.parts }

-- an item and one component more
abbrev pub with_component : Component → SourceSpan → OpenItem → OpenItem
with_component (c.Directive name) location item =
    with_own_part (p.Directive (node_at location (applied_directive name))) item
with_component (c.Implements name) location item = with_own_part (p.Name name) item
with_component (c.Field name ty) location item = with_field (field_alone name ty location) item
with_component (c.FieldDirective name) location item =
    with_field_directive (node_at location (applied_directive name)) item
with_component (c.Argument name ty) location item =
    with_argument (input_value name ty (record { 0 = [] }) location) item
with_component (c.Member name) location item = with_own_part (p.Name name) item
with_component (c.Value name) location item =
    with_own_part (p.EnumValue (node_at location (enum_value name))) item
with_component (c.On directive_location) location item =
    record item {
      directive = record item.directive {
        locations = item.directive.locations
            ++ directive_location ∷ [];
      };
    }
with_component c.Repeatable location item =
    record item { directive = record item.directive { is_repeatable = true } }
with_component (c.Root operation name) location item =
    with_own_part (p.Root (node_at location (operation, name))) item
with_component (c.Selection depth selected) location item =
    record item {
      selections = item.selections ++ record {
        depth = depth;
        location = location;
        selected = selected;
      } ∷ [];
    }

-- the definition of a directive
abbrev pub directive_definition : NameView → DirectiveParts → SourceSpan → Definition
directive_definition name parts location =
    d.DirectiveDefinition (node_at location record {
      description = None;
      name = name;
      arguments = parts.arguments;
      repeatable = parts.is_repeatable;
      locations = parts.locations;
    })

-- an operation or fragment with these directives and selections
abbrev pub executable_definition : ExecutableHeader → DirectiveList → List Selection → SourceSpan → Definition
executable_definition (x.Operation operation name) directives selections location =
    d.OperationDefinition (node_at location record {
      operation_type = operation;
      name = name;
      variables = [];
      directives = directives;
      selection_set = selections;
    })
executable_definition (x.Fragment name condition) directives selections location =
    d.FragmentDefinition (node_at location record {
      name = name;
      type_condition = condition;
      directives = directives;
      selection_set = selections;
    })

-- the definition or extension of a header with these components
abbrev pub definition_with : Header → Parts → DirectiveParts → List SelectionLine → SourceSpan → Definition
definition_with (h.Type role kind name) parts directive lines location = made_type (record {
  kind = kind;
  name = name;
  is_extension = is_extension role;
  description = None;
  location = Some location;
  parts = parts;
})
definition_with (h.Directive name) parts directive lines location =
    directive_definition name directive location
definition_with (h.Schema role) parts directive lines location = made_schema (record {
  is_extension = is_extension role;
  description = None;
  location = Some location;
  parts = parts;
})
definition_with (h.Executable header) parts directive lines location =
    executable_definition header (directive_list parts) (selections_at 0 lines) location

-- the definition or extension that an item says
abbrev pub whole_item : OpenItem → Definition
whole_item item =
    definition_with item.header (field_closed item).parts item.directive item.selections item.location
