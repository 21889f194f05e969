-- What the constructors of typed selections make: GraphQL specification of October 2021, sections 2.4 to 2.8.
--
-- **New field.** A new field (`new_field`) has a name and a definition, and no alias, arguments and
-- directives. It has a set without selections that selects from the inner name of the definition's type.
--
-- **New inline fragment.** A new inline fragment selects from its condition, or from the type of the set
-- that it is made for.
use Rattle.std.specs.Prelude.{◌≡◌, [], Option, None, Some, IsSome}
use Rattle.graphql_nodes.specs.NameView.{NameView}
use Rattle.graphql_nodes.specs.NodeView.{NodeView}
use Rattle.graphql_ast.specs.TypeReferences.{inner_name}
use Rattle.graphql_ast.specs.declared.type_system.FieldDefinition.{FieldDefinition}
use Rattle.apollo_component.specs.declared.component.Component.{Component}
use Rattle.apollo_schema.specs.Lookups.{field_at, IsMissingIn}
use Rattle.apollo_schema.specs.declared.schema.Schema.{Schema}
use Rattle.apollo_executable.specs.declared.selection.Field.{Field, roll-Field}
use Rattle.apollo_executable.specs.declared.selection.FragmentSpread.{FragmentSpread}
use Rattle.apollo_executable.specs.declared.selection.InlineFragment.{InlineFragment, roll-InlineFragment}
use Rattle.apollo_executable.specs.declared.selection.SelectionSet.{SelectionSet, roll-SelectionSet}
use Rattle.apollo_executable.specs.declared.new_field_error.NewFieldError.{NewFieldError}
use Rattle.apollo_executable.specs.declared.new_field_error.NewFieldError.TheVariants.{Lookup, Memory}

-- no selection, from this type
abbrev pub empty_set : NameView → SelectionSet
empty_set ty = roll-SelectionSet (record { ty = ty; selections = [] })

-- a field of this name and definition, whose set is typed by the name inside all lists
abbrev pub new_field : NameView → NodeView FieldDefinition → Field
new_field name definition = roll-Field (record {
  definition = definition;
  alias = None;
  name = name;
  arguments = [];
  directives = record { 0 = [] };
  selection_set = empty_set (inner_name definition.value.ty);
})

-- an inline fragment with this condition, which is the type of its set
abbrev pub inline_fragment_on : NameView → InlineFragment
inline_fragment_on condition =
    roll-InlineFragment (record {
      type_condition = Some condition;
      directives = record { 0 = [] };
      selection_set = empty_set condition;
    })

-- an inline fragment without condition, in a set of this type
abbrev pub inline_fragment_in : NameView → InlineFragment
inline_fragment_in ty =
    roll-InlineFragment (record {
      type_condition = None;
      directives = record { 0 = [] };
      selection_set = empty_set ty;
    })

-- the one or the other
abbrev pub new_inline_fragment : NameView → Option NameView → InlineFragment
new_inline_fragment ty (Some condition) = inline_fragment_on condition
new_inline_fragment ty None = inline_fragment_in ty

-- a spread of the fragment of this name, without directives
abbrev pub new_spread : NameView → FragmentSpread
new_spread name = record { fragment_name = name; directives = record { 0 = [] } }

-- the field has the definition that the schema gives for its name in this type
abbrev pub IsNewField : Schema → NameView → NameView → Field → Type 0
IsNewField schema ty name field =
    (definition : Component FieldDefinition) × (field_at schema ty name ≡ Some definition)
    × (field ≡ new_field name definition.node)

-- the schema gives none, or else memory was wanted
abbrev pub IsNewFieldRefusal : Schema → NameView → NameView → NewFieldError → Type 0
IsNewFieldRefusal schema ty name (Lookup reason) =
    (field_at schema ty name ≡ None) × IsMissingIn schema.types ty reason
IsNewFieldRefusal schema ty name Memory = IsSome (field_at schema ty name)
