-- The components of a part of a type, with their origins: GraphQL specification of October 2021, sections 3.6
-- to 3.10.
use Rattle.std.specs.Prelude.{Bool, List, map}
use Rattle.graphql_nodes.specs.NameView.{NameView}
use Rattle.graphql_nodes.specs.SameText.{same_text}
use Rattle.graphql_nodes.specs.NodeView.{NodeView}
use Rattle.graphql_ast.specs.declared.directive.Directive.{Directive}
use Rattle.graphql_ast.specs.declared.type_system.FieldDefinition.{FieldDefinition}
use Rattle.graphql_ast.specs.declared.type_system.EnumValueDefinition.{EnumValueDefinition}
use Rattle.graphql_ast.specs.declared.type_system.InputValueDefinition.{InputValueDefinition}
use Rattle.apollo_component.specs.FirstOfEach.{first_of_each, same_key}
use Rattle.apollo_component.specs.declared.component.Component.{Component}
use Rattle.apollo_component.specs.declared.component.ComponentName.{ComponentName}
use Rattle.apollo_component.specs.declared.extension.ComponentOrigin.{ComponentOrigin}
use Rattle.apollo_meaning.specs.Items.Parts.{TypePart, held_parts}

-- a part, with the origin of its components
abbrev pub Sourced : Type 0
Sourced = ComponentOrigin × TypePart

-- a node with its origin
abbrev pub component : {T : Type 0} → ComponentOrigin → NodeView T → Component T
component o n = record { origin = o; node = n }

-- a name with its origin
abbrev pub component_name : ComponentOrigin → NameView → ComponentName
component_name o n = record { origin = o; name = n }

-- names are the same by their texts, whatever their origins
abbrev pub same_component_name : ComponentName → ComponentName → Bool
same_component_name a b = same_text a.name b.name

-- a field under its name
abbrev pub field_entry : ComponentOrigin → NodeView FieldDefinition → NameView × Component FieldDefinition
field_entry o f = (f.value.name, component o f)

-- an enum value under its name
abbrev pub value_entry : ComponentOrigin → NodeView EnumValueDefinition
    → NameView × Component EnumValueDefinition
value_entry o v = (v.value.value, component o v)

-- an input field under its name
abbrev pub input_field_entry : ComponentOrigin → NodeView InputValueDefinition
    → NameView × Component InputValueDefinition
input_field_entry o f = (f.value.name, component o f)

-- the directives of a part, with their origin
abbrev pub sourced_directives : Sourced → List (Component Directive)
sourced_directives s = map (component s.0) s.1.parts.directives

-- the interfaces or union members that a part lists, with their origin
abbrev pub names_of : Sourced → List ComponentName
names_of s = map (component_name s.0) (held_parts s.1).names

-- the fields of a part, each under its name, with their origin
abbrev pub fields_of : Sourced → List (NameView × Component FieldDefinition)
fields_of s = map (field_entry s.0) (held_parts s.1).fields

-- the enum values of a part, each under its name, with their origin
abbrev pub values_of : Sourced → List (NameView × Component EnumValueDefinition)
values_of s = map (value_entry s.0) (held_parts s.1).values

-- the input fields of a part, each under its name, with their origin
abbrev pub input_fields_of : Sourced → List (NameView × Component InputValueDefinition)
input_fields_of s = map (input_field_entry s.0) (held_parts s.1).input_fields

-- the first of each name among interfaces or union members
abbrev pub distinct_names : List ComponentName → List ComponentName
distinct_names = first_of_each same_component_name

-- the first of each name among fields, enum values or input fields
abbrev pub distinct_entries : {T : Type 0} → List (NameView × Component T) → List (NameView × Component T)
distinct_entries = first_of_each (same_key same_text)
