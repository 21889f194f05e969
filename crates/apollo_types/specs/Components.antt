-- The components of types and of a schema's definition, each with its origin, in order: GraphQL specification
-- of October 2021, sections 3.3 and 3.5 to 3.10.
--
-- **Origins.** The origins of the components of a type or schema definition stand in the order of the
-- components. Each component counts, so one origin may come more than once.
--
-- **Components in order.** The components of a type are one list, each with its origin: directives,
-- interfaces, fields. Or it is directives, then members, values or input fields. That of a schema definition
-- is directives, then the roots of query, mutation and subscription.
use Rattle.std.specs.Prelude.{List, [], map}
use Rattle.std.specs.Map.Iter.{ShowsInOrder, deref}
use Rattle.std.specs.Slice.Iter.{iter_rest}
use Rattle.graphql_nodes.specs.NameView.{NameView}
use Rattle.graphql_nodes.specs.NodeView.{NodeView}
use Rattle.graphql_nodes.specs.declared.operation_type.OperationType.{OperationType}
use Rattle.graphql_ast.specs.declared.parts.Part.TheVariants as parts
use Rattle.graphql_ast.specs.declared.directive.Directive.{Directive}
use Rattle.graphql_ast.specs.declared.type_system.EnumValueDefinition.{EnumValueDefinition}
use Rattle.graphql_ast.specs.declared.type_system.FieldDefinition.{FieldDefinition}
use Rattle.graphql_ast.specs.declared.type_system.InputValueDefinition.{InputValueDefinition}
use Rattle.apollo_component.specs.WriteOut.{SourcedPart}
use Rattle.apollo_component.specs.declared.component.Component.{Component}
use Rattle.apollo_component.specs.declared.component.ComponentName.{ComponentName}
use Rattle.apollo_component.specs.declared.extension.ComponentOrigin.{ComponentOrigin}
use Rattle.apollo_types.specs.SchemaRoots.{deref_root}
use Rattle.apollo_types.specs.declared.components.Rest.{Rest}
use Rattle.apollo_types.specs.declared.components.Rest.TheVariants.{Nothing, Names, Fields, EnumValues}
use Rattle.apollo_types.specs.declared.components.Rest.TheVariants.{InputFields, Roots}

-- a directive as a component, with its origin
abbrev pub of_directive : Component Directive → SourcedPart
of_directive c = (c.origin, parts.Directive c.node)

-- an interface or union member as a component, with its origin
abbrev pub of_name : ComponentName → SourcedPart
of_name c = (c.origin, parts.Name c.name)

-- a field as a component, with its origin
abbrev pub of_field : Component FieldDefinition → SourcedPart
of_field c = (c.origin, parts.Field c.node)

-- an enum value as a component, with its origin
abbrev pub of_value : Component EnumValueDefinition → SourcedPart
of_value c = (c.origin, parts.EnumValue c.node)

-- an input field as a component, with its origin
abbrev pub of_input_field : Component InputValueDefinition → SourcedPart
of_input_field c = (c.origin, parts.InputField c.node)

-- a root as syntax, where its name stands
abbrev pub root_node : OperationType × ComponentName → NodeView (OperationType × NameView)
root_node r = record { value = (r.0, r.1.name); location = r.1.name.location }

-- a root as a component, with its origin
abbrev pub of_root : OperationType × ComponentName → SourcedPart
of_root r = (r.1.origin, parts.Root (root_node r))

-- what is left of one collection
abbrev pub rest_components : Rest → List SourcedPart
rest_components Nothing = []
rest_components (Names names) = map of_name (iter_rest names)
rest_components (Fields fields) = map of_field fields
rest_components (EnumValues values) = map of_value values
rest_components (InputFields fields) = map of_input_field fields
rest_components (Roots roots) = map of_root roots

-- each run of `next` of an iterator of origins shows what was left, in order
abbrev pub OriginsInOrder : Type 0
OriginsInOrder = ShowsInOrder (deref {X = ComponentOrigin})

-- each run of `next` of an iterator of roots shows what was left, in order
abbrev pub RootsInOrder : Type 0
RootsInOrder = ShowsInOrder deref_root
