-- Equality of definitions and extensions of the type system.
use Rattle.std.proofs.Common.{refl, List, subst, Bool, ◌&&◌, nat_eq}
use lib.Pointwise.{pointwise}
use denote.Enum.Bare.{sameb}
use Rattle.graphql_nodes.specs.NameView.{NameView}
use Rattle.graphql_nodes.specs.declared.operation_type.OperationType.{OperationType}
use Rattle.graphql_nodes.specs.declared.directive_location.DirectiveLocation.{DirectiveLocation}
use Rattle.graphql_nodes.specs.contracts.operation_type.OperationType as operation
use Rattle.graphql_nodes.specs.contracts.directive_location.DirectiveLocation as location
use Rattle.graphql_ast.specs.BareTypeSystem as bare
use Rattle.graphql_ast.specs.TypeSystem as made
use Rattle.graphql_ast.specs.contracts.type_system as on
use on.InputValueDefinitionPartialEq.TheImpl as input_value
use on.FieldDefinitionPartialEq.TheImpl as field
use on.EnumValueDefinitionPartialEq.TheImpl as enum_value
use on.DirectiveDefinitionPartialEq.TheImpl as directive
use on.SchemaDefinitionPartialEq.TheImpl as schema
use on.ScalarTypeDefinitionPartialEq.TheImpl as scalar
use on.ObjectTypeDefinitionPartialEq.TheImpl as object
use on.InterfaceTypeDefinitionPartialEq.TheImpl as interface
use on.UnionTypeDefinitionPartialEq.TheImpl as union_type
use on.EnumTypeDefinitionPartialEq.TheImpl as enum_type
use on.InputObjectTypeDefinitionPartialEq.TheImpl as input_object
use on.SchemaExtensionPartialEq.TheImpl as schema_more
use on.ScalarTypeExtensionPartialEq.TheImpl as scalar_more
use on.ObjectTypeExtensionPartialEq.TheImpl as object_more
use on.InterfaceTypeExtensionPartialEq.TheImpl as interface_more
use on.UnionTypeExtensionPartialEq.TheImpl as union_more
use on.EnumTypeExtensionPartialEq.TheImpl as enum_more
use on.InputObjectTypeExtensionPartialEq.TheImpl as input_more
use Rattle.graphql_nodes.proofs.Comparisons.{Compares, own, of_fields, of_two, of_three, of_four}
use Rattle.graphql_nodes.proofs.Comparisons.{of_five, described, pairs, names, nodes, lists, options, flags}
use Rattle.graphql_nodes.proofs.LocationEquality.{directive_locations, operation_types}
use Rattle.graphql_ast.proofs.ValueEquality.{values}
use Rattle.graphql_ast.proofs.TypeEquality.{types}
use Rattle.graphql_ast.proofs.DirectiveEquality.{directive_lists}

locations : Compares (pointwise (sameb location.the_type)) (λ (l : List DirectiveLocation). l)
locations = subst (Compares (pointwise (sameb location.the_type))) (λ i l. own l i)
    (lists directive_locations)

abbrev root_eq : OperationType × NameView → OperationType × NameView → Bool
root_eq a b = sameb operation.the_type a.0 b.0 && pointwise nat_eq a.1.text b.1.text

root_operations : Compares root_eq bare.bare_root_operation
root_operations = pairs operation_types names

pub input_value_definitions : Compares input_value.ghosts.eq bare.bare_input_value_definition
input_value_definitions = of_fields (λ d. (d.description, (d.name, (d.ty, (d.default_value, d.directives)))))
    (of_five made.input_value_of) (λ _. refl)
    (described (pairs (nodes types) (pairs (options (nodes values)) directive_lists)))

pub field_definitions : Compares field.ghosts.eq bare.bare_field_definition
field_definitions = of_fields (λ d. (d.description, (d.name, (d.arguments, (d.ty, d.directives)))))
    (of_five made.field_of) (λ _. refl)
    (described (pairs (lists (nodes input_value_definitions)) (pairs types directive_lists)))

fields : Compares (pointwise (λ m n. field.ghosts.eq m.value n.value)) bare.bare_fields
fields = lists (nodes field_definitions)

pub enum_value_definitions : Compares enum_value.ghosts.eq bare.bare_enum_value_definition
enum_value_definitions = of_fields (λ d. (d.description, (d.value, d.directives)))
    (of_three made.enum_value_of) (λ _. refl) (described directive_lists)

pub directive_definitions : Compares directive.ghosts.eq bare.bare_directive_definition
directive_definitions = of_fields (λ d. (d.description, (d.name, (d.arguments, (d.repeatable, d.locations)))))
    (of_five made.directive_definition_of) (λ _. refl)
    (described (pairs (lists (nodes input_value_definitions)) (pairs flags locations)))

pub schema_definitions : Compares schema.ghosts.eq bare.bare_schema_definition
schema_definitions = of_fields (λ d. (d.description, (d.directives, d.root_operations)))
    (of_three made.schema_of) (λ _. refl)
    (pairs (options names) (pairs directive_lists (lists (nodes root_operations))))

pub scalar_type_definitions : Compares scalar.ghosts.eq bare.bare_scalar_type_definition
scalar_type_definitions = of_fields (λ d. (d.description, (d.name, d.directives)))
    (of_three made.scalar_type_of) (λ _. refl) (described directive_lists)

pub object_type_definitions : Compares object.ghosts.eq bare.bare_object_type_definition
object_type_definitions = of_fields
    (λ d. (d.description, (d.name, (d.implements_interfaces, (d.directives, d.fields)))))
    (of_five made.object_type_of) (λ _. refl) (described (pairs (lists names) (pairs directive_lists fields)))

pub interface_type_definitions : Compares interface.ghosts.eq bare.bare_interface_type_definition
interface_type_definitions = of_fields
    (λ d. (d.description, (d.name, (d.implements_interfaces, (d.directives, d.fields)))))
    (of_five made.interface_type_of) (λ _. refl)
    (described (pairs (lists names) (pairs directive_lists fields)))

pub union_type_definitions : Compares union_type.ghosts.eq bare.bare_union_type_definition
union_type_definitions = of_fields (λ d. (d.description, (d.name, (d.directives, d.members))))
    (of_four made.union_type_of) (λ _. refl) (described (pairs directive_lists (lists names)))

pub enum_type_definitions : Compares enum_type.ghosts.eq bare.bare_enum_type_definition
enum_type_definitions = of_fields (λ d. (d.description, (d.name, (d.directives, d.values))))
    (of_four made.enum_type_of) (λ _. refl)
    (described (pairs directive_lists (lists (nodes enum_value_definitions))))

pub input_object_type_definitions : Compares input_object.ghosts.eq bare.bare_input_object_type_definition
input_object_type_definitions = of_fields (λ d. (d.description, (d.name, (d.directives, d.fields))))
    (of_four made.input_object_type_of) (λ _. refl)
    (described (pairs directive_lists (lists (nodes input_value_definitions))))

pub schema_extensions : Compares schema_more.ghosts.eq bare.bare_schema_extension
schema_extensions = of_fields (λ d. (d.directives, d.root_operations)) (of_two made.schema_extension_of)
    (λ _. refl) (pairs directive_lists (lists (nodes root_operations)))

pub scalar_type_extensions : Compares scalar_more.ghosts.eq bare.bare_scalar_type_extension
scalar_type_extensions = of_fields (λ d. (d.name, d.directives)) (of_two made.scalar_extension_of) (λ _. refl)
    (pairs names directive_lists)

pub object_type_extensions : Compares object_more.ghosts.eq bare.bare_object_type_extension
object_type_extensions = of_fields (λ d. (d.name, (d.implements_interfaces, (d.directives, d.fields))))
    (of_four made.object_extension_of) (λ _. refl)
    (pairs names (pairs (lists names) (pairs directive_lists fields)))

pub interface_type_extensions : Compares interface_more.ghosts.eq bare.bare_interface_type_extension
interface_type_extensions = of_fields (λ d. (d.name, (d.implements_interfaces, (d.directives, d.fields))))
    (of_four made.interface_extension_of) (λ _. refl)
    (pairs names (pairs (lists names) (pairs directive_lists fields)))

pub union_type_extensions : Compares union_more.ghosts.eq bare.bare_union_type_extension
union_type_extensions = of_fields (λ d. (d.name, (d.directives, d.members)))
    (of_three made.union_extension_of) (λ _. refl) (pairs names (pairs directive_lists (lists names)))

pub enum_type_extensions : Compares enum_more.ghosts.eq bare.bare_enum_type_extension
enum_type_extensions = of_fields (λ d. (d.name, (d.directives, d.values))) (of_three made.enum_extension_of)
    (λ _. refl) (pairs names (pairs directive_lists (lists (nodes enum_value_definitions))))

pub input_object_type_extensions : Compares input_more.ghosts.eq bare.bare_input_object_type_extension
input_object_type_extensions = of_fields (λ d. (d.name, (d.directives, d.fields)))
    (of_three made.input_object_extension_of) (λ _. refl)
    (pairs names (pairs directive_lists (lists (nodes input_value_definitions))))
