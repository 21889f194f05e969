-- Equality of types and of schema definitions.
use Rattle.std.proofs.Common.{ℕ, Bool, false, List, Option, None, refl, ap}
use Rattle.graphql_nodes.specs.NameView.{NameView}
use Rattle.graphql_nodes.specs.declared.type_kind.TypeKind.{TypeKind}
use Rattle.graphql_nodes.specs.declared.type_kind.TypeKind.TheVariants as k
use Rattle.graphql_nodes.proofs.Comparisons.{Compares, At, of_part, made, names, options, pairs}
use Rattle.graphql_nodes.proofs.TableEquality.{tables_of_names}
use Rattle.graphql_ast.specs.declared.directive.Directive.{Directive}
use Rattle.graphql_ast.specs.declared.type_system.FieldDefinition.{FieldDefinition}
use Rattle.graphql_ast.proofs.TypeSystemEquality.{enum_value_definitions, field_definitions}
use Rattle.graphql_ast.proofs.TypeSystemEquality.{input_value_definitions}
use Rattle.apollo_component.proofs.ComponentEquality.{components, component_names, directive_lists}
use Rattle.apollo_component.proofs.ComponentEquality.{sets_of_component_names}
use Rattle.apollo_types.specs.BareTypes.{BareType, bare_scalar, bare_object, bare_interface, bare_union}
use Rattle.apollo_types.specs.BareTypes.{bare_enum, bare_input_object, bare_extended_type}
use Rattle.apollo_types.specs.BareTypes.{bare_schema_definition}
use Rattle.apollo_types.specs.declared.scalar_type.ScalarType.{ScalarType}
use Rattle.apollo_types.specs.declared.object_type.ObjectType.{ObjectType}
use Rattle.apollo_types.specs.declared.interface_type.InterfaceType.{InterfaceType}
use Rattle.apollo_types.specs.declared.union_type.UnionType.{UnionType}
use Rattle.apollo_types.specs.declared.enum_type.EnumType.{EnumType}
use Rattle.apollo_types.specs.declared.input_object_type.InputObjectType.{InputObjectType}
use Rattle.apollo_types.specs.declared.extended_type.ExtendedType.{ExtendedType}
use Rattle.apollo_types.specs.declared.extended_type.ExtendedType.TheVariants as t
use Rattle.apollo_types.specs.declared.schema_definition.SchemaDefinition.{SchemaDefinition}
use Rattle.apollo_types.specs.contracts.scalar_type.ScalarTypePartialEq.TheImpl as scalar
use Rattle.apollo_types.specs.contracts.object_type.ObjectTypePartialEq.TheImpl as object
use Rattle.apollo_types.specs.contracts.interface_type.InterfaceTypePartialEq.TheImpl as interface
use Rattle.apollo_types.specs.contracts.union_type.UnionTypePartialEq.TheImpl as union
use Rattle.apollo_types.specs.contracts.enum_type.EnumTypePartialEq.TheImpl as enum
use Rattle.apollo_types.specs.contracts.input_object_type.InputObjectTypePartialEq.TheImpl as input_object
use Rattle.apollo_types.specs.contracts.extended_type.ExtendedTypePartialEq.TheImpl as extended
use Rattle.apollo_types.specs.contracts.schema_definition.SchemaDefinitionPartialEq.TheImpl as schema

-- a type of a kind that has directives alone
abbrev plain : TypeKind → Option NameView → NameView → List Directive → BareType
plain kind description name directives = record {
  kind = kind;
  description = description;
  name = name;
  directives = directives;
  names = λ _. false;
  fields = λ _. None;
  values = λ _. None;
  input_fields = λ _. None;
}

pub scalars : Compares scalar.ghosts.eq bare_scalar
scalars = made (λ p. plain k.Scalar p.0 p.1.0 p.1.1) (λ t. (t.description, (t.name, t.directives)))
    (λ _. refl) (of_part (λ (t : ScalarType). (t.description, (t.name, t.directives)))
    (pairs (options names) (pairs names directive_lists)))

-- what object and interface types have, without locations and origins
abbrev Fielded : Type 0
Fielded = Option NameView × (NameView × ((List ℕ → Bool) × (List Directive × (List ℕ
    → Option FieldDefinition))))

abbrev fielded : TypeKind → Fielded → BareType
fielded kind p = record (plain kind p.0 p.1.0 p.1.1.1.0) { names = p.1.1.0; fields = p.1.1.1.1 }

abbrev has : BareType → Fielded
has t = (t.description, (t.name, (t.names, (t.directives, t.fields))))

fielded_types : Compares object.ghosts.eq bare_object × Compares interface.ghosts.eq bare_interface
fielded_types =
    let parts = pairs (options names) (pairs names (pairs sets_of_component_names (pairs directive_lists
    (tables_of_names (components field_definitions))))) in (
      made (fielded k.Object) has (λ _. refl) (of_part (λ (t : ObjectType). (
        t.description,
        (
          t.name,
          (t.implements_interfaces, (t.directives, t.fields)),
        ),
      )) parts),
      made (fielded k.Interface) has (λ _. refl) (of_part (λ (t : InterfaceType). (
        t.description,
        (
          t.name,
          (t.implements_interfaces, (t.directives, t.fields)),
        ),
      )) parts),
    )

pub objects : Compares object.ghosts.eq bare_object
objects = fielded_types.0

pub interfaces : Compares interface.ghosts.eq bare_interface
interfaces = fielded_types.1

pub unions : Compares union.ghosts.eq bare_union
unions = made (λ p. record (plain k.Union p.0 p.1.0 p.1.1.0) { names = p.1.1.1 })
    (λ t. (t.description, (t.name, (t.directives, t.names)))) (λ _. refl)
    (of_part (λ (t : UnionType). (t.description, (t.name, (t.directives, t.members))))
    (pairs (options names) (pairs names (pairs directive_lists sets_of_component_names))))

pub enums : Compares enum.ghosts.eq bare_enum
enums = made (λ p. record (plain k.Enum p.0 p.1.0 p.1.1.0) { values = p.1.1.1 })
    (λ t. (t.description, (t.name, (t.directives, t.values)))) (λ _. refl)
    (of_part (λ (t : EnumType). (t.description, (t.name, (t.directives, t.values)))) (pairs (options names)
    (pairs names (pairs directive_lists (tables_of_names (components enum_value_definitions))))))

pub input_objects : Compares input_object.ghosts.eq bare_input_object
input_objects = made (λ p. record (plain k.InputObject p.0 p.1.0 p.1.1.0) { input_fields = p.1.1.1 })
    (λ t. (t.description, (t.name, (t.directives, t.input_fields)))) (λ _. refl)
    (of_part (λ (t : InputObjectType). (t.description, (t.name, (t.directives, t.fields)))) (pairs (options
    names) (pairs names (pairs directive_lists (tables_of_names (components input_value_definitions))))))

type_at : (a b : ExtendedType) → At extended.ghosts.eq bare_extended_type a b
type_at (t.Scalar m) (t.Scalar n) = scalars.at m.value n.value
type_at (t.Object m) (t.Object n) = objects.at m.value n.value
type_at (t.Interface m) (t.Interface n) = interfaces.at m.value n.value
type_at (t.Union m) (t.Union n) = unions.at m.value n.value
type_at (t.Enum m) (t.Enum n) = enums.at m.value n.value
type_at (t.InputObject m) (t.InputObject n) = input_objects.at m.value n.value
type_at a b = (λ h. cc, λ h. let e = ap (λ (t : BareType). t.kind) h in cc)

pub extended_types : Compares extended.ghosts.eq bare_extended_type
extended_types = record { at = type_at }

pub schema_definitions : Compares schema.ghosts.eq bare_schema_definition
schema_definitions =
    let root = options component_names in
    made (λ p. record {
      description = p.0;
      directives = p.1.0;
      query = p.1.1.0;
      mutation = p.1.1.1.0;
      subscription = p.1.1.1.1;
    }) (λ d. (d.description, (d.directives, (d.query, (d.mutation, d.subscription))))) (λ _. refl)
    (of_part (λ (d : SchemaDefinition). (
      d.description,
      (
        d.directives,
        (
          d.query,
          (
            d.mutation,
            d.subscription,
          ),
        ),
      ),
    )) (pairs (options names) (pairs directive_lists (pairs root (pairs root root)))))
