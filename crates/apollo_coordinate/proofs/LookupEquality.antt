-- Equality of what lookups of coordinates answer, by that of what they find.
use Rattle.std.proofs.Common.{◌≡◌, Bool, ap}
use Rattle.graphql_nodes.proofs.Comparisons.{At}
use Rattle.graphql_nodes.specs.Comparing.{ComparesBy}
use Rattle.graphql_ast.specs.BareTypeSystem.{bare_directive_definition, bare_enum_value_definition}
use Rattle.graphql_ast.specs.BareTypeSystem.{bare_field_definition, bare_input_value_definition}
use Rattle.graphql_ast.specs.contracts.type_system.DirectiveDefinitionPartialEq.TheImpl as directive_eq
use Rattle.graphql_ast.specs.contracts.type_system.EnumValueDefinitionPartialEq.TheImpl as enum_value_eq
use Rattle.graphql_ast.specs.contracts.type_system.FieldDefinitionPartialEq.TheImpl as field_eq
use Rattle.graphql_ast.specs.contracts.type_system.InputValueDefinitionPartialEq.TheImpl as input_value_eq
use Rattle.apollo_types.specs.BareTypes.{bare_extended_type}
use Rattle.apollo_types.specs.contracts.extended_type.ExtendedTypePartialEq.TheImpl as extended_type
use Rattle.apollo_coordinate.specs.BareLookups.{BareLookup, bare_attribute_lookup, bare_lookup}
use Rattle.apollo_coordinate.specs.declared.lookup_answers.SchemaCoordinateLookup.{SchemaCoordinateLookup}
use Rattle.apollo_coordinate.specs.declared.lookup_answers.SchemaCoordinateLookup.TheVariants as answers
use Rattle.apollo_coordinate.specs.declared.lookup_answers.TypeAttributeLookup.{TypeAttributeLookup}
use Rattle.apollo_coordinate.specs.declared.lookup_answers.TypeAttributeLookup.TheVariants as attributes
use Rattle.apollo_coordinate.specs.contracts.lookup_answers.SchemaCoordinateLookupPartialEq.TheImpl as answer
use Rattle.apollo_coordinate.specs.contracts.lookup_answers.TypeAttributeLookupPartialEq.TheImpl as attribute

-- what is compared is compared as the answer that it is
under : {A B : Type 0} {E : A → A → Bool} {f : A → B} → ComparesBy E f → (answer : B → BareLookup)
    → ((b c : B) → answer b ≡ answer c → b ≡ c) → (x y : A) → At E (λ a. answer (f a)) x y
under compares answer own x y =
    let s = compares x y in (λ h. ap answer (s.0 h), λ h. s.1 (own _ _ h))

module _ (fields : ComparesBy field_eq.ghosts.eq bare_field_definition)
    (input_values : ComparesBy input_value_eq.ghosts.eq bare_input_value_definition)
    (enum_values : ComparesBy enum_value_eq.ghosts.eq bare_enum_value_definition) where
  pub attribute_at : (a b : TypeAttributeLookup) → At attribute.ghosts.eq bare_attribute_lookup a b
  attribute_at (attributes.Field x) (attributes.Field y) = under fields BareLookup.Field (λ b c e. cc)
      x.now.node.value y.now.node.value
  attribute_at (attributes.InputField x) (attributes.InputField y) =
      under input_values BareLookup.InputField (λ b c e. cc) x.now.node.value y.now.node.value
  attribute_at (attributes.EnumValue x) (attributes.EnumValue y) =
      under enum_values BareLookup.EnumValue (λ b c e. cc) x.now.node.value y.now.node.value
  attribute_at a b = (λ h. cc, λ h. cc)

  module _ (types : ComparesBy extended_type.ghosts.eq bare_extended_type)
      (directives : ComparesBy directive_eq.ghosts.eq bare_directive_definition) where
    pub answer_at : (a b : SchemaCoordinateLookup) → At answer.ghosts.eq bare_lookup a b
    answer_at (answers.Ty x) (answers.Ty y) = under types BareLookup.Ty (λ b c e. cc) x.now y.now
    answer_at (answers.Directive x) (answers.Directive y) =
        under directives BareLookup.Directive (λ b c e. cc) x.now.value y.now.value
    answer_at (answers.Field x) (answers.Field y) = attribute_at (attributes.Field x) (attributes.Field y)
    answer_at (answers.InputField x) (answers.InputField y) =
        attribute_at (attributes.InputField x) (attributes.InputField y)
    answer_at (answers.EnumValue x) (answers.EnumValue y) =
        attribute_at (attributes.EnumValue x) (attributes.EnumValue y)
    answer_at (answers.Argument x) (answers.Argument y) = under input_values BareLookup.Argument (λ b c e. cc)
        x.now.value y.now.value
    answer_at a b = (λ h. cc, λ h. cc)
