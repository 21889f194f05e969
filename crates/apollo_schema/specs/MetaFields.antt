-- The fields that types have without declaring them: GraphQL specification of October 2021, sections 4.1 and
-- 4.2. They have no description and no directive, and have no location.
--
-- **Meta-fields.** `__typename: String!`, `__schema: __Schema!` and `__type(name: String!): __Type`,
-- without descriptions and directives, of the origin "definition" and without locations. A type has
-- `__typename` if it is an object, an interface or a union. If the name that it is looked up by is that
-- of the query root it has the other two, whatever its kind.
use Rattle.std.specs.Prelude.{ℕ, List, [], ◌∷◌, None, codes}
use Rattle.graphql_nodes.specs.NameView.{plain_name}
use Rattle.graphql_nodes.specs.NodeView.{NodeView}
use Rattle.graphql_ast.specs.declared.type_reference.Type.{«Type» as TypeReference, Named, NonNullNamed}
use Rattle.graphql_ast.specs.declared.type_system.FieldDefinition.{FieldDefinition}
use Rattle.graphql_ast.specs.declared.type_system.InputValueDefinition.{InputValueDefinition}
use Rattle.apollo_component.specs.declared.component.Component.{Component}
use Rattle.apollo_component.specs.declared.extension.ComponentOrigin.TheVariants.{Definition}

-- a value at no location
abbrev pub plain_node : {T : Type 0} → T → NodeView T
plain_node value = record { value = value; location = None }

-- a field with these arguments and this type, which comes from a definition
abbrev pub plain_field : List ℕ → List (NodeView InputValueDefinition) → TypeReference
    → Component FieldDefinition
plain_field text arguments ty = record {
  origin = Definition;
  node = plain_node (record {
    description = None;
    name = plain_name text;
    arguments = arguments;
    ty = ty;
    directives = record { 0 = [] };
  });
}

-- the definition of an argument of this name and type, without a default value
abbrev pub plain_argument : List ℕ → TypeReference → NodeView InputValueDefinition
plain_argument text ty =
    plain_node (record {
      description = None;
      name = plain_name text;
      ty = plain_node ty;
      default_value = None;
      directives = record { 0 = [] };
    })

-- `__typename: String!`
abbrev pub typename_field : Component FieldDefinition
typename_field = plain_field (codes "__typename") [] (NonNullNamed (plain_name (codes "String")))

-- `__schema: __Schema!`
abbrev pub schema_field : Component FieldDefinition
schema_field = plain_field (codes "__schema") [] (NonNullNamed (plain_name (codes "__Schema")))

-- `__type(name: String!): __Type`
abbrev pub type_by_name_field : Component FieldDefinition
type_by_name_field = plain_field (codes "__type")
    (plain_argument (codes "name") (NonNullNamed (plain_name (codes "String"))) ∷ [])
    (Named (plain_name (codes "__Type")))
