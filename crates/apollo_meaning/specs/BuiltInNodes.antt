-- Nodes in the file of built-in definitions, with no description and no directive: GraphQL specification of
-- October 2021, sections 3.5, 3.13 and 4.2.
use Rattle.std.specs.Prelude.{ℕ, List, [], ◌∷◌, Option, None, Some, false, option_map}
use Rattle.graphql_nodes.specs.NameView.{NameView}
use Rattle.graphql_nodes.specs.NodeView.{NodeView}
use Rattle.graphql_nodes.specs.declared.source.SourceSpan.{SourceSpan}
use Rattle.graphql_ast.specs.declared.directive.DirectiveList.{DirectiveList}
use Rattle.graphql_nodes.specs.declared.directive_location.DirectiveLocation.{DirectiveLocation}
use Rattle.graphql_ast.specs.declared.type_reference.Type.{«Type» as TypeReference, Named, NonNullNamed}
use Rattle.graphql_ast.specs.declared.type_reference.Type.{«List» as PlainList, NonNullList}
use Rattle.graphql_ast.specs.declared.value.Value.{Value}
use Rattle.graphql_ast.specs.declared.type_system.FieldDefinition.{FieldDefinition}
use Rattle.graphql_ast.specs.declared.type_system.InputValueDefinition.{InputValueDefinition}
use Rattle.graphql_ast.specs.declared.type_system.EnumValueDefinition.{EnumValueDefinition}
use Rattle.graphql_ast.specs.declared.definition.Definition.{Definition}
use Rattle.graphql_ast.specs.declared.definition.Definition.TheVariants as ast

-- where all of it stands: in the file of number 0
abbrev pub built_in_location : Option SourceSpan
built_in_location = Some (record { file = record { 0 = 0 }; start = 0; end = 0 })

-- a node in that file
abbrev pub node : {T : Type 0} → T → NodeView T
node value = record { value = value; location = built_in_location }

-- a name in that file
abbrev pub name : List ℕ → NameView
name text = record { text = text; location = built_in_location }

-- no directive is applied
abbrev pub no_directives : DirectiveList
no_directives = record { 0 = [] }

-- a nullable type of this name: `text`
abbrev pub named_type : List ℕ → TypeReference
named_type text = Named (name text)

-- a non-null type of this name: `text!`
abbrev pub non_null : List ℕ → TypeReference
non_null text = NonNullNamed (name text)

-- a nullable list type: `[inner]`
abbrev pub list_of : TypeReference → TypeReference
list_of inner = PlainList inner

-- a non-null list type: `[inner]!`
abbrev pub non_null_list_of : TypeReference → TypeReference
non_null_list_of inner = NonNullList inner

-- the definition of an argument, with its default value if it has one
abbrev pub argument : List ℕ → TypeReference → Option Value → NodeView InputValueDefinition
argument text ty default =
    node (record {
      description = None;
      name = name text;
      ty = node ty;
      default_value = option_map node default;
      directives = no_directives;
    })

-- the definition of a field, with its arguments
abbrev pub field : List ℕ → List (NodeView InputValueDefinition) → TypeReference → NodeView FieldDefinition
field text arguments ty =
    node (record {
      description = None;
      name = name text;
      arguments = arguments;
      ty = ty;
      directives = no_directives;
    })

-- the definition of an enum value
abbrev pub enum_value : List ℕ → NodeView EnumValueDefinition
enum_value text = node (record { description = None; value = name text; directives = no_directives })

-- the definition of a scalar type
abbrev pub scalar : List ℕ → Definition
scalar text =
    ast.ScalarTypeDefinition
    (node (record { description = None; name = name text; directives = no_directives }))

-- the definition of an object type with these fields, which implements no interface
abbrev pub object : List ℕ → List (NodeView FieldDefinition) → Definition
object text fields =
    ast.ObjectTypeDefinition
    (node (record {
      description = None;
      name = name text;
      implements_interfaces = [];
      directives = no_directives;
      fields = fields;
    }))

-- the definition of an enum type with these values
abbrev pub enumeration : List ℕ → List (NodeView EnumValueDefinition) → Definition
enumeration text values =
    ast.EnumTypeDefinition
    (node (record { description = None; name = name text; directives = no_directives; values = values }))

-- the definition of a directive that isn't repeatable, with one argument, for these directive locations
abbrev pub directive : List ℕ → NodeView InputValueDefinition → List DirectiveLocation → Definition
directive text argument locations =
    ast.DirectiveDefinition
    (node (record {
      description = None;
      name = name text;
      arguments = argument ∷ [];
      repeatable = false;
      locations = locations;
    }))
