-- Arguments by their names: GraphQL specification of October 2021, sections 2.6 and 3.6.1.
--
-- **Specified value.** The specified value of a name is the value of the first argument of that name. An
-- explicit null is a specified value like any other.
--
-- **Value of an argument.** The value of an argument is the specified one, if there is one. Else,
-- without a definition: `NoSuchArgument`. Else the definition's default value, if there is one. Else, if
-- the definition's type is non-null: `RequiredArgumentNotSpecified`. Else none.
use Rattle.std.specs.Prelude.{List, Option, None, Some, Bool, true, false, find, Result, Ok, Err, option_map}
use Rattle.std.specs.Prelude.{is_none, ◌&&◌}
use Rattle.graphql_nodes.specs.NameView.{NameView}
use Rattle.graphql_nodes.specs.NodeView.{NodeView}
use Rattle.graphql_nodes.specs.SameText.{same_text}
use Rattle.graphql_ast.specs.TypeReferences.{is_required}
use Rattle.graphql_ast.specs.declared.value.Value.{Value}
use Rattle.graphql_ast.specs.declared.directive.Argument.{Argument}
use Rattle.graphql_ast.specs.declared.type_system.InputValueDefinition.{InputValueDefinition}
use Rattle.graphql_ast.specs.declared.directive.ArgumentByNameError.{ArgumentByNameError}
use Rattle.graphql_ast.specs.declared.directive.ArgumentByNameError.TheVariants.{RequiredArgumentNotSpecified}
use Rattle.graphql_ast.specs.declared.directive.ArgumentByNameError.TheVariants.{NoSuchArgument}

-- whether a value has to be given: the type is non-null, and there is no default value
abbrev pub requires_value : InputValueDefinition → Bool
requires_value d = is_required d.ty.value && is_none d.default_value

-- the first argument definition of the name
abbrev pub defined_argument : List (NodeView InputValueDefinition) → NameView
    → Option (NodeView InputValueDefinition)
defined_argument arguments n =
    find (λ (a : NodeView InputValueDefinition). same_text a.value.name n) arguments

-- the value of the first argument of the name
abbrev pub specified_value : List (NodeView Argument) → NameView → Option (NodeView Value)
specified_value arguments n =
    option_map (λ (a : NodeView Argument). a.value.value)
    (find (λ (a : NodeView Argument). same_text a.value.name n) arguments)

-- without a default value: none, which a required type doesn't allow
abbrev pub without_default : Bool → Result (Option (NodeView Value)) ArgumentByNameError
without_default true = Err RequiredArgumentNotSpecified
without_default false = Ok None

-- the default value, if there is one
abbrev pub by_default : Option (NodeView Value) → Bool → Result (Option (NodeView Value)) ArgumentByNameError
by_default (Some v) required = Ok (Some v)
by_default None required = without_default required

-- what the argument's definition gives, if it has one
abbrev pub by_definition : Option (NodeView InputValueDefinition)
    → Result (Option (NodeView Value)) ArgumentByNameError
by_definition None = Err NoSuchArgument
by_definition (Some d) = by_default d.value.default_value (is_required d.value.ty.value)

-- the specified value, else what the definition gives
abbrev pub argument_value : Option (NodeView Value) → Option (NodeView InputValueDefinition)
    → Result (Option (NodeView Value)) ArgumentByNameError
argument_value (Some v) d = Ok (Some v)
argument_value None d = by_definition d
