-- The text of operations and fragments: GraphQL specification of October 2021, sections 2.3, 2.8 and 2.10.
use Rattle.std.specs.Prelude.{ℕ, Bool, true, false, List, [], ◌∷◌, ◌++◌, Option, None, Some, if◌then◌else◌}
use Rattle.std.specs.Prelude.{codes}
use Rattle.graphql_nodes.specs.NameView.{NameView}
use Rattle.graphql_nodes.specs.NodeView.{NodeView}
use Rattle.graphql_nodes.specs.OperationTexts.{operation_text}
use Rattle.graphql_nodes.specs.declared.operation_type.OperationType.{OperationType}
use Rattle.graphql_nodes.specs.declared.operation_type.OperationType.TheVariants.{Query, Mutation}
use Rattle.graphql_nodes.specs.declared.operation_type.OperationType.TheVariants.{Subscription}
use Rattle.graphql_ast.specs.declared.directive.Directive.{Directive}
use Rattle.graphql_ast.specs.declared.operation.FragmentDefinition.{FragmentDefinition}
use Rattle.graphql_ast.specs.declared.operation.OperationDefinition.{OperationDefinition}
use Rattle.graphql_ast.specs.declared.operation.VariableDefinition.{VariableDefinition}
use Rattle.graphql_ast.specs.declared.value.Value.{Value}
use Rattle.graphql_printing.specs.Layout.{enclosed}
use Rattle.graphql_printing.specs.Selections.{selections_behind, selections_text}
use Rattle.graphql_printing.specs.Texts.{directives_text, type_text, value_text}

-- a default value, as ` = 1`, or nothing where there is none
abbrev pub default_text : Option (NodeView Value) → List ℕ
default_text None = []
default_text (Some default) = codes " = " ++ value_text default.value

-- a variable, as `$a: Int = 1 @b`: section 2.10
abbrev pub variable_text : NodeView VariableDefinition → List ℕ
variable_text variable =
    codes "$" ++ variable.value.name.text ++ codes ": " ++ type_text variable.value.ty.value
    ++ default_text variable.value.default_value ++ directives_text variable.value.directives.0

-- variables behind an opening, as `($a: Int, $b: Int)`, or nothing where there is none
abbrev pub variables_text : List ℕ → List (NodeView VariableDefinition) → List ℕ
variables_text opening variables = enclosed opening (codes ", ") (codes ")") variable_text variables

-- an operation's name and variables, behind a blank, or nothing where it has neither
abbrev pub signature_text : Option NameView → List (NodeView VariableDefinition) → List ℕ
signature_text None variables = variables_text (codes " (") variables
signature_text (Some name) variables = codes " " ++ name.text ++ variables_text (codes "(") variables

-- an operation with its keyword, as `query Q @a {..}`
abbrev pub long_text : OperationDefinition → List ℕ
long_text operation =
    operation_text operation.operation_type ++ signature_text operation.name operation.variables
    ++ directives_text operation.directives.0 ++ selections_behind (codes " {") 0 operation.selection_set

-- whether an operation is a query without name, variables and directives, which are written as its selections
-- alone
abbrev pub is_short : OperationType → Option NameView → List (NodeView VariableDefinition)
    → List (NodeView Directive) → Bool
is_short Query None [] [] = true
is_short Query None [] (directive ∷ directives) = false
is_short Query None (variable ∷ variables) directives = false
is_short Query (Some name) variables directives = false
is_short Mutation name variables directives = false
is_short Subscription name variables directives = false

-- an operation: section 2.3
abbrev pub operation_definition_text : OperationDefinition → List ℕ
operation_definition_text operation =
    if is_short operation.operation_type operation.name operation.variables operation.directives.0
    then selections_text 0 operation.selection_set
    else long_text operation

-- a fragment, as `fragment F on T @a {..}`: section 2.8
abbrev pub fragment_definition_text : FragmentDefinition → List ℕ
fragment_definition_text fragment =
    codes "fragment " ++ fragment.name.text ++ codes " on " ++ fragment.type_condition.text
    ++ directives_text fragment.directives.0 ++ selections_behind (codes " {") 0 fragment.selection_set
