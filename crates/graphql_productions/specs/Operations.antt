-- Operations and fragments: GraphQL specification of October 2021, sections 2.3, 2.8 and 2.10.
use Rattle.std.specs.Prelude.{ℕ, List, [], true, false, ◌||◌, Option, None}
use Rattle.graphql_nodes.specs.declared.source.FileId.{FileId}
use Rattle.graphql_nodes.specs.declared.operation_type.OperationType.{OperationType}
use Rattle.graphql_nodes.specs.declared.operation_type.OperationType.TheVariants as o
use Rattle.graphql_nodes.specs.NameView.{NameView}
use Rattle.graphql_nodes.specs.NodeView.{NodeView}
use Rattle.graphql_ast.specs.declared.directive.DirectiveList.{DirectiveList}
use Rattle.graphql_ast.specs.declared.operation.FragmentDefinition.{FragmentDefinition}
use Rattle.graphql_ast.specs.declared.operation.OperationDefinition.{OperationDefinition}
use Rattle.graphql_ast.specs.declared.operation.VariableDefinition.{VariableDefinition}
use Rattle.graphql_ast.specs.declared.selection.Selection.{Selection}
use Rattle.graphql_ast.specs.declared.type_reference.Type.{«Type» as TypeReference}
use Rattle.graphql_ast.specs.declared.value.Value.{Value}
use Rattle.graphql_grammar.specs.declared.fault.FaultKind.TheVariants.{Expected}
use Rattle.graphql_grammar.specs.declared.fault.Item.TheVariants as i
use Rattle.graphql_grammar.specs.declared.kind.Kind.{Kind}
use Rattle.graphql_grammar.specs.declared.kind.Kind.TheVariants as k
use Rattle.graphql_grammar.specs.Kinds.{Kinds, is_name, none, only}
use Rattle.graphql_grammar.specs.Pieces.{Piece, Wrong, branch, choose, headed, item, mapped, nothing}
use Rattle.graphql_grammar.specs.Pieces.{optional, seq, sign}
use Rattle.graphql_productions.specs.Directives.{directives}
use Rattle.graphql_productions.specs.Nodes.{behind, name, node, optional_list}
use Rattle.graphql_productions.specs.Selections.{fragment_name, selection_set, type_condition}
use Rattle.graphql_productions.specs.Types.{type}
use Rattle.graphql_productions.specs.Values.{value_node, variable}

-- what an operation type begins with
abbrev pub is_operation_type : Kinds
is_operation_type kind = only k.Query kind || (only k.Mutation kind || only k.Subscription kind)

-- a root of an operation was expected
abbrev pub no_root : Wrong
no_root = λ _. Expected i.RootOperation

-- the type of operation that begins with a word of this kind
abbrev pub operation_type_pick : Kind → Piece OperationType
operation_type_pick kind =
    choose (only k.Query kind) (mapped (λ _. o.Query) (sign k.Query)) (
    choose (only k.Mutation kind) (mapped (λ _. o.Mutation) (sign k.Mutation)) (
    choose (only k.Subscription kind) (mapped (λ _. o.Subscription) (sign k.Subscription)) (
    nothing no_root)))

-- OperationType
abbrev pub operation_type : Piece OperationType
operation_type = branch is_operation_type none operation_type_pick no_root

-- DefaultValue: `=` and a constant value: section 2.10
unfoldable pub default_body : FileId → ℕ → Piece (NodeView Value)
default_body file depth = mapped behind (seq (sign k.Equals) (value_node file true depth))

-- DefaultValue, which is constant
abbrev pub default_value : FileId → ℕ → Piece (NodeView Value)
default_value file depth = headed (only k.Equals) (default_body file depth)

-- the definition of a variable was expected
abbrev pub no_variable : Wrong
no_variable = λ _. Expected i.VariableDefinition

-- the definition of a variable of its name, type, default value and directives
abbrev pub variable_of : NameView
    × (Unit {0} × (NodeView TypeReference × (Option (NodeView Value) × DirectiveList))) → VariableDefinition
variable_of x = record { name = x.0; ty = x.1.1.0; default_value = x.1.1.1.0; directives = x.1.1.1.1 }

-- a type behind `:`, with a default value, if there is one, and directives
unfoldable pub typed : FileId → ℕ
    → Piece (Unit {0} × (NodeView TypeReference × (Option (NodeView Value) × DirectiveList)))
typed file depth =
    seq (sign k.Colon)
    (seq (node file (type file depth))
    (seq (optional (default_value file depth)) (directives file true depth)))

-- VariableDefinition: section 2.10
unfoldable pub variable_node : FileId → ℕ → Piece (NodeView VariableDefinition)
variable_node file depth = node file (mapped variable_of (seq (variable file) (typed file depth)))

-- VariableDefinition, which begins with `$`: section 2.10
abbrev pub variable_definition : FileId → ℕ → Piece (NodeView VariableDefinition)
variable_definition file depth = item (only k.Dollar) no_variable (variable_node file depth)

-- VariablesDefinition, if there is one
unfoldable pub variables : FileId → ℕ → Piece (List (NodeView VariableDefinition))
variables file depth =
    optional_list k.LeftParen k.RightParen no_variable depth (variable_definition file)

-- an operation of its parts
abbrev pub operation_of : OperationType
    × (Option NameView × (List (NodeView VariableDefinition) × (DirectiveList × List Selection)))
    → OperationDefinition
operation_of x = record {
  operation_type = x.0;
  name = x.1.0;
  variables = x.1.1.0;
  directives = x.1.1.1.0;
  selection_set = x.1.1.1.1;
}

-- the name of an operation
abbrev pub operation_name : FileId → Piece NameView
operation_name file = headed is_name (name file)

-- OperationDefinition: section 2.3
unfoldable pub operation : FileId → ℕ → Piece OperationDefinition
operation file depth =
    mapped operation_of
    (seq operation_type
    (seq (optional (operation_name file))
    (seq (variables file depth) (seq (directives file false depth) (selection_set file depth)))))

-- a query of selections alone
abbrev pub shorthand_of : List Selection → OperationDefinition
shorthand_of selections =
    record {
      operation_type = o.Query;
      name = None;
      variables = [];
      directives = record { 0 = [] };
      selection_set = selections;
    }

-- a query without the word, a name, variables and directives
unfoldable pub shorthand : FileId → ℕ → Piece OperationDefinition
shorthand file depth = mapped shorthand_of (selection_set file depth)

-- a fragment of its name, condition, directives and selections
abbrev pub fragment_of : Unit {0} × (NameView × (NameView × (DirectiveList × List Selection)))
    → FragmentDefinition
fragment_of x =
    record { name = x.1.0; type_condition = x.1.1.0; directives = x.1.1.1.0; selection_set = x.1.1.1.1 }

-- FragmentDefinition: section 2.8
unfoldable pub fragment_definition : FileId → ℕ → Piece FragmentDefinition
fragment_definition file depth =
    mapped fragment_of
    (seq (sign k.Fragment)
    (seq (fragment_name file)
    (seq (type_condition file) (seq (directives file false depth) (selection_set file depth)))))
