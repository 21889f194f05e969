-- Operations and fragments are tame.
use Rattle.std.proofs.Common.{[], false, refl, true, ◌∷◌}
use Rattle.graphql_nodes.specs.declared.operation_type.OperationType.TheVariants as o
use Rattle.graphql_nodes.specs.declared.source.FileId.{FileId}
use Rattle.graphql_grammar.specs.declared.kind.Kind.TheVariants as k
use Rattle.graphql_grammar.specs.Kinds.{is_name, none, only}
use Rattle.graphql_grammar.specs.Pieces.{seq}
use Rattle.graphql_grammar.proofs.ViableLaws.{bare_word}
use Rattle.graphql_productions.specs.Directives.{arguments, directive_node, directives}
use Rattle.graphql_productions.specs.Nodes.{name}
use Rattle.graphql_productions.specs.Operations.{default_body, default_value, fragment_definition}
use Rattle.graphql_productions.specs.Operations.{is_operation_type, no_root, no_variable, operation}
use Rattle.graphql_productions.specs.Operations.{operation_type, operation_type_pick, shorthand, typed}
use Rattle.graphql_productions.specs.Operations.{variable_definition, variable_node, variables}
use Rattle.graphql_productions.specs.Selections.{fragment_name, selection_set}
use Rattle.graphql_productions.specs.Values.{variable}
use Rattle.graphql_productions.proofs.TamePieces.{Nesting, Steady, begun, branch_tame, choose_tame}
use Rattle.graphql_productions.proofs.TamePieces.{headed_tame, item_tame, led, mapped_tame, nothing_tame}
use Rattle.graphql_productions.proofs.TamePieces.{optional_tame, seq_tame, sign_tame}
use Rattle.graphql_productions.proofs.NodeLaws.{list_led, name_tame, node_tame}
use Rattle.graphql_productions.proofs.TypeLaws.{type_tame}
use Rattle.graphql_productions.proofs.ValueLaws.{value_node_tame, variable_tame}
use Rattle.graphql_productions.proofs.DirectiveLaws.{directives_tame}
use Rattle.graphql_productions.proofs.SelectionLaws.{condition_tame, fragment_name_tame, selection_set_tame}

pub operation_type_tame : Steady operation_type
operation_type_tame = begun (branch_tame is_operation_type none operation_type_pick operation_type_pick
    no_root (λ kind. choose_tame (only k.Query kind) (led (mapped_tame (sign_tame k.Query refl)))
    (choose_tame (only k.Mutation kind) (led (mapped_tame (sign_tame k.Mutation refl)))
    (choose_tame (only k.Subscription kind) (led (mapped_tame (sign_tame k.Subscription refl)))
    (nothing_tame no_root)))) refl refl refl) o.Query (bare_word k.Query
    ∷ []) (tt, refl, (bare_word k.Query, refl, refl))

default_tame : (file : FileId) → Nesting (default_value file)
unfolding default_body
default_tame file depth = headed_tame (only k.Equals)
    (mapped_tame (seq_tame (sign_tame k.Equals refl) (value_node_tame file true depth) refl)) refl refl refl

pub typed_tame : (file : FileId) → Nesting (typed file)
unfolding typed directives directive_node arguments name
typed_tame file depth = seq_tame (sign_tame k.Colon refl) (seq_tame (node_tame (type_tame file depth) refl)
    (seq_tame (optional_tame (led (default_tame file depth)) refl) (directives_tame file true depth) refl)
    refl) refl

pub variable_definition_tame : (file : FileId) → Nesting (variable_definition file)
unfolding variable_node variable name
variable_definition_tame file depth = item_tame (only k.Dollar) no_variable
    (node_tame (mapped_tame (seq_tame (variable_tame file) (typed_tame file depth) refl)) refl) refl refl

variables_tame : (file : FileId) → Nesting (variables file)
unfolding variables variable_node typed directives directive_node arguments name
variables_tame file depth =
    mapped_tame (optional_tame (list_led k.LeftParen k.RightParen no_variable (variable_definition file)
    (variable_definition_tame file) refl refl (λ n. refl) (λ n. refl) (λ n. refl) depth) refl)

-- directives, and a selection set
directed_tame : (file : FileId)
    → Nesting (λ depth. seq (directives file false depth) (selection_set file depth))
unfolding directives directive_node arguments name
directed_tame file depth = seq_tame (directives_tame file false depth) (selection_set_tame file depth) refl

pub operation_tame : (file : FileId) → Nesting (operation file)
unfolding operation variables directives name directive_node arguments
operation_tame file depth =
    mapped_tame (seq_tame operation_type_tame
    (seq_tame (optional_tame (led (headed_tame is_name (name_tame file) refl refl refl)) refl)
    (seq_tame (variables_tame file depth) (directed_tame file depth) refl) refl) refl)

pub shorthand_tame : (file : FileId) → Nesting (shorthand file)
unfolding shorthand
shorthand_tame file depth = mapped_tame (selection_set_tame file depth)

pub fragment_definition_tame : (file : FileId) → Nesting (fragment_definition file)
unfolding fragment_definition fragment_name directives directive_node arguments name
fragment_definition_tame file depth =
    mapped_tame (seq_tame (sign_tame k.Fragment refl) (seq_tame (fragment_name_tame file)
    (seq_tame (condition_tame file) (directed_tame file depth) refl) refl) refl)
