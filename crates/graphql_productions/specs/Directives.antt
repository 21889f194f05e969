-- Arguments and directives: GraphQL specification of October 2021, sections 2.6 and 2.12.
use Rattle.std.specs.Prelude.{ℕ, Bool, List}
use Rattle.graphql_nodes.specs.declared.source.FileId.{FileId}
use Rattle.graphql_nodes.specs.NameView.{NameView}
use Rattle.graphql_nodes.specs.NodeView.{NodeView}
use Rattle.graphql_ast.specs.declared.value.Value.{Value}
use Rattle.graphql_ast.specs.declared.directive.Argument.{Argument}
use Rattle.graphql_ast.specs.declared.directive.Directive.{Directive}
use Rattle.graphql_ast.specs.declared.directive.DirectiveList.{DirectiveList}
use Rattle.graphql_grammar.specs.declared.fault.FaultKind.TheVariants.{Expected}
use Rattle.graphql_grammar.specs.declared.fault.Item.TheVariants as i
use Rattle.graphql_grammar.specs.declared.kind.Kind.TheVariants as k
use Rattle.graphql_grammar.specs.Kinds.{is_name, only}
use Rattle.graphql_grammar.specs.Pieces.{Piece, Wrong, item, many, mapped, optional, seq, sign, some}
use Rattle.graphql_productions.specs.Nodes.{enclosed, name, node, or_none}
use Rattle.graphql_productions.specs.Values.{value_node}

-- an argument of its name and its value
abbrev pub argument_of : NameView × (Unit {0} × NodeView Value) → Argument
argument_of x = record { name = x.0; value = x.1.1 }

-- an argument was expected
abbrev pub no_argument : Wrong
no_argument = λ _. Expected i.Argument

-- Argument, constant or not
unfoldable pub argument_node : FileId → Bool → ℕ → Piece (NodeView Argument)
argument_node file constant depth =
    node file (mapped argument_of (seq (name file) (seq (sign k.Colon) (value_node file constant depth))))

-- Argument, which begins with a name: section 2.6
abbrev pub argument : FileId → Bool → ℕ → Piece (NodeView Argument)
argument file constant depth = item is_name no_argument (argument_node file constant depth)

-- Arguments, in parentheses, one at least: section 2.6
abbrev pub argument_list : FileId → Bool → ℕ → Piece (List (NodeView Argument))
argument_list file constant depth =
    enclosed k.LeftParen k.RightParen no_argument depth (λ inside. some (argument file constant inside))

-- Arguments, if there are any
unfoldable pub arguments : FileId → Bool → ℕ → Piece (List (NodeView Argument))
arguments file constant depth = mapped or_none (optional (argument_list file constant depth))

-- a directive of its name and its arguments
abbrev pub directive_of : Unit {0} × (NameView × List (NodeView Argument)) → Directive
directive_of x = record { name = x.1.0; arguments = x.1.1 }

-- a directive was expected
abbrev pub no_directive : Wrong
no_directive = λ _. Expected (i.Word k.At)

-- Directive, constant or not
unfoldable pub directive_node : FileId → Bool → ℕ → Piece (NodeView Directive)
directive_node file constant depth =
    node file (mapped directive_of (seq (sign k.At) (seq (name file) (arguments file constant depth))))

-- Directive, which begins with `@`: section 2.12
abbrev pub directive : FileId → Bool → ℕ → Piece (NodeView Directive)
directive file constant depth = item (only k.At) no_directive (directive_node file constant depth)

-- Directives, if there are any
unfoldable pub directives : FileId → Bool → ℕ → Piece DirectiveList
directives file constant depth = mapped (λ x. record { 0 = x }) (many (directive file constant depth))
