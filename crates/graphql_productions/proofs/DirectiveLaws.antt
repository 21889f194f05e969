-- Arguments and directives are tame.
use Rattle.std.proofs.Common.{Bool, refl}
use Rattle.graphql_nodes.specs.declared.source.FileId.{FileId}
use Rattle.graphql_grammar.specs.declared.kind.Kind.TheVariants as k
use Rattle.graphql_grammar.specs.Kinds.{is_name, only}
use Rattle.graphql_productions.specs.Directives.{argument, argument_node, arguments, directive}
use Rattle.graphql_productions.specs.Directives.{directive_node, directives, no_argument, no_directive}
use Rattle.graphql_productions.specs.Nodes.{name}
use Rattle.graphql_productions.proofs.TamePieces.{Nesting, item_tame, many_tame, mapped_tame, optional_tame}
use Rattle.graphql_productions.proofs.TamePieces.{seq_tame, sign_tame}
use Rattle.graphql_productions.proofs.NodeLaws.{list_led, name_tame, node_tame}
use Rattle.graphql_productions.proofs.ValueLaws.{value_node_tame}

pub argument_tame : (file : FileId) (constant : Bool) → Nesting (argument file constant)
unfolding argument_node name
argument_tame file constant depth =
    item_tame is_name no_argument
    (node_tame (mapped_tame (seq_tame (name_tame file) (seq_tame (sign_tame k.Colon refl)
    (value_node_tame file constant depth) refl) refl)) refl) refl refl

pub arguments_tame : (file : FileId) (constant : Bool) → Nesting (arguments file constant)
unfolding arguments argument_node name
arguments_tame file constant depth =
    mapped_tame (optional_tame (list_led k.LeftParen k.RightParen no_argument (argument file constant)
    (argument_tame file constant) refl refl (λ n. refl) (λ n. refl) (λ n. refl) depth) refl)

pub directive_tame : (file : FileId) (constant : Bool) → Nesting (directive file constant)
unfolding directive_node arguments name
directive_tame file constant depth =
    item_tame (only k.At) no_directive
    (node_tame (mapped_tame (seq_tame (sign_tame k.At refl)
    (seq_tame (name_tame file) (arguments_tame file constant depth) refl) refl)) refl) refl refl

pub directives_tame : (file : FileId) (constant : Bool) → Nesting (directives file constant)
unfolding directives directive_node arguments name
directives_tame file constant depth = mapped_tame (many_tame (directive_tame file constant depth) refl refl)
