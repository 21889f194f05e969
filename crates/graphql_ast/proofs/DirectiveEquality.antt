-- Equality of arguments, of the errors of those that have no value, and of applied directives.
use Rattle.std.proofs.Common.{refl}
use denote.Enum.Bare.{sameb}
use Rattle.graphql_ast.specs.Bare.{bare_argument, bare_directive, bare_directive_list}
use Rattle.graphql_ast.specs.declared.directive.ArgumentByNameError.{ArgumentByNameError}
use Rattle.graphql_ast.specs.contracts.directive.ArgumentByNameError as error
use Rattle.graphql_ast.specs.contracts.directive.ArgumentPartialEq.TheImpl as argument
use Rattle.graphql_ast.specs.contracts.directive.DirectivePartialEq.TheImpl as directive
use Rattle.graphql_ast.specs.contracts.directive.DirectiveListPartialEq.TheImpl as list
use Rattle.graphql_nodes.proofs.Comparisons.{Compares, of_fields, of_two, pairs, names, nodes, lists, kinds}
use Rattle.graphql_ast.proofs.ValueEquality.{values}

pub arguments : Compares argument.ghosts.eq bare_argument
arguments = of_fields (λ a. (a.name, a.value)) (of_two (λ n v. record { name = n; value = v })) (λ _. refl)
    (pairs names (nodes values))

pub argument_by_name_errors : Compares (sameb error.the_type) (λ (e : ArgumentByNameError). e)
argument_by_name_errors = kinds error.the_type tt

pub directives : Compares directive.ghosts.eq bare_directive
directives = of_fields (λ d. (d.name, d.arguments)) (of_two (λ n a. record { name = n; arguments = a }))
    (λ _. refl) (pairs names (lists (nodes arguments)))

pub directive_lists : Compares list.ghosts.eq bare_directive_list
directive_lists = of_fields (λ l. l.0) (λ p. record { 0 = p }) (λ _. refl) (lists (nodes directives))
