use Rattle.graphql_ast.proofs.ValueEquality.{values}
use Rattle.graphql_ast.proofs.TypeEquality.{types}
use Rattle.graphql_ast.proofs.DirectiveEquality.{argument_by_name_errors, arguments, directives}
use Rattle.graphql_ast.proofs.DirectiveEquality.{directive_lists}
use Rattle.graphql_ast.proofs.laws.equality_of_values_and_directives.Goals as goal

pub returns-clause-value : goal.returns-clause-value
returns-clause-value c = values.at

pub returns-clause-ty : goal.returns-clause-ty
returns-clause-ty c = types.at

pub returns-clause-argument : goal.returns-clause-argument
returns-clause-argument c = arguments.at

pub returns-clause-directive : goal.returns-clause-directive
returns-clause-directive c = directives.at

pub returns-clause-directive_list : goal.returns-clause-directive_list
returns-clause-directive_list c = directive_lists.at

pub returns-clause-argument_by_name_error : goal.returns-clause-argument_by_name_error
returns-clause-argument_by_name_error c = argument_by_name_errors.at
