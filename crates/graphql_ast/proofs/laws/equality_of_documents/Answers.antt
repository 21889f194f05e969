use Rattle.graphql_ast.proofs.DocumentEquality.{variable_definitions, operation_definitions}
use Rattle.graphql_ast.proofs.DocumentEquality.{fragment_definitions, definitions, documents}
use Rattle.graphql_ast.proofs.laws.equality_of_documents.Goals as goal

pub returns-clause-variable_definition : goal.returns-clause-variable_definition
returns-clause-variable_definition c = variable_definitions.at

pub returns-clause-operation_definition : goal.returns-clause-operation_definition
returns-clause-operation_definition c = operation_definitions.at

pub returns-clause-fragment_definition : goal.returns-clause-fragment_definition
returns-clause-fragment_definition c = fragment_definitions.at

pub returns-clause-definition : goal.returns-clause-definition
returns-clause-definition c = definitions.at

pub returns-clause-document : goal.returns-clause-document
returns-clause-document c = documents.at
