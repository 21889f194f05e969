use Rattle.graphql_nodes.proofs.Comparisons.{names, texts}
use Rattle.graphql_nodes.proofs.NameEquality.{invalid_names}
use Rattle.graphql_nodes.proofs.laws.equality_of_names.Goals as goal

pub returns-clause-name : goal.returns-clause-name
returns-clause-name c = names.at

pub returns-clause-node_str : goal.returns-clause-node_str
returns-clause-node_str c = names.at

pub returns-clause-invalid_name_error : goal.returns-clause-invalid_name_error
returns-clause-invalid_name_error c = invalid_names.at

pub returns-clause-text : goal.returns-clause-text
returns-clause-text c = texts.at

pub returns-clause-static_text : goal.returns-clause-static_text
returns-clause-static_text c = texts.at
