use Rattle.graphql_nodes.proofs.Comparisons.{kinds}
use Rattle.apollo_folding.specs.contracts.builder_error.BuilderError as error
use Rattle.apollo_schema.proofs.laws.equality_of_builder_errors.Goals as goal

pub returns : goal.returns
returns c = (kinds error.the_type tt).at
