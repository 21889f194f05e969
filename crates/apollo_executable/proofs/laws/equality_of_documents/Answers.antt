use Rattle.apollo_executable.proofs.DocumentEquality.{operations, fragments, operation_maps, documents}
use Rattle.apollo_executable.proofs.laws.equality_of_documents.Goals as goal

pub returns : goal.returns
returns c = search (operations.at, fragments.at, operation_maps.at, documents.at)
