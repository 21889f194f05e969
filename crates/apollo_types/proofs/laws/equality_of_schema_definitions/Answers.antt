use Rattle.apollo_types.proofs.TypeEquality.{schema_definitions}
use Rattle.apollo_types.proofs.laws.equality_of_schema_definitions.Goals as goal

pub returns : goal.returns
returns c = schema_definitions.at
