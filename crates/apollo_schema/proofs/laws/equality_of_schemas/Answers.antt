use Rattle.apollo_schema.proofs.SchemaEquality.{schemas}
use Rattle.apollo_schema.proofs.laws.equality_of_schemas.Goals as goal

pub returns : goal.returns
returns c = schemas.at
