use Rattle.apollo_schema_laws.proofs.Rearranged.Found.{one_by_one}
use Rattle.apollo_schema_laws.proofs.rearrangement.documents_one_by_one.Goals as goal

pub returns : goal.returns
returns c = one_by_one
