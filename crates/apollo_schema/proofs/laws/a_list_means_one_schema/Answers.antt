use Rattle.apollo_schema.proofs.OneMeaning.{one_schema}
use Rattle.apollo_schema.proofs.laws.a_list_means_one_schema.Goals as goal

pub returns : goal.returns
returns c = one_schema
