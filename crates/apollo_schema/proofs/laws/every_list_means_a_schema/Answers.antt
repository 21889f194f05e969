use Rattle.apollo_schema.proofs.EveryMeaning.{every_schema}
use Rattle.apollo_schema.proofs.laws.every_list_means_a_schema.Goals as goal

pub returns : goal.returns
returns c = every_schema
