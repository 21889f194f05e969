use Rattle.apollo_field_usage.proofs.PlainWalks.{reached-walk, reached-fields, walked-fields}
use Rattle.apollo_field_usage.proofs.laws.field_usage_is_of_the_walk.Goals as goal

pub returns : goal.returns
returns c = record { walk = reached-walk; fields = reached-fields; all = walked-fields }
