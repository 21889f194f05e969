use Rattle.apollo_meaning.proofs.Order.FoldedLemmas.{folded-of_schema}
use Rattle.apollo_meaning.proofs.laws.folded_schema_extensions.Goals as goal

pub returns : goal.returns
returns c = folded-of_schema
