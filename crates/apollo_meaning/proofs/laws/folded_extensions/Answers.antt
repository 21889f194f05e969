use Rattle.apollo_meaning.proofs.Order.FoldedLemmas.{folded-of_name}
use Rattle.apollo_meaning.proofs.laws.folded_extensions.Goals as goal

pub returns : goal.returns
returns c = folded-of_name
