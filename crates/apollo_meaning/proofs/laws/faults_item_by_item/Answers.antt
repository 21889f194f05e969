use Rattle.apollo_meaning.proofs.Completion.CompletionLemmas.{faults-completed}
use Rattle.apollo_meaning.proofs.laws.faults_item_by_item.Goals as goal

pub returns : goal.returns
returns c = faults-completed
