use Rattle.apollo_meaning.proofs.Completion.CompletionLemmas.{orphan_names-adopted}
use Rattle.apollo_meaning.proofs.laws.adoption_leaves_no_orphan_names.Goals as goal

pub returns : goal.returns
returns c = orphan_names-adopted
