use Rattle.std.proofs.Common.{◌∙◌, true, false}
use Rattle.apollo_meaning.proofs.Completion.CompletionLemmas.{first-completed, unknown-first}
use Rattle.apollo_meaning.proofs.laws.definitions_by_cases.Goals as goal

pub returns : goal.returns
returns c = record {
  defined = λ adopts xs n d is. first-completed adopts xs n ∙ rw is;
  adopted = λ xs n e es none is. first-completed true xs n ∙ rw (none, is);
  orphaned = λ xs n none. first-completed false xs n ∙ rw none;
  unknown = unknown-first;
}
