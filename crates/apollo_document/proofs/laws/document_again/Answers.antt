use Rattle.apollo_document.proofs.AgainLemmas.{TypedSetsLaw, one_document, document_is_itself}
use Rattle.apollo_document.proofs.AgainLemmas.{document_is_again, faults_again}
use Rattle.apollo_document.proofs.laws.document_again.Goals as goal

sets : goal.After-typed_sets → TypedSetsLaw
sets c = record {
  again = c.typed_sets.ensures.stripped;
  faultless = c.typed_sets.ensures.faultless;
  unique = c.typed_sets.ensures.unique;
}

pub returns-clause-unique : goal.returns-clause-unique
returns-clause-unique c = one_document (sets c)

pub returns-clause-itself : goal.returns-clause-itself
returns-clause-itself c = document_is_itself (sets c)

pub returns-clause-again : goal.returns-clause-again
returns-clause-again c = λ s xs b document again h. document_is_again (sets c) s xs b document h again

pub returns-clause-faults : goal.returns-clause-faults
returns-clause-faults c = faults_again (sets c)
