-- What is refused of a production is refused where something still goes on.
use Rattle.graphql_productions.specs.Refusing.{GoesOnDeeper}
use Rattle.graphql_productions.proofs.JudgedProductions.{can_go_on, document_viable, each_production}
use Rattle.graphql_productions.proofs.laws.words_before_a_refusal_go_on.Goals as goal

pub returns-clause-productions : goal.returns-clause-productions
returns-clause-productions c = each_production GoesOnDeeper (λ A p t depth. can_go_on (t depth))

pub returns-clause-document : goal.returns-clause-document
returns-clause-document c = document_viable
