-- Each production looks at one word ahead only, so what is refused at a word is refused with all that goes on
-- from it.
use Rattle.graphql_productions.specs.Refusing.{RulesOutAll}
use Rattle.graphql_productions.proofs.DocumentRefusals.{document_refused}
use Rattle.graphql_productions.proofs.JudgedProductions.{each_production, rules_out}
use Rattle.graphql_productions.proofs.laws.refusals_are_of_all_words_so_far.Goals as goal

pub returns-clause-productions : goal.returns-clause-productions
returns-clause-productions c = each_production RulesOutAll (λ A p t depth. rules_out (t depth))

pub returns-clause-document : goal.returns-clause-document
returns-clause-document c = document_refused
