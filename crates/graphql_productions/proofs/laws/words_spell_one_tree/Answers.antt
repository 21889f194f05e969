-- What is spelled is read, and reading gives one tree.
use Rattle.graphql_grammar.proofs.WholeLaws.{one_value}
use Rattle.graphql_productions.specs.Documents.{definition}
use Rattle.graphql_productions.specs.Selections.{selection_set}
use Rattle.graphql_productions.specs.Values.{value}
use Rattle.graphql_productions.proofs.DefinitionLaws.{definition_tame}
use Rattle.graphql_productions.proofs.DocumentLaws.{documents_are_one}
use Rattle.graphql_productions.proofs.SelectionLaws.{selection_set_tame}
use Rattle.graphql_productions.proofs.ValueLaws.{value_tame}
use Rattle.graphql_productions.proofs.laws.words_spell_one_tree.Goals as goal

pub returns-clause-document : goal.returns-clause-document
returns-clause-document c = λ file depth words a b. documents_are_one file depth words a b

pub returns-clause-definition : goal.returns-clause-definition
returns-clause-definition c = λ file depth words a b. one_value (definition file depth)
    (definition_tame file depth).law words a b

pub returns-clause-selections : goal.returns-clause-selections
returns-clause-selections c = λ file depth words a b. one_value (selection_set file depth)
    (selection_set_tame file depth).law words a b

pub returns-clause-value : goal.returns-clause-value
returns-clause-value c = λ file constant depth words a b. one_value (value file constant depth)
    (value_tame file constant depth).law words a b
