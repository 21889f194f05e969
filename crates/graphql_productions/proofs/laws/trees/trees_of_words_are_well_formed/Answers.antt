-- Each word of a text has its text, which is all that is asked.
use Rattle.graphql_grammar.proofs.TextsOfWords.{each_has_its_text}
use Rattle.graphql_grammar.specs.WordsOfText.{words_of}
use Rattle.graphql_productions.proofs.DocumentLaws.{as_spelled}
use Rattle.graphql_productions.proofs.PartsOfDefinitions.{document_covers}
use Rattle.graphql_productions.proofs.PartsOfSelections.{selections_cover}
use Rattle.graphql_productions.proofs.PartsOfValues.{type_covers, value_node_covers}
use Rattle.graphql_productions.proofs.WellFormedLaws.{well_formed}
use Rattle.graphql_productions.proofs.laws.trees.trees_of_words_are_well_formed.Goals as goal

pub returns-clause-document : goal.returns-clause-document
returns-clause-document c = λ file depth allowed text x h. document_covers (well_formed file) depth x
    (words_of allowed text) (each_has_its_text allowed text) (as_spelled file depth x (words_of allowed text)
    h)

pub returns-clause-selections : goal.returns-clause-selections
returns-clause-selections c = λ file depth allowed text x. selections_cover (well_formed file) depth x
    (words_of allowed text) (each_has_its_text allowed text)

pub returns-clause-type_reference : goal.returns-clause-type_reference
returns-clause-type_reference c = λ file depth allowed text x. type_covers (well_formed file) depth x
    (words_of allowed text) (each_has_its_text allowed text)

pub returns-clause-value : goal.returns-clause-value
returns-clause-value c = λ file constant depth allowed text x. value_node_covers (well_formed file) constant
    depth x (words_of allowed text) (each_has_its_text allowed text)
