-- The words of a text stand in it, and so do all locations that they give.
use Rattle.std.proofs.Common.{length}
use Rattle.graphql_grammar.proofs.TextsOfWords.{words_in_order}
use Rattle.graphql_grammar.specs.WordsOfText.{words_of}
use Rattle.graphql_productions.proofs.DocumentLaws.{as_spelled}
use Rattle.graphql_productions.proofs.PartsOfDefinitions.{document_covers}
use Rattle.graphql_productions.proofs.PartsOfSelections.{selections_cover}
use Rattle.graphql_productions.proofs.PartsOfValues.{type_covers, value_node_covers}
use Rattle.graphql_productions.proofs.PlaceLaws.{placed}
use Rattle.graphql_productions.proofs.laws.trees.locations_lie_within_the_text.Goals as goal

pub returns-clause-words : goal.returns-clause-words
returns-clause-words c = λ allowed text. words_in_order allowed text

pub returns-clause-document : goal.returns-clause-document
returns-clause-document c = λ file depth allowed text x h. document_covers (placed file 0 (length text)) depth
    x (words_of allowed text) (words_in_order allowed text) (as_spelled file depth x (words_of allowed text)
    h)

pub returns-clause-selections : goal.returns-clause-selections
returns-clause-selections c = λ file depth allowed text x. selections_cover (placed file 0 (length text))
    depth x (words_of allowed text) (words_in_order allowed text)

pub returns-clause-type_reference : goal.returns-clause-type_reference
returns-clause-type_reference c = λ file depth allowed text x. type_covers (placed file 0 (length text)) depth
    x (words_of allowed text) (words_in_order allowed text)

pub returns-clause-value : goal.returns-clause-value
returns-clause-value c = λ file constant depth allowed text x. value_node_covers (placed file 0 (length text))
    constant depth x (words_of allowed text) (words_in_order allowed text)
