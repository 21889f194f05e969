-- Each location is that of a word, or runs from one word to one behind it.
use Rattle.graphql_productions.proofs.DocumentLaws.{as_spelled}
use Rattle.graphql_productions.proofs.PartsOfDefinitions.{definition_covered, document_covers}
use Rattle.graphql_productions.proofs.PartsOfSelections.{selections_cover}
use Rattle.graphql_productions.proofs.PartsOfValues.{type_covers, value_node_covers}
use Rattle.graphql_productions.proofs.PlaceLaws.{placed}
use Rattle.graphql_productions.proofs.laws.trees.locations_lie_within_the_words.Goals as goal

pub returns-clause-definition : goal.returns-clause-definition
returns-clause-definition c = λ file depth from to words x. (definition_covered (placed file from to)
    depth).each x words

pub returns-clause-document : goal.returns-clause-document
returns-clause-document c = λ file depth from to words x order h. document_covers (placed file from to) depth
    x words order (as_spelled file depth x words h)

pub returns-clause-selections : goal.returns-clause-selections
returns-clause-selections c = λ file depth from to words x. selections_cover (placed file from to) depth x
    words

pub returns-clause-type_reference : goal.returns-clause-type_reference
returns-clause-type_reference c = λ file depth from to words x. type_covers (placed file from to) depth x
    words

pub returns-clause-value : goal.returns-clause-value
returns-clause-value c = λ file constant depth from to words x. value_node_covers (placed file from to)
    constant depth x words
