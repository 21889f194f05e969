-- What a production spells is tokens alone, and words that are tokens are the words at the tokens of their
-- text.
use Rattle.graphql_grammar.specs.WordsOfText.{words_of}
use Rattle.graphql_grammar.proofs.CleanLaws.{some_clean}
use Rattle.graphql_grammar.proofs.WordsOfTokens.{words_are_at_tokens}
use Rattle.graphql_productions.proofs.DefinitionLaws.{one_tame}
use Rattle.graphql_productions.proofs.DocumentLaws.{as_spelled}
use Rattle.graphql_productions.proofs.SelectionLaws.{whole_selections_tame}
use Rattle.graphql_productions.proofs.TypeLaws.{type_tame}
use Rattle.graphql_productions.proofs.ValueLaws.{value_node_tame}
use Rattle.graphql_productions.proofs.laws.trees_are_spelled_by_tokens.Goals as goal

pub returns-clause-document : goal.returns-clause-document
returns-clause-document c = λ file depth allowed text x h. words_are_at_tokens allowed text
    ((some_clean (one_tame file depth).clean).clean x (words_of allowed text)
    (as_spelled file depth x (words_of allowed text) h))

pub returns-clause-selections : goal.returns-clause-selections
returns-clause-selections c = λ file depth allowed text x h. words_are_at_tokens allowed text
    ((whole_selections_tame file depth).clean.clean x (words_of allowed text) h)

pub returns-clause-type_reference : goal.returns-clause-type_reference
returns-clause-type_reference c = λ file depth allowed text x h. words_are_at_tokens allowed text
    ((type_tame file depth).clean.clean x (words_of allowed text) h)

pub returns-clause-value : goal.returns-clause-value
returns-clause-value c = λ file constant depth allowed text x h. words_are_at_tokens allowed text
    ((value_node_tame file constant depth).clean.clean x (words_of allowed text) h)
