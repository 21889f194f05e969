-- Words are made of tokens one by one.
use Rattle.graphql_grammar.proofs.WordsOfTokens.{tokens_are_words}
use Rattle.graphql_productions.proofs.laws.words_are_those_at_tokens.Goals as goal

pub returns : goal.returns
returns c = λ allowed text tokens read few. (tokens_are_words allowed text tokens read few).0
