use Rattle.graphql_tokens.proofs.WholeLemmas.{made_of_tokens}
use Rattle.graphql_tokens.proofs.laws.tokens_make_up_the_text.Goals as goal

pub returns : goal.returns
returns c = λ text. λ list. λ is. made_of_tokens text list is
