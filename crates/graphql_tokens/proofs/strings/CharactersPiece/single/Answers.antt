use Rattle.graphql_tokens.proofs.StringLemmas.{plain_alone}
use Rattle.graphql_tokens.proofs.strings.CharactersPiece.single.Goals as goal

pub returns-clause-same : goal.returns-clause-same
returns-clause-same c = plain_alone c.args.text.now c.plain_bytes.result c.plain_bytes.ensures.same
