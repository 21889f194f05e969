use Rattle.graphql_tokens.proofs.StringLemmas.{plain_block_alone}
use Rattle.graphql_tokens.proofs.strings.BlockCharactersPiece.single.Goals as goal

pub returns-clause-same : goal.returns-clause-same
returns-clause-same c =
    plain_block_alone c.args.text.now c.plain_block_bytes.result c.plain_block_bytes.ensures.same
