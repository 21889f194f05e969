use Rattle.std.specs.Prelude.{nat_eq}
use Rattle.graphql_tokens.proofs.RunLemmas.{none_marked}
use Rattle.graphql_tokens.proofs.long_runs.has_none.Goals as goal

pub returns : goal.returns
returns c = none_marked nat_eq c.args.bytes c.args.byte c.fits-bytes.0
