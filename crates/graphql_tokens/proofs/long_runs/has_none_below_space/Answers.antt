use Rattle.std.specs.Prelude.{nat_lt}
use Rattle.graphql_tokens.proofs.RunLemmas.{none_marked}
use Rattle.graphql_tokens.proofs.long_runs.has_none_below_space.Goals as goal

pub returns : goal.returns
returns c = none_marked nat_lt c.args.bytes 32 c.fits-bytes.0
