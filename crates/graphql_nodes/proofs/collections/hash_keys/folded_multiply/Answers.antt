use Rattle.std.proofs.Common.{refl}
use Rattle.std.specs.Hash.FoldHasher.{folded_multiply}
use Rattle.graphql_nodes.proofs.collections.hash_keys.folded_multiply.Goals as goal

pub returns : goal.returns
unfolding folded_multiply
returns c = refl
