use Rattle.std.proofs.Common.{arith}
use Rattle.graphql_nodes.proofs.FewKeyLemmas.{distinct_alike}
use Rattle.graphql_nodes.proofs.collections.key_set.few_keys.FewKeysClone.clone.Goals as goal

pub invariant_of-result : goal.invariant_of-result
invariant_of-result g c = distinct_alike g.met.T.Eq.laws _ _ (grind (arith, c.ne.ensures, c.if-ne.false))
    c.self.invariant
