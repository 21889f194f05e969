use Rattle.graphql_nodes.proofs.FewKeyLemmas.{none_distinct}
use Rattle.graphql_nodes.proofs.collections.key_set.few_keys.FewKeys.new.Goals as goal

pub invariant_of-result : goal.invariant_of-result
invariant_of-result g c = rw c.new.ensures.items (none_distinct g.T.PartialEq.eq)
