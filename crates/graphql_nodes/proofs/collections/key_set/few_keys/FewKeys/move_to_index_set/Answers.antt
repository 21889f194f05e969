use Rattle.std.proofs.Common.{ap, ◌∙◌}
use Rattle.graphql_nodes.specs.KeySets.{insert_all}
use Rattle.graphql_nodes.proofs.FewKeyLemmas.{all_put}
use Rattle.graphql_nodes.proofs.collections.key_set.few_keys.FewKeys.move_to_index_set.Goals as goal

pub returns-clause-keys : goal.returns-clause-keys
returns-clause-keys g c =
    let boxed = ap (λ s. s.keys) (c.deref_mut.ensures.value ∙ c.in_ok-set.ensures.ok) in
    let empty = boxed ∙ c.in_ok-empty.ensures.empty in
    c.put_each.ensures
    ∙ (λ i. insert_all g.T.PartialEq.eq (empty i) (c.replace-keys.ensures.value i).items)
    ∙ all_put g.met.T.Eq.laws _ c.self.invariant ∙ c.self.view_is
