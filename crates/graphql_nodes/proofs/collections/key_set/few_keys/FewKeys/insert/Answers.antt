use Rattle.std.proofs.Common.{sym, ◌∙◌}
use Rattle.std.proofs.lemmas.Map.Keys.{IsDistinct-push}
use Rattle.graphql_nodes.proofs.collections.key_set.few_keys.FewKeys.insert.Goals as goal

pub invariant_of-self-2 : goal.invariant_of-self-2
invariant_of-self-2 g c = rw c.in_ok-push.ensures.items (IsDistinct-push g.met.T.Eq.laws _ _ c.self.invariant
    (rw c.self.view_is (sym c.contains.ensures ∙ c.if-contains.false)))

pub returns-clause-unique : goal.returns-clause-unique
returns-clause-unique = invariant_of-self-2
