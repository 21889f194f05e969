use Rattle.std.proofs.Common.{sym, subst, ◌∙◌}
use Rattle.std.specs.List.{IsDistinct}
use Rattle.graphql_nodes.proofs.FewKeyLemmas.{is_absent, is_there, nothing_taken_out, still_distinct}
use Rattle.graphql_nodes.proofs.FewKeyLemmas.{taken_out_there}
use Rattle.graphql_nodes.proofs.collections.key_set.few_keys.FewKeys.shift_remove.Goals as goal

pub returns-in-Some-clause-found : goal.returns-in-Some-clause-found
returns-in-Some-clause-found g c = sym (is_there (g.T.PartialEq.eq c.args.key.now) c.args.self.now
    c.in-Some.place (sym c.get_index_of.ensures ∙ c.in-Some.is))

pub returns-in-Some-clause-keys : goal.returns-in-Some-clause-keys
returns-in-Some-clause-keys g c = rw (c.remove-removed.ensures.items, c.self.view_is)
    (taken_out_there (g.T.PartialEq.eq c.args.key.now) c.args.self.now c.in-Some.place
    (sym c.get_index_of.ensures ∙ c.in-Some.is))

pub returns-in-Some-clause-unique : goal.returns-in-Some-clause-unique
returns-in-Some-clause-unique g c = subst (IsDistinct g.T.PartialEq.eq)
    (sym (returns-in-Some-clause-keys g c)) (still_distinct (g.T.PartialEq.eq c.args.key.now)
    g.T.PartialEq.eq c.args.self.now (subst (IsDistinct g.T.PartialEq.eq) c.self.view_is c.self.invariant))

pub invariant_of-self : goal.invariant_of-self
invariant_of-self g c = returns-in-Some-clause-unique g c

pub returns-in-None-clause-found : goal.returns-in-None-clause-found
returns-in-None-clause-found g c = sym (is_absent (g.T.PartialEq.eq c.args.key.now) c.args.self.now
    (sym c.get_index_of.ensures ∙ c.in-None.is))

pub returns-in-None-clause-keys : goal.returns-in-None-clause-keys
returns-in-None-clause-keys g c = sym (nothing_taken_out (g.T.PartialEq.eq c.args.key.now) c.args.self.now
    (sym c.get_index_of.ensures ∙ c.in-None.is))
