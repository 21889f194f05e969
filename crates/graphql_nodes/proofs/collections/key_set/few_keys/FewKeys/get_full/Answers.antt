use Rattle.std.proofs.Common.{sym, ap, get_or, ◌∙◌, arith}
use Rattle.graphql_nodes.proofs.FewKeyLemmas.{found_there, nothing_found, stands_there}
use Rattle.graphql_nodes.proofs.collections.key_set.few_keys.FewKeys.get_full.Goals as goal

pub returns-in_err-place-clause-key : goal.returns-in_err-place-clause-key
returns-in_err-place-clause-key g c =
    let none = nothing_found (g.T.PartialEq.eq c.args.key.now) c.args.self.now
    (sym c.get_index_of.ensures ∙ c.in_err-place.was) in grind (arith, none, c.from_residual.ensures)

pub returns-clause-stored : goal.returns-clause-stored
returns-clause-stored g c = stands_there (g.T.PartialEq.eq c.args.key.now) c.args.self.now
    c.in_ok-place.place c.index.result.now (sym c.get_index_of.ensures ∙ c.in_ok-place.was)
    (c.index.ensures ∙ ap (λ l. get_or l c.in_ok-place.place c.index.result.now) c.self.view_is)

pub returns-clause-key : goal.returns-clause-key
returns-clause-key g c = sym (returns-clause-stored g c) ∙ sym (found_there (g.T.PartialEq.eq c.args.key.now)
    c.args.self.now c.in_ok-place.place (sym c.get_index_of.ensures ∙ c.in_ok-place.was))
