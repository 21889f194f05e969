use Rattle.std.proofs.Common.{sym, ◌∙◌}
use Rattle.std.proofs.lemmas.Map.Keys.{any_passes_from_place}
use Rattle.graphql_nodes.proofs.collections.key_set.KeySet.contains_from.Goals as goal

pub returns-in-Some : goal.returns-in-Some
returns-in-Some g c = sym (any_passes_from_place (g.T.PartialEq.eq c.args.key.now) c.args.self.now
    c.args.place c.in-Some.there.now (sym c.in-Some.ensures) (sym c.eq.ensures ∙ c.if-eq.true))
