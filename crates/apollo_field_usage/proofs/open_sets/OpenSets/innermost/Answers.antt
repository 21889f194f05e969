use Rattle.apollo_field_usage.proofs.OpenLemmas.{popped-none, popped-some}
use Rattle.apollo_field_usage.proofs.open_sets.OpenSets.innermost.Goals as goal

pub returns-clause-none : goal.returns-clause-none
returns-clause-none c =
    let open_sets = c.args.self.now.open in
    popped-none c.pop.result open_sets.items open_sets.len open_sets.ok.0 _ _ c.pop.ensures.cases

pub returns-clause-some : goal.returns-clause-some
returns-clause-some c = popped-some c.pop.result c.args.self.now.open.items c.pop.new.self.items
    c.pop.ensures.items
