use Rattle.std.proofs.Common.{◌∙◌}
use Rattle.graphql_nodes.proofs.FewEntryLemmas.{columns}
use Rattle.graphql_nodes.proofs.collections.table.few_entries.FewEntries.values.Goals as goal

pub returns : goal.returns
returns g c =
    let o =
    columns c.self.inside.keys c.self.inside.values c.args.self.now c.self.view_is c.self.invariant.0 in
    record { values = c.as_slice.ensures.value ∙ o.values; small = o.small }
