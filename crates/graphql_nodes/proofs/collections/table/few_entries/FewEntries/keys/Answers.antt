use Rattle.std.proofs.Common.{subst, ◌∙◌}
use Rattle.std.specs.List.{IsDistinct}
use Rattle.graphql_nodes.proofs.FewEntryLemmas.{columns}
use Rattle.graphql_nodes.proofs.collections.table.few_entries.FewEntries.keys.Goals as goal

pub returns : goal.returns
returns g c =
    let s = c.self.inside in
    let o = columns s.keys s.values c.args.self.now c.self.view_is c.self.invariant.0 in
    record {
      keys = c.as_slice.ensures.value ∙ o.keys;
      small = o.small;
      unique = subst (IsDistinct g.K.PartialEq.eq) o.keys c.self.invariant.1;
    }
