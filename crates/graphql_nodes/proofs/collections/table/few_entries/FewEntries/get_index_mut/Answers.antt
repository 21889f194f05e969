use Rattle.std.proofs.Common.{refl, ap, ◌∙◌, slice_get}
use Rattle.graphql_nodes.specs.Tables.{set_value_at}
use Rattle.graphql_nodes.proofs.FewEntryLemmas.{columns, lent_at, zip-set_value}
use Rattle.graphql_nodes.proofs.collections.table.few_entries.FewEntries.get_index_mut.Goals as goal

pub returns : goal.returns
returns g c =
    let s = c.self.inside in
    let o = columns s.keys s.values c.args.self.now c.self.view_is c.self.invariant.0 in
    let place = c.args.place in
    let set = λ (w : g.row.V.Denot). zip-set_value c.self.inside.keys.items c.self.inside.values.items place w
    ∙ ap (λ es. set_value_at es place w) o.entries in (
      (refl, set, o.entries),
      record {
        writes_back = tt;
        value = lent_at _ place c.get_mut.result c.get_mut.ensures.item
            ∙ ap (λ l. slice_get l place) o.values;
      },
    )
