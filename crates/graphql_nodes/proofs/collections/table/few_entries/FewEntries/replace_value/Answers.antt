use Rattle.std.proofs.Common.{◌<◌, length, Some, slice_get, sym, ap, ◌∙◌, arith}
use Rattle.graphql_nodes.specs.Tables.{set_value_at}
use Rattle.graphql_nodes.proofs.FewEntryLemmas.{columns, got_at, zip-set_value}
use Rattle.graphql_nodes.proofs.collections.table.few_entries.FewEntries.replace_value.Goals as goal

pub index_mut-requires : goal.index_mut-requires
index_mut-requires g c =
    let s = c.self.inside in
    let o = columns s.keys s.values c.args.self.now c.self.view_is c.self.invariant.0 in
    omega (arith, o.values_len, c.requires)

pub returns : goal.returns
returns g c =
    let s = c.self.inside in
    let o = columns s.keys s.values c.args.self.now c.self.view_is c.self.invariant.0 in
    let vs = c.self.inside.values in
    let place = c.args.place in
    let within : place < length vs.items = omega (arith, o.values_len, vs.ok.0, c.requires) in
    let at = got_at vs.items place c.index_mut.result.now within c.index_mut.ensures.value in
    record {
      took = ap (λ l. slice_get l place) (sym o.values) ∙ at ∙ ap Some (sym c.replace.ensures.value);
      entries = zip-set_value c.self.inside.keys.items vs.items place _
          ∙ (λ j. set_value_at (o.entries j) place (c.replace.ensures.after j));
    }
