use Rattle.std.proofs.Common.{[], length, sym, ap, ◌∙◌, subst, arith}
use Rattle.std.specs.List.{zip, IsDistinct}
use Rattle.indexmap.specs.IndexMap.{insert_all}
use Rattle.graphql_nodes.proofs.FewEntryLemmas.{columns, insert_apart}
use Rattle.graphql_nodes.proofs.collections.table.few_entries.FewEntries.move_to.Goals as goal

pub loop-key-init : goal.loop-key-init
loop-key-init g c =
    let eq = g.K.PartialEq.eq in
    let s = c.self.inside in
    let o = columns s.keys s.values c.args.self c.self.view_is c.self.invariant.0 in
    let unique = subst (IsDistinct eq) o.keys c.self.invariant.1 in
    let ks = c.into_iter-keys.ensures in
    let vs = c.into_iter-values.ensures in (
      (λ j. insert_all eq (c.requires.empty j) (zip (ks.rest j) (vs.rest j)))
          ∙ ap (insert_all eq []) o.entries ∙ insert_apart eq g.met.K.Eq.laws [] c.args.self unique,
      ap length vs.rest ∙ c.self.invariant.0 ∙ sym (ap length ks.rest),
      omega (arith, ks.len, o.keys_len, c.requires.room),
    )
