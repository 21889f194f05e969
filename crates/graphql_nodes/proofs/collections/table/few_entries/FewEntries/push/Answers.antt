use Rattle.std.proofs.Common.{[], ◌∷◌, ◌++◌, ap, ◌∙◌}
use Rattle.std.specs.List.{zip}
use Rattle.indexmap.proofs.ReorderLemmas.{zip_push}
use Rattle.graphql_nodes.proofs.FewEntryLemmas.{columns, pushed}
use Rattle.graphql_nodes.proofs.collections.table.few_entries.FewEntries.push.Goals as goal

pub invariant_of-self-2 : goal.invariant_of-self-2
invariant_of-self-2 g c =
    let s = c.self.inside in
    let o = columns s.keys s.values c.args.self.now c.self.view_is c.self.invariant.0 in
    let p = c.push_reserved.ensures.items ∙ ap (λ l. l ++ c.args.key ∷ []) c.reserve.ensures.items in
    let q = c.push_reserved-2.ensures.items
    ∙ ap (λ l. l ++ c.args.value ∷ []) c.reserve-else-is_err.ensures.items in
    pushed g.K.PartialEq.eq g.met.K.Eq.laws _ _ _ _ c.args.self.now c.args.key c.args.value c.self.invariant
    o.keys p q c.requires

pub returns-clause-pushed : goal.returns-clause-pushed
returns-clause-pushed g c =
    let s = c.self.inside in
    let o = columns s.keys s.values c.args.self.now c.self.view_is c.self.invariant.0 in
    let p = c.push_reserved.ensures.items ∙ ap (λ l. l ++ c.args.key ∷ []) c.reserve.ensures.items in
    let q = c.push_reserved-2.ensures.items
    ∙ ap (λ l. l ++ c.args.value ∷ []) c.reserve-else-is_err.ensures.items in
    (λ j. zip (p j) (q j)) ∙ zip_push _ _ _ _ c.self.invariant.0
    ∙ ap (λ es. es ++ (c.args.key, c.args.value) ∷ []) o.entries
