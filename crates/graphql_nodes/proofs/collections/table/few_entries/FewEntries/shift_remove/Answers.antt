use Rattle.std.proofs.Common.{remove, slice_get, length, ◌<◌, ap, sym, ◌∙◌, subst, arith}
use Rattle.std.proofs.lemmas.Map.Made.{keys_of-zip}
use Rattle.std.specs.List.{zip, IsDistinct}
use Rattle.indexmap.proofs.MapLemmas.{Found-position, Missing-position, remove_entry-first}
use Rattle.graphql_nodes.proofs.FewEntryLemmas.{columns, got_at, removed, remove_none, zip-remove}
use Rattle.graphql_nodes.proofs.collections.table.few_entries.FewEntries.shift_remove.Goals as goal

pub returns-in_err-place-clause-value : goal.returns-in_err-place-clause-value
returns-in_err-place-clause-value g c =
    let at = sym c.place_of.ensures.place ∙ c.in_err-place.was in
    c.from_residual.ensures ∙ sym (Missing-position _ c.args.self.now at).value

pub returns-in_err-place-clause-entries : goal.returns-in_err-place-clause-entries
returns-in_err-place-clause-entries g c =
    let at = sym c.place_of.ensures.place ∙ c.in_err-place.was in
    remove_none _ c.args.self.now (Missing-position _ c.args.self.now at).absent

pub remove-key-requires : goal.remove-key-requires
remove-key-requires g c =
    let s = c.self.inside in
    let o = columns s.keys s.values c.args.self.now c.self.view_is c.self.invariant.0 in
    let at = sym c.place_of.ensures.place ∙ c.in_ok-place.was in
    omega (arith, o.keys_len, (Found-position _ c.args.self.now c.in_ok-place.place at).within)

pub invariant_of-self : goal.invariant_of-self
invariant_of-self g c =
    let s = c.self.inside in
    let o = columns s.keys s.values c.args.self.now c.self.view_is c.self.invariant.0 in
    let at = sym c.place_of.ensures.place ∙ c.in_ok-place.was in
    removed g.K.PartialEq.eq g.met.K.Eq.laws c.args.key.now _ _ _ _ c.args.self.now c.in_ok-place.place
    (c.remove-key.result, c.remove.result) c.self.invariant o.keys at c.remove-key.ensures.items
    c.remove.ensures.items

pub returns-clause-value : goal.returns-clause-value
returns-clause-value g c =
    let vs = c.self.inside.values in
    let o = columns c.self.inside.keys vs c.args.self.now c.self.view_is c.self.invariant.0 in
    let at = sym c.place_of.ensures.place ∙ c.in_ok-place.was in
    let i = c.in_ok-place.place in
    let f = Found-position _ c.args.self.now i at in
    let within : i < length vs.items = omega (arith, o.values_len, vs.ok.0, f.within) in
    let there = got_at vs.items i c.remove.result within c.remove.ensures.value in
    sym (f.value ∙ ap (λ l. slice_get l i) (sym o.values) ∙ there)

pub returns-clause-entries : goal.returns-clause-entries
returns-clause-entries g c =
    let at = sym c.place_of.ensures.place ∙ c.in_ok-place.was in
    let i = c.in_ok-place.place in
    let f = Found-position _ c.args.self.now i at in
    (λ j. zip (c.remove-key.ensures.items j) (c.remove.ensures.items j)) ∙ zip-remove _ _ i c.self.invariant.0
    ∙ ap (λ l. remove l i) c.self.view_is ∙ sym (remove_entry-first _ c.args.self.now i f.first)

pub returns-clause-unique : goal.returns-clause-unique
returns-clause-unique g c =
    let s = c.self.inside in
    let o = columns s.keys s.values c.args.self.now c.self.view_is c.self.invariant.0 in
    let at = sym c.place_of.ensures.place ∙ c.in_ok-place.was in
    let left = removed g.K.PartialEq.eq g.met.K.Eq.laws c.args.key.now _ _ _ _ c.args.self.now
    c.in_ok-place.place (c.remove-key.result, c.remove.result) c.self.invariant o.keys at
    c.remove-key.ensures.items c.remove.ensures.items in
    subst (IsDistinct g.K.PartialEq.eq) (sym (keys_of-zip _ _ left.0)) left.1
