use Rattle.std.proofs.Common.{ap, sym, ◌∙◌}
use Rattle.std.specs.Map.Iter.{deref_pair}
use Rattle.std.specs.Option.{option_map}
use Rattle.indexmap.proofs.MapLemmas.{Missing-position}
use Rattle.graphql_nodes.proofs.FewEntryLemmas.{key_there, value_there, some_there}
use Rattle.graphql_nodes.proofs.collections.table.few_entries.FewEntries.get_full.Goals as goal

pub returns-in_err-place-clause-key : goal.returns-in_err-place-clause-key
returns-in_err-place-clause-key g c =
    let at = sym c.place_of.ensures.place ∙ c.in_err-place.was in
    ap (option_map (λ e. e.1.now)) c.from_residual.ensures ∙ sym (Missing-position _ c.args.self.now at).key

pub returns-in_err-place-clause-value : goal.returns-in_err-place-clause-value
returns-in_err-place-clause-value g c =
    let at = sym c.place_of.ensures.place ∙ c.in_err-place.was in
    ap (option_map (λ e. e.2.now)) c.from_residual.ensures ∙ sym (Missing-position _ c.args.self.now at).value

pub returns-in_err-key : goal.returns-in_err-key
returns-in_err-key g c =
    let at = sym c.place_of.ensures.place ∙ c.in_ok-place.was in
    let none = sym c.get_index.ensures.entry ∙ ap (option_map deref_pair) c.in_err-key.was in
    absurd (some_there _ c.args.self.now c.in_ok-place.place at none)

pub returns-clause-key : goal.returns-clause-key
returns-clause-key g c =
    let at = sym c.place_of.ensures.place ∙ c.in_ok-place.was in
    let there = sym c.get_index.ensures.entry ∙ ap (option_map deref_pair) c.in_ok-key.was in
    sym (key_there _ c.args.self.now c.in_ok-place.place at _ there)

pub returns-clause-value : goal.returns-clause-value
returns-clause-value g c =
    let at = sym c.place_of.ensures.place ∙ c.in_ok-place.was in
    let there = sym c.get_index.ensures.entry ∙ ap (option_map deref_pair) c.in_ok-key.was in
    sym (value_there _ c.args.self.now c.in_ok-place.place at _ there)
