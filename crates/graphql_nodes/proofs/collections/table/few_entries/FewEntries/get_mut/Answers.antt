use Rattle.std.proofs.Common.{refl, ap, sym, ◌∙◌}
use Rattle.std.specs.Option.{option_copied_mut, ghost_name_of}
use Rattle.indexmap.proofs.MapLemmas.{Found-position, Missing-position}
use Rattle.graphql_nodes.proofs.FewEntryLemmas.{set_there, set_none}
use Rattle.graphql_nodes.proofs.collections.table.few_entries.FewEntries.get_mut.Goals as goal

pub returns-in_err-place : goal.returns-in_err-place
returns-in_err-place g c =
    let test = g.K.PartialEq.eq c.args.key.now in
    let es = c.args.self.now in
    let m = Missing-position test es (sym c.place_of.ensures.place ∙ c.in_err-place.was) in
    let none = c.from_residual.ensures in (
      (ap ghost_name_of (sym none), λ w. set_none test es w m.absent, refl),
      record { writes_back = tt; value = ap option_copied_mut none ∙ sym m.value },
    )

pub returns : goal.returns
returns g c =
    let test = g.K.PartialEq.eq c.args.key.now in
    let es = c.args.self.now in
    let i = c.in_ok-place.place in
    let at = sym c.place_of.ensures.place ∙ c.in_ok-place.was in
    let found = (Found-position test es i at).value in
    let lent = c.get_index_mut.follows in (
      (refl, λ w. lent.holds w ∙ set_there test es i at w, lent.holds-at-none),
      record { writes_back = tt; value = c.get_index_mut.ensures.value ∙ sym found },
    )
