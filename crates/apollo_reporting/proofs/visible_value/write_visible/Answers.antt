-- The value was written on the same reference, as it is shown.
use Rattle.std.proofs.Common.{rules, ap, sym, subst₂, ◌∙◌}
use Rattle.std.specs.Fmt.{HasWritten}
use Rattle.graphql_nodes.specs.VisibleTexts.{visible}
use Rattle.apollo_reporting.proofs.VisibleLemmas.{displayed, of_shown}
use Rattle.apollo_reporting.proofs.visible_value.write_visible.Goals as goal

pub returns : goal.returns
returns g c =
    let took = g.W.Write.write_str_gives in
    let given = c.new-inner.ensures.writer in
    let back = c.into_inner-under.ensures in
    of_shown (g.D.Display.output c.args.value.now) _ _
    (λ bs k plain ok.
    let (same, written) = k (search rules) ok in
    let name = ap (λ v. v.under.ghost_name) back ∙ same ∙ ap (λ v. v.under.ghost_name) given in
    let all = subst₂ (λ v w. HasWritten took v.under.now (visible bs) w.under.now) given (sym back) written in
    search rules)
    (displayed took (λ v. v.under.ghost_name) (λ v. v.under.now) (g.D.Display.output c.args.value.now)
    c.new-inner.result c.fmt-written.new.f c.fmt-written.result c.new-inner.ensures.plain
    c.fmt-written.ensures.writes)
