use Rattle.std.proofs.Common.{sym, ◌∙◌, subst}
use Rattle.std.specs.List.{zip}
use Rattle.graphql_nodes.specs.Tables.{AreClones}
use Rattle.graphql_nodes.proofs.FewEntryLemmas.{cloned, clones_zip}
use Rattle.graphql_nodes.proofs.collections.table.few_entries.FewEntries.try_clone.Goals as goal

pub invariant_of-result : goal.invariant_of-result
invariant_of-result g c =
    let old = c.self.inside in
    cloned g.K.PartialEq.eq g.met.K.Eq.laws g.V.Clone.is_clone old.keys.items _ old.values.items _
    c.self.invariant (sym c.ne.ensures ∙ c.if-ne.false) c.in_ok-values.ensures.cases.0

pub returns : goal.returns
returns g c =
    let old = c.self.inside in
    let C = g.K.Clone.is_clone in
    let D = g.V.Clone.is_clone in
    subst (λ es. AreClones C D es (zip c.in_ok-keys.keys.items c.in_ok-values.values.items)) c.self.view_is
    (clones_zip C D old.keys.items _ old.values.items _ c.in_ok-keys.ensures.cases.0
    c.in_ok-values.ensures.cases.0)
