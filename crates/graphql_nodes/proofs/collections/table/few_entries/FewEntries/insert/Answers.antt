use Rattle.std.proofs.Common.{sym, ◌∙◌, subst}
use Rattle.indexmap.proofs.MapLemmas.{Found-position, Missing-position}
use Rattle.indexmap.proofs.MapLemmas.{insert_entry-first, insert_entry-absent}
use Rattle.graphql_nodes.specs.Tables.{HasUniqueKeys}
use Rattle.graphql_nodes.proofs.FewEntryLemmas.{unique_set, unique_push, on_err}
use Rattle.graphql_nodes.proofs.collections.table.few_entries.FewEntries.insert.Goals as goal

pub returns-in-Some-clause-old : goal.returns-in-Some-clause-old
returns-in-Some-clause-old g c =
    let at = sym c.place_of.ensures.place ∙ c.in-Some.is in
    sym ((Found-position _ c.args.self.now c.in-Some.place at).value ∙ c.replace_value.ensures.took)

pub returns-in-Some-clause-entries : goal.returns-in-Some-clause-entries
returns-in-Some-clause-entries g c =
    let at = sym c.place_of.ensures.place ∙ c.in-Some.is in
    let f = Found-position _ c.args.self.now c.in-Some.place at in
    c.replace_value.ensures.entries
    ∙ sym (insert_entry-first g.K.PartialEq.eq c.args.key c.args.value _ _ f.first)

pub returns-in-Some-clause-unique : goal.returns-in-Some-clause-unique
returns-in-Some-clause-unique g c =
    unique_set g.K.PartialEq.eq c.args.self.now _ c.in-Some.place c.args.value c.replace_value.ensures.entries
    c.place_of.ensures.unique

pub returns-in_ok-push-in-None-clause-old : goal.returns-in_ok-push-in-None-clause-old
returns-in_ok-push-in-None-clause-old g c =
    sym (Missing-position _ c.args.self.now (sym c.place_of.ensures.place ∙ c.in-None.is)).value

pub returns-in_ok-push-in-None-clause-entries : goal.returns-in_ok-push-in-None-clause-entries
returns-in_ok-push-in-None-clause-entries g c =
    let m = Missing-position _ c.args.self.now (sym c.place_of.ensures.place ∙ c.in-None.is) in
    c.in_ok-push-in-None.ensures.pushed
    ∙ sym (insert_entry-absent g.K.PartialEq.eq c.args.key c.args.value c.args.self.now m.absent)

pub returns-in_ok-push-in-None-clause-unique : goal.returns-in_ok-push-in-None-clause-unique
returns-in_ok-push-in-None-clause-unique g c =
    let at = sym c.place_of.ensures.place ∙ c.in-None.is in
    unique_push g.K.PartialEq.eq g.met.K.Eq.laws c.args.self.now _ c.args.key c.args.value at
    c.in_ok-push-in-None.ensures.pushed c.place_of.ensures.unique

pub returns-in_err-push-in-None-clause-absent : goal.returns-in_err-push-in-None-clause-absent
returns-in_err-push-in-None-clause-absent g c =
    let m = Missing-position _ c.args.self.now (sym c.place_of.ensures.place ∙ c.in-None.is) in
    on_err c.from_residual.result m.value

pub returns-in_err-push-in-None-clause-unique : goal.returns-in_err-push-in-None-clause-unique
returns-in_err-push-in-None-clause-unique g c =
    subst (HasUniqueKeys g.K.PartialEq.eq) (sym c.in_err-push-in-None.ensures.err) c.place_of.ensures.unique
