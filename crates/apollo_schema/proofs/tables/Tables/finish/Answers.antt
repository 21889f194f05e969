use Rattle.apollo_meaning.proofs.Prelude.{◌≡◌, ℕ, ◌+◌, ◌^◌, ◌≤◌, List, length, sym, ap, subst, ◌∙◌, source_at}
use Rattle.apollo_meaning.proofs.Prelude.{ListItem, Folding, added_items, whole, completed, folded}
use Rattle.apollo_schema.specs.declared.build_failure.BuildFailure.TheVariants as failures
use Rattle.apollo_folding.specs.declared.builder_error.BuilderError.{BuilderError}
use Rattle.apollo_folding.specs.declared.builder_error.BuilderError.TheVariants as refusals
use Rattle.apollo_folding.specs.Refusals.{RefusedAs}
use Rattle.apollo_schema.specs.BuildAnswers.{failure_of}
use Rattle.apollo_schema.specs.Stands.{Stands}
use Rattle.apollo_schema.proofs.Ends.OutcomeLemmas.{if_ok, on_ok, if_err, past, past-either}
use Rattle.apollo_meaning.proofs.Order.MomentLemmas.{folding_order-forget}
use Rattle.apollo_schema.proofs.tables.Tables.finish.Goals as goal

pub returns-in-Ok-clause-built : goal.returns-in-Ok-clause-built
returns-in-Ok-clause-built c = if_ok c.into_schema.result.0 (λ schema means start xs was. means start
    c.args.adopts xs (c.in-Ok.ensures.completes start (added_items xs) was)) c.into_schema.ensures.built

pub returns-in-Ok-clause-faultless : goal.returns-in-Ok-clause-faultless
returns-in-Ok-clause-faultless c = on_ok c.into_schema.result.0 (λ none start xs was. none start c.args.adopts
    xs (c.in-Ok.ensures.completes start (added_items xs) was)) c.into_schema.ensures.faultless

pub returns-in-Ok-clause-faults : goal.returns-in-Ok-clause-faults
returns-in-Ok-clause-faults c = if_err c.into_schema.result.0 (λ partial faults means start xs was. means
    start c.args.adopts xs (c.in-Ok.ensures.completes start (added_items xs) was))
    c.into_schema.ensures.faults

pub returns-in-Ok-clause-source : goal.returns-in-Ok-clause-source
returns-in-Ok-clause-source c = λ built start xs was. c.into_schema.ensures.source built
    ∙ (c.in-Ok.ensures.completes start (added_items xs) was).next
    ∙ ap (λ (l : List Folding). source_at (start + length l))
    (sym (folding_order-forget (whole c.args.adopts xs)))

pub returns-in-Ok-clause-rolled_back : goal.returns-in-Ok-clause-rolled_back
returns-in-Ok-clause-rolled_back c = λ refused. c.into_schema.ensures.rolled_back refused
    ∙ ap source_at c.next_number-before.ensures

pub returns-in-Ok-clause-not_below : goal.returns-in-Ok-clause-not_below
returns-in-Ok-clause-not_below c = λ start xs was. past-either c.into_schema.result.0 c.into_schema.result.1
    start (length (folded (whole c.args.adopts xs))) (length (folded (added_items xs)))
    (λ built. c.into_schema.ensures.source built
    ∙ (c.in-Ok.ensures.completes start (added_items xs) was).next) (λ refused.
    c.into_schema.ensures.rolled_back refused ∙ ap source_at c.next_number-before.ensures ∙ was.next)

refused_for : (P : Type 0) (e : BuilderError) → RefusedAs e P → failure_of e ≡ failures.ExtensionIds → P
refused_for P refusals.Memory reason h = absurd (cc)
refused_for P refusals.ExtensionIds reason h = reason
refused_for P refusals.Failed reason h = absurd reason

pub returns-in-Err-clause-spent : goal.returns-in-Err-clause-spent
returns-in-Err-clause-spent c = λ spent start xs was.
    let adopts = c.args.adopts in
    let is : c.refusal.result ≡ failures.ExtensionIds = cc in
    let full = refused_for ((start : ℕ) (xs : List ListItem) → Stands start xs c.args.self
    → 2 ^ 64 ≤ start + length (folded (completed adopts xs))) c.in-Err.error c.in-Err.ensures.refused
    (sym c.refusal.ensures ∙ is) start (added_items xs) was in
    subst (λ (l : List Folding). 2 ^ 64 ≤ start + length l) (sym (folding_order-forget (whole adopts xs)))
    full

pub returns-in-Err-clause-rolled_back : goal.returns-in-Err-clause-rolled_back
returns-in-Err-clause-rolled_back c = λ refused. c.starting_at.ensures
    ∙ ap source_at c.next_number-before.ensures

pub returns-in-Err-clause-not_below : goal.returns-in-Err-clause-not_below
returns-in-Err-clause-not_below c = λ start xs was. past c.starting_at.result start
    (length (folded (added_items xs))) (c.starting_at.ensures ∙ ap source_at c.next_number-before.ensures
    ∙ was.next)
