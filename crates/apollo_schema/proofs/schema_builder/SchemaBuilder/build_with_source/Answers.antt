use Rattle.apollo_meaning.proofs.Prelude.{◌≡◌, ◌+◌, ◌≤◌, Err, List, length, sym, ap, subst, ◌∙◌, arith, IfOk}
use Rattle.apollo_meaning.proofs.Prelude.{IfErr, next_number, source_at, Folding, added_items}
use Rattle.apollo_meaning.specs.Order.SpentIds.{SpendsIds}
use Rattle.std.specs.Prelude.{◌↔◌}
use Rattle.apollo_schema.specs.declared.build_failure.BuildFailure.TheVariants as failures
use Rattle.apollo_schema.specs.BuildAnswers.{IfFaults}
use Rattle.apollo_schema.specs.BuilderStands.{HasFailed, SpendsAtBuild, source_after, source_left}
use Rattle.apollo_schema.specs.Built.{IsBuiltOf, IsFoundIn}
use Rattle.apollo_schema.proofs.BuilderLemmas.{holds-as, seen-as, whole_list}
use Rattle.apollo_schema.proofs.Ends.OutcomeLemmas.{if_built, if_err}
use Rattle.apollo_meaning.proofs.Order.MomentLemmas.{folding_order-forget}
use Rattle.apollo_schema.proofs.schema_builder.SchemaBuilder.build_with_source.Goals as goal

pub returns-in-Open : goal.returns-in-Open
returns-in-Open c =
    let b = c.self.inside in
    let r = c.finish.result in
    let done = c.finish.ensures in
    let own = holds-as b c.in-Open.is c.self.invariant in
    let as_seen = seen-as b c.in-Open.is c.self.view_is in
    record {
      built = subst (λ b. IfOk r.0 (IsBuiltOf b)) as_seen (if_built r.0 (λ schema means none from. record {
        means = means b.first_number (whole_list b) own;
        its_sources = from;
        faultless = none b.first_number (whole_list b) own;
      }) done.built done.faultless done.sources);
      faults = subst (λ b. IfErr r.0 (λ failure. IfFaults failure (IsFoundIn b))) as_seen
          (if_err r.0 (λ partial faults means. means b.first_number (whole_list b) own) done.faults);
      failed = subst (λ b. HasFailed b ↔ (r.0 ≡ Err failures.Failed)) as_seen
          (λ h. absurd h, λ h. absurd (done.failed h));
      spent = λ spent. subst SpendsAtBuild as_seen (done.spent spent b.first_number (whole_list b) own);
      -- the source that is handed back has a number
      unspent = λ built spends.
          let left = ap next_number (done.source built b.first_number (whole_list b) own) in
          let spent : SpendsIds b.first_number b.adopt_orphan_extensions (whole_list b) =
          subst SpendsAtBuild (sym as_seen) spends in
          omega (arith, c.finish.type_inv, left, spent);
      source = λ built. subst (λ b. r.1 ≡ source_after b) as_seen (done.source built b.first_number
          (whole_list b) own);
      rolled_back = λ refused. subst (λ b. r.1 ≡ source_left b.start b.standing) as_seen
          (done.rolled_back refused ∙ own.next ∙ ap (λ (l : List Folding). source_at (b.first_number
          + length l)) (sym (folding_order-forget (added_items (whole_list b)))));
      not_below = subst (λ b. b.start ≤ next_number r.1) as_seen
          (done.not_below b.first_number (whole_list b) own);
    }

pub returns-in-Failed-clause-not_below : goal.returns-in-Failed-clause-not_below
returns-in-Failed-clause-not_below c =
    let b = c.self.inside in
    subst (λ b. b.start ≤ next_number c.in-Failed.source) (seen-as b c.in-Failed.is c.self.view_is)
    (holds-as b c.in-Failed.is c.self.invariant)
