use Rattle.std.proofs.Common.{length, ap, ◌∙◌, arith, refl, get_or, false, ◌-◌}
use Rattle.named_files.specs.Patterns.{part_matches}
use Rattle.named_files.specs.Rows.{row_behind_sign}
use Rattle.named_files.proofs.RowLemmas.{for-unbegun, reaches, reaches-unbegun}
use Rattle.named_files.proofs.StepLemmas.{at_end, sign_step}
use Rattle.named_files.proofs.patterns.part_matches.Goals as goal

pub loop-sign-init : goal.loop-sign-init
loop-sign-init c = record {
  long = ap length c.in_ok-row.ensures ∙ for-unbegun c.args.part.now;
  reaches = ap (λ r. reaches (part_matches c.args.signs.now) r c.args.part.now) c.in_ok-row.ensures
      ∙ reaches-unbegun (part_matches c.args.signs.now) c.args.part.now;
}

pub loop-sign-preserved : goal.loop-sign-preserved
loop-sign-preserved c =
    let s = sign_step c.args.signs.now c.args.part.now c.loop-sign.sign-index c.sign-item.result
    c.loop-sign.row.items c.in_ok-row-2.row.items (part_matches c.args.signs.now c.args.part.now)
    (omega arith) c.sign-item.is c.loop-sign.invariant.long c.loop-sign.invariant.reaches
    (c.in_ok-row-2.ensures
    ∙ ap (λ r. row_behind_sign c.sign-item.result c.args.part.now r) c.as_slice.ensures.value) in
    record { long = s.0; reaches = s.1 }

pub returns : goal.returns
returns c =
    at_end part_matches c.args.signs.now c.args.part.now c.loop-sign.sign-index c.loop-sign.row.items
    c.is_last_set.result refl c.loop-sign-test.false c.loop-sign.invariant.long
    (c.is_last_set.ensures ∙ ap (λ r. get_or r (length r - 1) false) c.as_slice-2.ensures.value)
    ∙ c.loop-sign.invariant.reaches
