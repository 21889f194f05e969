use Rattle.std.proofs.Common.{length, ap, ◌∙◌, arith, refl, get_or, false, ◌-◌}
use Rattle.named_files.specs.Patterns.{parts_match, texts}
use Rattle.named_files.specs.Rows.{row_behind_part}
use Rattle.named_files.proofs.RowLemmas.{for-unbegun, reaches, reaches-unbegun}
use Rattle.named_files.proofs.StepLemmas.{at_end, part_step, unbegun-texts}
use Rattle.named_files.proofs.patterns.parts_match.Goals as goal

pub loop-part-init : goal.loop-part-init
loop-part-init c =
    let e = c.in_ok-row.ensures ∙ unbegun-texts c.args.there.now in
    record {
      long = ap length e ∙ for-unbegun (texts c.args.there.now);
      reaches = ap (λ r. reaches (parts_match (texts c.args.wanted.now)) r (texts c.args.there.now)) e
          ∙ reaches-unbegun (parts_match (texts c.args.wanted.now)) (texts c.args.there.now);
    }

pub loop-part-preserved : goal.loop-part-preserved
loop-part-preserved c =
    let s = part_step c.args.wanted.now (texts c.args.there.now) c.loop-part.part-index c.part-item.result
    c.loop-part.row.items c.in_ok-row-2.row.items
    (parts_match (texts c.args.wanted.now) (texts c.args.there.now)) (omega arith) c.part-item.is
    c.loop-part.invariant.long c.loop-part.invariant.reaches
    (c.in_ok-row-2.ensures
    ∙ ap (λ r. row_behind_part c.as_slice.result.now (texts c.args.there.now) r)
    c.as_slice-in-loop-part.ensures.value
    ∙ ap (λ p. row_behind_part p (texts c.args.there.now) c.loop-part.row.items) c.as_slice.ensures.value) in
    record { long = s.0; reaches = s.1 }

pub returns : goal.returns
returns c =
    at_end (λ l. parts_match (texts l)) c.args.wanted.now (texts c.args.there.now) c.loop-part.part-index
    c.loop-part.row.items c.is_last_set.result refl c.loop-part-test.false c.loop-part.invariant.long
    (c.is_last_set.ensures ∙ ap (λ r. get_or r (length r - 1) false) c.as_slice-2.ensures.value)
    ∙ c.loop-part.invariant.reaches
