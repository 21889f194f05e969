use Rattle.std.proofs.Common.{◌∙◌, ap, take}
use Rattle.std.proofs.lemmas.Result.{IfOk-weaker}
use Rattle.std.specs.Prelude.{slice_get}
use Rattle.peglinden_run.specs.LostComments.{loss_words}
use Rattle.peglinden_run.proofs.LossLemmas.{loss-report}
use Rattle.peglinden_run.proofs.lost_comments.loss_report.Goals as goal

pub returns : goal.returns
returns c =
    let begin = rw c.as_str.ensures at c.in_ok-offsets.ensures in
    let first = c.at_most-named.ensures ∙ ap (take 5) c.as_slice.ensures.value in
    let at = c.copied-at.ensures ∙ c.first.ensures.value
    ∙ ap (λ l. slice_get l 0) c.deref.ensures.value
    in
    let why = c.as_str-2.ensures.value ∙ c.in_ok-why.ensures
    ∙ ap (loss_words c.saturating_sub-more.result) c.as_slice-2.ensures.value
    in
    IfOk-weaker c.unwritten_report.result _ _
    (λ report is. loss-report c.args.form c.args.file.now 5 _ _ c.in_ok-places.places.items
    c.saturating_sub-more.result c.copied-at.result c.as_str-path.result.now c.as_str-2.result.now _ begin
    first c.in_ok-places.ensures at c.as_str-path.ensures why is) c.unwritten_report.ensures
