use Rattle.std.proofs.Common.{◌∙◌, ◌++◌, ℕ, ap, length, refl, string_bytes, sym}
use Rattle.std.specs.Borrow.{Bor}
use Rattle.std.proofs.lemmas.List.{length-map, take_all}
use Rattle.std.proofs.lemmas.Result.{IfOk-weaker}
use Rattle.graphql_nodes.specs.declared.source.SourceFile.{SourceFile}
use Rattle.peglinden_run.specs.LostComments.{IsLossReport, lent_files}
use Rattle.peglinden_run.specs.UnwrittenFiles.{unwritten_tally}
use Rattle.peglinden_run.proofs.DocumentLemmas.{arranged-as}
use Rattle.peglinden_run.proofs.LossLemmas.{says-at, says-lent}
use Rattle.peglinden_run.proofs.lost_comments.loss_printed.Goals as goal

pub loop-file-preserved : goal.loop-file-preserved
loop-file-preserved c = says-at (λ (file : Bor SourceFile). IsLossReport c.args.form file.now)
    c.args.commented.now c.loop-file.file-index c.file-item.result (string_bytes c.loop-file.said)
    (string_bytes c.in_ok-loss_report.field-0) _ c.loop-file-test.true c.file-item.is c.loop-file.invariant
    c.in_ok-loss_report.ensures (c.in_ok-push_str.ensures.bytes
    ∙ ap (λ l. string_bytes c.loop-file.said ++ l) c.as_str.ensures.value)

pub returns : goal.returns
returns c =
    let files = c.args.commented.now in
    let all = rw (take_all c.loop-file.file-index files c.loop-file-test.false) at c.loop-file.invariant in
    IfOk-weaker c.unwritten_printed.result _ _
    (λ printed is. record {
      said = string_bytes c.loop-file.said;
      says = says-lent (IsLossReport c.args.form) files _ all;
      shows = arranged-as c.args.form _ (unwritten_tally (length (lent_files files)) c.args.files) _ _ _ _
          printed (ap (λ (n : ℕ). unwritten_tally n c.args.files) (sym (length-map files _))) refl refl is;
    }) c.unwritten_printed.ensures
