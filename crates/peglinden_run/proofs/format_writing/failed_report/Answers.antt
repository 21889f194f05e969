use Rattle.std.proofs.lemmas.Result.{IfOk-weaker}
use Rattle.peglinden_run.proofs.format_writing.failed_report.Goals as goal

pub returns : goal.returns
returns c = IfOk-weaker c.unwritten_report.result _ _ (λ report is. (c.as_str.result.now, is))
    c.unwritten_report.ensures
