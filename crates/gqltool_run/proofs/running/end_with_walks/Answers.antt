use Rattle.std.proofs.Common.{subst}
use Rattle.gqltool_run.specs.Status.{Writes}
use Rattle.gqltool_run.proofs.EndLemmas.{sent_out}
use Rattle.gqltool_run.proofs.running.end_with_walks.Goals as goal

pub returns-in-Ok-clause-sent : goal.returns-in-Ok-clause-sent
returns-in-Ok-clause-sent g c =
    let last = c.in-Ok.last in
    let is = c.in-Ok.ensures in
    let text = is.said.0 in (
      text,
      (
        is.said.1.0,
        sent_out text _ _ _ _ last.has_faults _ c.end_with_answer.result is.said.1.1 is.faults
            c.end_with_answer.ensures.written,
      ),
    )

pub returns-in-Err-Memory-clause-sent : goal.returns-in-Err-Memory-clause-sent
returns-in-Err-Memory-clause-sent g c =
    let cut = c.in-Err-Memory.ensures.begun in
    rw c.end_without_answer.ensures (cut.1.0, (cut.1.1.0, (cut.0, cut.1.1.1)))

pub returns-in-Err-Memory-clause-quiet : goal.returns-in-Err-Memory-clause-quiet
returns-in-Err-Memory-clause-quiet g c = λ writes. absurd (subst Writes c.end_without_answer.ensures writes)

pub returns-clause-sent : goal.returns-clause-sent
returns-clause-sent g c =
    let cut = c.in-Err-NotWritten.ensures.begun in
    rw c.end_unwritten.ensures (cut.1.0, (cut.1.1.0, (cut.0, cut.1.1.1)))

pub returns-clause-quiet : goal.returns-clause-quiet
returns-clause-quiet g c = λ writes. absurd (subst Writes c.end_unwritten.ensures writes)
