use Rattle.std.proofs.Common.{◌∙◌, sym}
use Rattle.peglinden_run.proofs.RunLemmas.{failure_written}
use Rattle.peglinden_run.proofs.running.end_with_failure.Goals as goal

pub returns-clause-written : goal.returns-clause-written
returns-clause-written g c = rw c.status.ensures (failure_written c.args.failure.now _ _ _ _
    (rw c.output.ensures at c.in_default.ensures.written) (rw c.message.ensures at c.write_report.ensures))
