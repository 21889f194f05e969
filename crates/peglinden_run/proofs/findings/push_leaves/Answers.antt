use Rattle.peglinden_run.specs.Findings.{IsLeafSaid}
use Rattle.peglinden_run.proofs.ReportLemmas.{says-next}
use Rattle.peglinden_run.proofs.findings.push_leaves.Goals as goal

pub loop-fault-preserved : goal.loop-fault-preserved
loop-fault-preserved g c = says-next (IsLeafSaid c.args.form (g.S.Sources.files c.args.sources.now))
    _ _ _ _ _ _ c.loop-fault-test.true c.fault-item.is c.loop-fault.invariant c.in_ok-push_said.ensures
