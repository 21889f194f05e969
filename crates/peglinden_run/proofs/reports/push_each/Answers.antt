use Rattle.peglinden_run.specs.declared.reports.Subject.TheVariants as subjects
use Rattle.peglinden_run.specs.Reports.{IsSaid}
use Rattle.peglinden_run.proofs.ReportLemmas.{says-next}
use Rattle.peglinden_run.proofs.reports.push_each.Goals as goal

pub loop-fault-preserved : goal.loop-fault-preserved
loop-fault-preserved g c = says-next
    (λ fault. IsSaid subjects.Fault c.args.form (g.S.Sources.files c.args.sources.now)
    fault.0 (g.E.Reported.said_about fault.1) (g.E.Reported.said_details fault.1)) _ _ _ _ _ _
    c.loop-fault-test.true c.fault-item.is c.loop-fault.invariant c.in_ok-push_said.ensures
