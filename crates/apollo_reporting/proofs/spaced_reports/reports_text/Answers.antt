use Rattle.apollo_reporting.proofs.SpacedLemmas.{next-report}
use Rattle.apollo_reporting.proofs.spaced_reports.reports_text.Goals as goal

pub loop-fault-preserved : goal.loop-fault-preserved
loop-fault-preserved g c = next-report g.E.Display.output g.E.Reported.said_about
    (g.S.Sources.files c.args.sources.now) _ _ _ _ _ _ c.loop-fault-test.true c.fault-item.is
    c.loop-fault.invariant c.in_ok-push_report.ensures.added
