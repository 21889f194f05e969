use Rattle.std.proofs.Common.{string_bytes, take}
use Rattle.apollo_reporting.specs.SpacedReports.{AreSpacedReports}
use Rattle.apollo_reporting.proofs.spaced_reports.reports_text.Given as goal

abbrev pub invariant-loop-fault : goal.invariant-loop-fault
invariant-loop-fault g l =
    AreSpacedReports g.E.Display.output g.E.Reported.said_about (g.S.Sources.files l.sources)
    (take l.fault-index l.faults) (string_bytes l.text)
