use Rattle.std.proofs.Common.{string_bytes, take}
use Rattle.peglinden_run.specs.declared.reports.Subject.TheVariants as subjects
use Rattle.peglinden_run.specs.Reports.{Adds, IsSaid, SaysEach}
use Rattle.peglinden_run.proofs.reports.push_each.Given as goal

abbrev pub invariant-loop-fault : goal.invariant-loop-fault
invariant-loop-fault g l =
    Adds (SaysEach (λ fault. IsSaid subjects.Fault l.form (g.S.Sources.files l.sources) fault.0
    (g.E.Reported.said_about fault.1) (g.E.Reported.said_details fault.1)) (take l.fault-index l.faults))
    (string_bytes l.fn.text) (string_bytes l.text)
