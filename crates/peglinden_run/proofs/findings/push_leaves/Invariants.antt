use Rattle.std.proofs.Common.{string_bytes, take}
use Rattle.peglinden_run.specs.Findings.{IsLeafSaid}
use Rattle.peglinden_run.specs.Reports.{Adds, SaysEach}
use Rattle.peglinden_run.proofs.findings.push_leaves.Given as goal

abbrev pub invariant-loop-fault : goal.invariant-loop-fault
invariant-loop-fault g l = Adds (SaysEach (IsLeafSaid l.form (g.S.Sources.files l.sources))
    (take l.fault-index l.faults)) (string_bytes l.fn.text) (string_bytes l.text)
