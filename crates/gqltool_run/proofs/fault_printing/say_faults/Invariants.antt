use Rattle.std.proofs.Common.{take, string_bytes}
use Rattle.gqltool_run.specs.FaultLines.{AreFaultLines}
use Rattle.gqltool_run.specs.Pieces.{IsSaid}
use Rattle.gqltool_run.proofs.fault_printing.say_faults.Given as goal

abbrev pub invariant-loop-fault : goal.invariant-loop-fault
invariant-loop-fault g l = IsSaid (AreFaultLines (take l.fault-index l.faults)) (g.O.Outlet.sent l.fn.outlet)
    (g.O.Outlet.sent l.outlet) (string_bytes l.fn.text) (string_bytes l.text)
