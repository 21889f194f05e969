use Rattle.std.proofs.Common.{◌+◌, string_bytes, arith}
use Rattle.apollo_executable.proofs.Walking.WalkLemmas.{OnErr-always}
use Rattle.gqltool_run.specs.FaultLines.{fault_line}
use Rattle.gqltool_run.proofs.FaultTextLemmas.{AreFaultLines-turn, AreFaultLines-whole}
use Rattle.gqltool_run.proofs.PieceLemmas.{said-cut, said-more}
use Rattle.gqltool_run.proofs.fault_printing.say_faults.Goals as goal

pub loop-fault-preserved : goal.loop-fault-preserved
loop-fault-preserved g c =
    let f = c.fault-item.result in
    let was = c.loop-fault.invariant in
    let said = c.in_ok-push_fault.ensures.0 in
    said-more (g.O.Outlet.sent c.args.outlet.now) (g.O.Outlet.sent c.loop-fault.outlet)
    (g.O.Outlet.sent c.let_out.new.self) (string_bytes c.args.text.now) (string_bytes c.loop-fault.text)
    (string_bytes c.push_fault.new.text) (string_bytes c.let_out.new.text) (fault_line f.0 said) was
    (λ lines are. AreFaultLines-turn c.args.faults.now c.loop-fault.fault-index f lines said (omega arith)
    c.fault-item.is are) c.in_ok-push_fault.ensures.1 c.in_ok-let_out.ensures.held

pub returns-in_err-push_fault-clause-begun : goal.returns-in_err-push_fault-clause-begun
returns-in_err-push_fault-clause-begun g c =
    OnErr-always _ _ (said-cut _ (g.O.Outlet.sent c.loop-fault.outlet) _ (string_bytes c.loop-fault.text)
    c.loop-fault.invariant (λ lines are. AreFaultLines-whole c.args.faults.now c.loop-fault.fault-index
    lines are))

pub returns-in_err-let_out-clause-begun : goal.returns-in_err-let_out-clause-begun
returns-in_err-let_out-clause-begun g c =
    let f = c.fault-item.result in
    let said = c.in_ok-push_fault.ensures.0 in
    let cut = c.in_err-let_out.ensures.begun in
    OnErr-always _ _ (said-cut _ _ _ cut.0 (said-more _ (g.O.Outlet.sent c.loop-fault.outlet) _ _
    (string_bytes c.loop-fault.text) _ cut.0 _ c.loop-fault.invariant (λ lines are. AreFaultLines-turn
    c.args.faults.now c.loop-fault.fault-index f lines said (omega arith) c.fault-item.is are)
    c.in_ok-push_fault.ensures.1 cut.1) (λ lines are. AreFaultLines-whole c.args.faults.now
    (c.loop-fault.fault-index + 1) lines are))
