use Rattle.std.proofs.Common.{string_bytes}
use Rattle.gqltool_run.specs.FaultLines.{AreFaultLines}
use Rattle.gqltool_run.proofs.PieceLemmas.{said-behind}
use Rattle.gqltool_run.proofs.fault_printing.push_faults.Goals as goal

pub returns-in-Ok : goal.returns-in-Ok
returns-in-Ok g c = said-behind {P = AreFaultLines c.args.faults.now} (string_bytes c.args.text.now)
    (string_bytes c.say_faults.new.text) c.in-Ok.ensures.said
