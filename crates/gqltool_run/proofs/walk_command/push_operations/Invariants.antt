use Rattle.std.proofs.Common.{string_bytes}
use Rattle.apollo_executable.specs.Operations.{all_operations}
use Rattle.gqltool_run.specs.WalkCommand.{operation_with_line}
use Rattle.gqltool_run.proofs.WalkTextLemmas.{LacksSets}
use Rattle.gqltool_run.proofs.walk_command.push_operations.Given as goal

abbrev pub invariant-loop-operation : goal.invariant-loop-operation
invariant-loop-operation g l = LacksSets operation_with_line l.document
    (all_operations l.document.operations) (g.O.Outlet.sent l.fn.outlet) (string_bytes l.fn.text)
    l.operation-iterator (g.O.Outlet.sent l.outlet) (string_bytes l.text)
