use Rattle.std.proofs.Common.{◌≡◌, ◌++◌, take, string_bytes}
use Rattle.std.specs.List.{flat_map}
use Rattle.gqltool_run.specs.LeafCommand.{leaf_line}
use Rattle.gqltool_run.proofs.leaf_command.push_leaf_faults.Given as goal

abbrev pub invariant-loop-fault : goal.invariant-loop-fault
invariant-loop-fault l = string_bytes l.text ≡ string_bytes l.fn.text ++ flat_map leaf_line
    (take l.fault-index l.faults)
