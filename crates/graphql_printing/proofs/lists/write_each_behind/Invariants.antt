-- What was written is the items so far.
use Rattle.std.proofs.Common.{take}
use Rattle.std.specs.Fmt.{HasWritten, IsPlainFormatter}
use Rattle.graphql_printing.specs.Layout.{each_behind}
use Rattle.graphql_printing.proofs.lists.write_each_behind.Given as goal

abbrev pub invariant-loop-item : goal.invariant-loop-item
invariant-loop-item g l = IsPlainFormatter l.initial.f → HasWritten g.W.Write.write_str_gives l.initial.f
    (each_behind l.separator (g.T.Written.text l.indent) (take l.item-index l.items)) l.f
