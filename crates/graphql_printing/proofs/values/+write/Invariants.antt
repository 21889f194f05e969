-- What was written is the items or members so far.
use Rattle.std.proofs.Common.{take, codes}
use Rattle.std.specs.Fmt.{HasWritten, IsPlainFormatter}
use Rattle.graphql_printing.specs.Layout.{each_behind}
use Rattle.graphql_printing.specs.Texts.{item_text, member_text}
use Rattle.graphql_printing.proofs.values.+write.Given as goal

abbrev pub invariant-write_items-loop-item : goal.invariant-write_items-loop-item
invariant-write_items-loop-item g l = IsPlainFormatter l.initial.f → HasWritten g.W.Write.write_str_gives
    l.initial.f (each_behind (codes ", ") item_text (take l.item-index l.others)) l.f

abbrev pub invariant-write_members-loop-member : goal.invariant-write_members-loop-member
invariant-write_members-loop-member g l = IsPlainFormatter l.initial.f → HasWritten g.W.Write.write_str_gives
    l.initial.f (each_behind (codes ", ") member_text (take l.member-index l.others)) l.f
