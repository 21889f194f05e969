use Rattle.std.proofs.Common.{◌≡◌, ◌++◌, false, length, string_bytes}
use Rattle.std.specs.List.{flat_map}
use Rattle.program_io.specs.Writing.{GoesOut}
use Rattle.gqltool_run.specs.WalkCommand.{field_line}
use Rattle.gqltool_run.proofs.walk_command.push_walk.Given as goal

abbrev pub invariant-loop-field : goal.invariant-loop-field
invariant-loop-field g l = record {
  deep : l.walk.deep ≡ l.deep;
  document : l.walk.document ≡ l.document;
  start : l.walk.start ≡ l.set;
  goes_on : l.walk.ended ≡ false;
  says : GoesOut (string_bytes l.fn.text ++ flat_map (field_line l.word) l.initial.walk.coming)
      (g.O.Outlet.sent l.fn.outlet) (g.O.Outlet.sent l.outlet) (string_bytes l.text
      ++ flat_map (field_line l.word) l.walk.coming);
}

abbrev pub decreases-loop-field : goal.decreases-loop-field
decreases-loop-field g l = length l.walk.coming
