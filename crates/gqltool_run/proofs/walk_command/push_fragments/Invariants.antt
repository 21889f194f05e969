use Rattle.std.proofs.Common.{string_bytes}
use Rattle.gqltool_run.specs.WalkCommand.{fragment_with_line}
use Rattle.gqltool_run.proofs.WalkTextLemmas.{LacksSets}
use Rattle.gqltool_run.proofs.walk_command.push_fragments.Given as goal

abbrev pub invariant-loop-name : goal.invariant-loop-name
invariant-loop-name g l = LacksSets fragment_with_line l.document l.document.fragments
    (g.O.Outlet.sent l.fn.outlet) (string_bytes l.fn.text) l.name-iterator (g.O.Outlet.sent l.outlet)
    (string_bytes l.text)
