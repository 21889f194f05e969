use Rattle.std.proofs.Common.{length}
use Rattle.program_io.specs.Writing.{GoesOut}
use Rattle.program_io.proofs.writing.write_text.Given as goal

abbrev pub invariant-loop-left : goal.invariant-loop-left
invariant-loop-left g l = GoesOut l.text (g.O.Write.contents l.fn.output) (g.O.Write.contents l.output) l.left

abbrev pub decreases-loop-left : goal.decreases-loop-left
decreases-loop-left g l = length l.left
