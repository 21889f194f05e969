-- Of the faults so far the echoes are left out.
use Rattle.peglinden_run.specs.Echoes.{IsEcho, LeavesOut}
use Rattle.peglinden_run.proofs.echoes.without_echoes.Given as goal

abbrev pub invariant-loop-leaf : goal.invariant-loop-leaf
invariant-loop-leaf l = LeavesOut (IsEcho l.faults) l.yielded l.kept.items
