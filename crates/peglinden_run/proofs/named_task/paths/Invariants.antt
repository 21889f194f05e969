use Rattle.std.proofs.Common.{◌≡◌, take}
use Rattle.peglinden_run.specs.Documents.{texts_of}
use Rattle.peglinden_run.specs.Tasks.{found_paths}
use Rattle.peglinden_run.proofs.named_task.paths.Given as goal

abbrev pub invariant-loop-one : goal.invariant-loop-one
invariant-loop-one l = texts_of l.paths.items ≡ found_paths (take l.one-index l.one-items)
