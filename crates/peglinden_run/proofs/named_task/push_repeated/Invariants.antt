use Rattle.std.proofs.Common.{◌≡◌, ◌++◌, string_bytes, take}
use Rattle.peglinden_run.specs.Tasks.{repeated_text}
use Rattle.peglinden_run.proofs.named_task.push_repeated.Given as goal

abbrev pub invariant-loop-path : goal.invariant-loop-path
invariant-loop-path l =
    string_bytes l.text ≡ string_bytes l.fn.text ++ repeated_text (take l.path-index l.paths)
