use Rattle.std.proofs.Common.{◌≡◌, take}
use Rattle.peglinden_run.specs.Layouts.{changed_bytes, changed_files}
use Rattle.peglinden_run.proofs.layouts.changed_files.Given as goal

abbrev pub invariant-loop-document : goal.invariant-loop-document
invariant-loop-document l = changed_bytes l.files.items ≡ changed_files (take l.document-index l.documents)
