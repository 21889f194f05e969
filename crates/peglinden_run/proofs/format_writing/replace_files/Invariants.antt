use Rattle.std.proofs.Common.{◌≤◌, string_bytes, take}
use Rattle.peglinden_run.specs.Layouts.{changed_bytes}
use Rattle.peglinden_run.proofs.WriteLemmas.{Tried}
use Rattle.peglinden_run.proofs.format_writing.replace_files.Given as goal

abbrev pub invariant-loop-file : goal.invariant-loop-file
invariant-loop-file g l = record {
  tried : Tried l.form (take l.file-index (changed_bytes l.changed)) (g.W.Replacing.replaced l.fn.writer)
      (g.W.Replacing.replaced l.writer) (string_bytes l.said) l.left;
  few : l.left ≤ l.file-index;
}
