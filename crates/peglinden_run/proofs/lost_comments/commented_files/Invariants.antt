use Rattle.std.proofs.Common.{◌≡◌, take}
use Rattle.peglinden_run.specs.LostComments.{commented_files, lent_files}
use Rattle.peglinden_run.proofs.lost_comments.commented_files.Given as goal

abbrev pub invariant-loop-document : goal.invariant-loop-document
invariant-loop-document l =
    lent_files l.files.items ≡ commented_files (take l.document-index l.documents)
