use Rattle.std.proofs.Common.{string_bytes, take}
use Rattle.peglinden_run.specs.LostComments.{IsLossReport}
use Rattle.peglinden_run.specs.Reports.{SaysEach}
use Rattle.peglinden_run.proofs.lost_comments.loss_printed.Given as goal

abbrev pub invariant-loop-file : goal.invariant-loop-file
invariant-loop-file l =
    SaysEach (λ file. IsLossReport l.form file.now) (take l.file-index l.commented) (string_bytes l.said)
