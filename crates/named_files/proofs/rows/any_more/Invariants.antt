use Rattle.std.proofs.Common.{◌≡◌, ◌++◌, drop, false}
use Rattle.named_files.specs.Rows.{any_more}
use Rattle.named_files.proofs.rows.any_more.Given as goal

abbrev pub invariant-loop-here : goal.invariant-loop-here
invariant-loop-here l = l.more.items ++ any_more l.earlier (drop l.here-index l.row) ≡ any_more false l.row
