use Rattle.std.proofs.Common.{◌≡◌, ◌++◌, drop, false, map}
use Rattle.named_files.specs.Rows.{unbegun}
use Rattle.named_files.proofs.rows.unbegun.Given as goal

abbrev pub invariant-loop-item : goal.invariant-loop-item
invariant-loop-item g l = l.row.items ++ map (λ _. false) (drop l._item-index l.list) ≡ unbegun l.list
