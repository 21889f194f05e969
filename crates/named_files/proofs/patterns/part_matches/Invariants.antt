use Rattle.std.proofs.Common.{◌≡◌, ◌+◌, drop, length}
use Rattle.named_files.specs.Patterns.{part_matches}
use Rattle.named_files.proofs.RowLemmas.{reaches}
use Rattle.named_files.proofs.patterns.part_matches.Given as goal

abbrev pub invariant-loop-sign : goal.invariant-loop-sign
invariant-loop-sign l = record {
  long : length l.row.items ≡ length l.part + 1;
  reaches : reaches (part_matches (drop l.sign-index l.signs)) l.row.items l.part
      ≡ part_matches l.signs l.part;
}
