use Rattle.std.proofs.Common.{◌≡◌, ◌+◌, drop, length}
use Rattle.named_files.specs.Patterns.{parts_match, texts}
use Rattle.named_files.proofs.RowLemmas.{reaches}
use Rattle.named_files.proofs.patterns.parts_match.Given as goal

abbrev pub invariant-loop-part : goal.invariant-loop-part
invariant-loop-part l = record {
  long : length l.row.items ≡ length (texts l.there) + 1;
  reaches : reaches (parts_match (texts (drop l.part-index l.wanted))) l.row.items (texts l.there)
      ≡ parts_match (texts l.wanted) (texts l.there);
}
