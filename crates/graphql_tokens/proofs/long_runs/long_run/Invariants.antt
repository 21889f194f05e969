use Rattle.std.proofs.Common.{length, drop, ◌-◌, ◌+◌, ◌≡◌, ◌≤◌}
use Rattle.std.specs.List.{prefix_len}
use Rattle.graphql_tokens.proofs.long_runs.long_run.Given as goal

abbrev pub invariant-chunks : goal.invariant-chunks
invariant-chunks g l = record {
  within : l.at ≤ length l.text;
  whole : prefix_len g.S.ByteSort.test l.text ≡ l.at + prefix_len g.S.ByteSort.test (drop l.at l.text);
}

abbrev pub decreases-chunks : goal.decreases-chunks
decreases-chunks g l = length l.text - l.at
