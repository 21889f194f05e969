use Rattle.std.proofs.Common.{◌≡◌, ◌+◌, ◌-◌, ◌/◌, ◌%◌, ◌^◌, ◌<◌}
use Rattle.graphql_nodes.specs.KeyedHash.{mix_blocks}
use Rattle.graphql_nodes.proofs.collections.hash_keys.KeyedHasherHasher.write.Given as goal

abbrev pub invariant-loop-at : goal.invariant-loop-at
invariant-loop-at l = (l.at % 16 ≡ 0) × (l.at < l.len)
    × (l.state ≡ mix_blocks l.factor l.bytes ((l.initial.self.state + l.len) % 2 ^ 64) (l.at / 16))

abbrev pub decreases-loop-at : goal.decreases-loop-at
decreases-loop-at l = l.len - l.at
