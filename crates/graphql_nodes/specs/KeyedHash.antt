-- What a hasher under keys computes: std's `FoldHasher`, with a factor of its own.
use Rattle.std.specs.Prelude.{ℕ, zero, suc, ◌+◌, ◌-◌, ◌*◌, ◌/◌, ◌%◌, ◌^◌, List, length, if◌then◌else◌, nat_le}
use Rattle.std.specs.Prelude.{bit_xor}
use Rattle.std.specs.Hash.FoldHasher.{folded_multiply, read_u64, read_short}
use Rattle.graphql_nodes.specs.declared.collections.hash_keys.KeyedHasher.{KeyedHasher}

-- the state after the words at i and at j
abbrev pub mix : ℕ → List ℕ → ℕ → ℕ → ℕ → ℕ
mix factor bs state i j = folded_multiply (bit_xor (read_u64 bs i) state) (bit_xor (read_u64 bs j) factor)

-- the state after the first n blocks of 16 bytes
unfoldable pub mix_blocks : ℕ → List ℕ → ℕ → ℕ → ℕ
mix_blocks factor bs state zero = state
mix_blocks factor bs state (suc n) = mix factor bs (mix_blocks factor bs state n) (16 * n) (16 * n + 8)

-- the hasher after `write(bs)`
unfoldable pub write : KeyedHasher → List ℕ → KeyedHasher
write h bs =
    let n = length bs in
    let short = folded_multiply (bit_xor h.state (read_short bs)) (bit_xor h.factor (2 * n)) in
    let long = mix h.factor bs (mix_blocks h.factor bs ((h.state + n) % 2 ^ 64) ((n - 1) / 16)) (n - 16)
    (n - 8) in
    record { state = if nat_le n 8 then short else long; factor = h.factor }
