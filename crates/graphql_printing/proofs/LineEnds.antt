-- A line feed and blanks are cut from a text that has 64 of these.
use Rattle.std.proofs.Common.{◌≡◌, ℕ, zero, suc, ◌+◌, ◌-◌, ◌<◌, ◌≤◌, List, ◌∷◌, take, drop, replicate, ap}
use Rattle.std.proofs.Common.{arith}
use Rattle.std.specs.Prelude.{slice_index}
use Rattle.std.specs.Str.{IsCharBoundary}
use Rattle.std.proofs.lemmas.List.{take-replicate}
use Rattle.std.proofs.lemmas.Str.{IsCharBoundary-from_ascii}
use Rattle.graphql_printing.specs.Layout.{line_end}

blank_at : (n i : ℕ) → slice_index (replicate n 32) i < 128
blank_at zero i = omega arith
blank_at (suc n) zero = omega arith
blank_at (suc n) (suc i) = blank_at n i

ascii_at : (i : ℕ) → slice_index (line_end 64) i < 128
ascii_at zero = omega arith
ascii_at (suc i) = blank_at 64 i

pub is_boundary : (n : ℕ) → n ≤ 64 → IsCharBoundary (line_end 64) (n + 1)
is_boundary n small = IsCharBoundary-from_ascii (line_end 64) (n + 1) ascii_at (omega (arith, small))

pub line_end_cut : (n : ℕ) → n ≤ 64 → take (n + 1 - 0) (line_end 64) ≡ line_end n
line_end_cut n small =
    let more : n + 1 - 0 ≡ suc n = omega arith in
    rw more (ap (λ (blanks : List ℕ). 10 ∷ blanks) (take-replicate n 64 32 small))

pub blanks_cut : (n : ℕ) → n ≤ 64 → take (n + 1 - 1) (drop 1 (line_end 64)) ≡ replicate n 32
blanks_cut n small =
    let same : n + 1 - 1 ≡ n = omega arith in
    rw same (take-replicate n 64 32 small)
