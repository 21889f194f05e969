-- Numbers of hexadecimal digits, where they are cut off beyond what can be a Unicode scalar value.
use Rattle.std.proofs.Common.{◌≡◌, ◌≤◌, ◌+◌, ◌*◌, ℕ, Bool, true, false, List, [], ◌∷◌, min, refl, sym, ap}
use Rattle.std.proofs.Common.{◌∙◌, arith}
use Rattle.std.specs.Prelude.{nat_le}
use Rattle.graphql_tokens.specs.Strings.{hex_digit, hex_number, is_scalar}

-- further digits make no number smaller
beyond : (n : ℕ) (cs : List ℕ) → 1114112 ≤ n → 1114112 ≤ hex_number n cs
beyond n [] large = large
beyond n (c ∷ cs) large = beyond (n * 16 + hex_digit c) cs (omega arith)

-- what is cut off before is cut off behind
pub saturated : (n : ℕ) (cs : List ℕ)
    → min (hex_number (min n 1114112) cs) 1114112 ≡ min (hex_number n cs) 1114112
saturated n cs = by (nat_le n 1114112) refl
  where
    by : (b : Bool) → nat_le n 1114112 ≡ b
        → min (hex_number (min n 1114112) cs) 1114112 ≡ min (hex_number n cs) 1114112
    by true small =
        let le : n ≤ 1114112 = grind arith in
        let same : min n 1114112 ≡ n = omega arith in
        ap (λ (k : ℕ). min (hex_number k cs) 1114112) same
    by false large =
        let le : 1114112 ≤ n = grind arith in
        let one = beyond (min n 1114112) cs (omega arith) in
        omega (arith, beyond n cs le)

-- so what is cut off is a scalar value exactly where the number is
pub scalar_cut : (n : ℕ) → is_scalar (min n 1114112) ≡ is_scalar n
scalar_cut n = by (nat_le n 1114112) refl
  where
    by : (b : Bool) → nat_le n 1114112 ≡ b → is_scalar (min n 1114112) ≡ is_scalar n
    by true small =
        let le : n ≤ 1114112 = grind arith in
        let same : min n 1114112 ≡ n = omega arith in
        ap is_scalar same
    by false large =
        let le : 1114112 ≤ n = grind arith in
        let same : min n 1114112 ≡ 1114112 = omega arith in
        let none : is_scalar n ≡ false = grind arith in
        ap is_scalar same ∙ sym none
