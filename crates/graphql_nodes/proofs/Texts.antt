-- Texts are compared by their bytes.
use Rattle.std.proofs.Common.{◌≡◌, ℕ, true, false, List, refl, arith}
use lib.Pointwise.{bytes_decides}
use Rattle.graphql_nodes.specs.SameText.{same}

-- the same texts are one
pub same-true : (a b : List ℕ) → same a b ≡ true → a ≡ b
same-true a b = (bytes_decides a b).0

pub same-is : (a b : List ℕ) → a ≡ b → same a b ≡ true
same-is a b = (bytes_decides a b).1

pub same-refl : (a : List ℕ) → same a a ≡ true
same-refl a = same-is a a refl

-- texts that differ do so both ways
pub same-flip : (a b : List ℕ) → same a b ≡ false → same b a ≡ false
same-flip a b h = grind (arith, same-true b a, same-is a b)
