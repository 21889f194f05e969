-- A text without a rare byte has no control character but tabs and line feeds.
use Rattle.std.proofs.Common.{◌≡◌, ℕ, false, List, [], ◌∷◌, nat_eq, refl, arith}
use Rattle.std.specs.List.{list_any}
use Rattle.std.proofs.lemmas.Bool.{or_parts}
use Rattle.std.proofs.lemmas.Bool.Decides.{nat_tests}
use Rattle.graphql_printing.specs.BlockTest.{is_rare}
use Rattle.graphql_printing.specs.Descriptions.{begins_unprintable, has_unprintable, is_unprintable}

common : (c : ℕ) (cs : List ℕ) → is_rare c ≡ false → begins_unprintable (c ∷ cs) ≡ false
common c cs h =
    let plain : is_unprintable c ≡ false = grind (arith, nat_tests, h) in
    let other : nat_eq c 194 ≡ false = grind (arith, nat_tests, h) in
    rw (plain, other) refl

pub none_rare : (text : List ℕ) → list_any is_rare text ≡ false → has_unprintable text ≡ false
none_rare [] h = refl
none_rare (c ∷ cs) h =
    let parts = or_parts _ _ h in
    rw (common c cs parts.0) (none_rare cs parts.1)
