-- The lines of faults, where there are none.
use Rattle.std.proofs.Common.{◌≡◌, ℕ, ◌==◌, ◌&&◌, Bool, true, false, not, List, [], ◌∷◌, Option, length, refl}
use Rattle.std.proofs.Common.{sym, arith}
use Rattle.std.proofs.lemmas.Bool.{true≢false}
use Rattle.std.proofs.lemmas.Bool.Decides.{nat_tests}
use Rattle.graphql_nodes.specs.declared.source.SourceSpan.{SourceSpan}
use Rattle.gqltool_run.specs.FaultLines.{AreFaultLines}

-- faults without a line are none
pub no-lines : {E : Type 0} (fs : List (Option SourceSpan × E)) (lines : List ℕ) → (length fs == 0) ≡ true
    → AreFaultLines fs lines → lines ≡ []
no-lines [] lines h are = are
no-lines (f ∷ fs) lines h are = absurd (grind (arith, nat_tests, h))

pub not-false : (b : Bool) → not b ≡ false → b ≡ true
not-false true h = refl
not-false false h = sym h

pub both-true : (a b : Bool) → not (a && b) ≡ false → (a ≡ true) × (b ≡ true)
both-true true true h = (refl, refl)
both-true true false h = absurd (true≢false h)
both-true false b h = absurd (true≢false h)
