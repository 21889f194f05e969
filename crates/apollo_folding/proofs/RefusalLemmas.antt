-- What follows from a refusal.
use Rattle.apollo_meaning.proofs.Prelude.{◌≡◌, Result, Ok, Err, IfErr, sym, subst}
use Rattle.std.specs.Prelude.{IsErrAnd}
use Rattle.apollo_folding.specs.declared.builder_error.BuilderError.{BuilderError}
use Rattle.apollo_folding.specs.declared.builder_error.BuilderError.TheVariants.{Memory, ExtensionIds, Failed}
use Rattle.apollo_folding.specs.Refusals.{RefusedAs}

-- a refusal for one reason is one for a weaker reason
pub RefusedAs-weaker : (error : BuilderError) (P Q : Type 0) → (P → Q) → RefusedAs error P → RefusedAs error Q
RefusedAs-weaker Memory P Q f p = tt
RefusedAs-weaker ExtensionIds P Q f p = f p
RefusedAs-weaker Failed P Q f p = p

-- and so is what hands it on
pub RefusedAs-through : {T P Q : Type 0} (r : Result T BuilderError) (error : BuilderError)
    → IsErrAnd r (λ e. e ≡ error) → (P → Q) → RefusedAs error P → IfErr r (λ e. RefusedAs e Q)
RefusedAs-through (Ok x) error is f p = tt
RefusedAs-through {P = P} {Q = Q} (Err e) error is f p =
    subst (λ e. RefusedAs e Q) (sym is) (RefusedAs-weaker error P Q f p)
