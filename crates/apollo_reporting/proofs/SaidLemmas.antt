-- A fact of a value that is as said is a fact of what is said.
use Rattle.std.proofs.Common.{◌≡◌, Option, None, Some, IfSome, subst}
use Rattle.apollo_reporting.specs.Said.{OfSaid}

pub of_said : {A : Type 0} (said : Option A) (Fact : A → Type 0) (value : A) → IfSome said (λ s. value ≡ s)
    → Fact value → OfSaid said Fact
of_said (Some s) Fact value is fact = subst Fact is fact
of_said None Fact value is fact = (value, fact)
