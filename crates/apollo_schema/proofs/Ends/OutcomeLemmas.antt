-- What follows from how a build ended.
use Rattle.apollo_meaning.proofs.Prelude.{◌≡◌, ℕ, ◌+◌, ◌≤◌, Result, List, ap, IfErr, arith, next_number}
use Rattle.apollo_meaning.proofs.Prelude.{source_at, Fault, Ok, Err, IfOk, OnOk}
use Rattle.apollo_component.specs.declared.extension.ExtensionSource.{ExtensionSource}
use Rattle.apollo_schema.specs.declared.schema.Schema.{Schema}
use Rattle.apollo_schema.specs.declared.build_failure.BuildFailure.{BuildFailure}
use Rattle.apollo_schema.specs.declared.build_failure.BuildFailure.TheVariants as failures
use Rattle.apollo_schema.specs.BuildAnswers.{IfFaults, HasBuilt, WasRefused}

-- what holds of an answer holds in a weaker form
pub if_ok : {A B : Type 0} {P Q : A → Type 0} (r : Result A B) → ((x : A) → P x → Q x) → IfOk r P → IfOk r Q
if_ok (Ok x) give h = give x h
if_ok (Err e) give h = tt

pub on_ok : {A B : Type 0} {P Q : Type 0} (r : Result A B) → (P → Q) → OnOk r P → OnOk r Q
on_ok (Ok x) give h = give h
on_ok (Err e) give h = tt

-- so do three that hold of one schema, together
pub if_built : {P S R : Schema → Type 0} {Q : Type 0} (r : Result Schema BuildFailure)
    → ((s : Schema) → P s → Q → S s → R s) → IfOk r P → OnOk r Q → IfOk r S → IfOk r R
if_built (Ok s) give means none from = give s means none from
if_built (Err f) give means none from = tt

if_faults : {P Q : Schema → List Fault → Type 0} (f : BuildFailure)
    → ((s : Schema) (es : List Fault) → P s es → Q s es) → IfFaults f P → IfFaults f Q
if_faults (failures.Faults w) give h = give w.partial w.errors.items h
if_faults _ give h = tt

pub if_err : {P Q : Schema → List Fault → Type 0} (r : Result Schema BuildFailure)
    → ((s : Schema) (es : List Fault) → P s es → Q s es) → IfErr r (λ f. IfFaults f P)
    → IfErr r (λ f. IfFaults f Q)
if_err (Ok x) give h = tt
if_err (Err f) give h = if_faults f give h

-- a source that is so many numbers past the start is not below it
pub past : (source : ExtensionSource) (start n : ℕ) → source ≡ source_at (start + n)
    → start ≤ next_number source
past source start n at = let is : next_number source ≡ start + n = ap next_number at in omega (arith, is)

-- so it is however the build ended
pub past-either : (r : Result Schema BuildFailure) (source : ExtensionSource) (start m n : ℕ)
    → (HasBuilt r → source ≡ source_at (start + m)) → (WasRefused r → source ≡ source_at (start + n))
    → start ≤ next_number source
past-either (Ok schema) source start m n built refused = past source start m (built tt)
past-either (Err (failures.Faults w)) source start m n built refused = past source start m (built tt)
past-either (Err _) source start m n built refused = past source start n (refused tt)
