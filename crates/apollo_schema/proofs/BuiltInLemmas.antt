-- What follows for a build of the built-in definitions alone.
use Rattle.apollo_meaning.proofs.Prelude.{◌≡◌, ◌+◌, ◌^◌, ◌≤◌, false, [], Result, Ok, Err, refl, subst, ◌∙◌}
use Rattle.apollo_meaning.proofs.Prelude.{IfErr, arith, added}
use Rattle.apollo_schema.specs.declared.schema.Schema.{Schema}
use Rattle.apollo_schema.specs.declared.build_failure.BuildFailure.{BuildFailure}
use Rattle.apollo_schema.specs.declared.build_failure.BuildFailure.TheVariants as failures
use Rattle.apollo_meaning.specs.BuiltInTable.{built_in_definitions}
use Rattle.apollo_meaning.specs.Faults.ListFaults.{faults_of}
use Rattle.apollo_meaning.specs.Schema.Whole.{folds}
use Rattle.apollo_schema.specs.BuildAnswers.{IfFaults}
use Rattle.apollo_schema.specs.BuilderStands.{Building, HasFailed, SpendsAtBuild, building_from}
use Rattle.apollo_schema.specs.Built.{IsFoundIn}

-- they have no faults
faultless : faults_of false (added false built_in_definitions) ≡ []
unfolding built_in_definitions
faultless = refl

-- none of them is an extension
nothing-folded : folds false (added false built_in_definitions) ≡ 0
unfolding built_in_definitions
nothing-folded = refl

-- such a build fails only because memory ran out
pub only-memory : (b : Building) (r : Result Schema BuildFailure) → b ≡ building_from 0
    → IfErr r (λ failure. IfFaults failure (IsFoundIn b)) → (r ≡ Err failures.ExtensionIds → SpendsAtBuild b)
    → (r ≡ Err failures.Failed → HasFailed b) → (failure : BuildFailure) → r ≡ Err failure
    → failure ≡ failures.Memory
only-memory b (Ok schema) new faults spent failed failure is = cc
only-memory b (Err (failures.Faults w)) new faults spent failed failure is =
    let found = subst (λ (b : Building). IsFoundIn b w.partial w.errors.items) new faults in
    absurd (found.1.0.1 (found.1.0.0 ∙ faultless))
only-memory b (Err failures.Memory) new faults spent failed failure is = cc
only-memory b (Err failures.ExtensionIds) new faults spent failed failure is =
    let full : 2 ^ 64 ≤ 0 + folds false (added false built_in_definitions) =
    subst SpendsAtBuild new (spent refl) in
    absurd (omega (arith, full, nothing-folded))
only-memory b (Err failures.Failed) new faults spent failed failure is =
    absurd (subst HasFailed new (failed refl))
