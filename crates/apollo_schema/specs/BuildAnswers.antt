-- What a build answers: GraphQL specification of October 2021, section 3.3.
use Rattle.std.specs.Prelude.{List, Result, Ok, Err}
use Rattle.apollo_schema.specs.declared.schema.Schema.{Schema}
use Rattle.apollo_folding.specs.declared.builder_error.BuilderError.{BuilderError}
use Rattle.apollo_folding.specs.declared.builder_error.BuilderError.TheVariants as refusals
use Rattle.apollo_schema.specs.declared.build_failure.BuildFailure.{BuildFailure}
use Rattle.apollo_schema.specs.declared.build_failure.BuildFailure.TheVariants as failures
use Rattle.apollo_meaning.specs.Faults.Collisions.{Fault}

-- the refusal of a step, as that of a build
abbrev pub failure_of : BuilderError → BuildFailure
failure_of refusals.Memory = failures.Memory
failure_of refusals.ExtensionIds = failures.ExtensionIds
failure_of refusals.Failed = failures.Failed

-- P holds of what could be built and of its faults, if that is the answer
abbrev pub IfFaults : BuildFailure → (Schema → List Fault → Type 0) → Type 0
IfFaults (failures.Faults w) P = P w.partial w.errors.items
IfFaults failures.Memory P = Unit {0}
IfFaults failures.ExtensionIds P = Unit {0}
IfFaults failures.Failed P = Unit {0}

-- a build ended with a schema or with faults
abbrev pub HasBuilt : Result Schema BuildFailure → Type 0
HasBuilt (Ok schema) = Unit {0}
HasBuilt (Err (failures.Faults found)) = Unit {0}
HasBuilt (Err failures.Memory) = ⊥
HasBuilt (Err failures.ExtensionIds) = ⊥
HasBuilt (Err failures.Failed) = ⊥

-- a build ended with neither
abbrev pub WasRefused : Result Schema BuildFailure → Type 0
WasRefused (Ok schema) = ⊥
WasRefused (Err (failures.Faults found)) = ⊥
WasRefused (Err failures.Memory) = Unit {0}
WasRefused (Err failures.ExtensionIds) = Unit {0}
WasRefused (Err failures.Failed) = Unit {0}
