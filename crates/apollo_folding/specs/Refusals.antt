-- Why a step of the builder was refused, and what it takes of the numbers.
use Rattle.std.specs.Prelude.{ℕ, ◌+◌, ◌^◌, ◌≤◌}
use Rattle.apollo_component.specs.Extensions.{next_number, source_at}
use Rattle.apollo_component.specs.declared.extension.ExtensionSource.{ExtensionSource}
use Rattle.apollo_folding.specs.declared.builder_error.BuilderError.{BuilderError}
use Rattle.apollo_folding.specs.declared.builder_error.BuilderError.TheVariants.{Memory, ExtensionIds, Failed}

-- memory ran out, or the identities were spent and P holds
abbrev pub RefusedAs : BuilderError → Type 0 → Type 0
RefusedAs Memory P = Unit {0}
RefusedAs ExtensionIds P = P
RefusedAs Failed P = ⊥

-- a source that has given this many numbers more
abbrev pub after : ExtensionSource → ℕ → ExtensionSource
after ids n = source_at (next_number ids + n)

-- a source has no room for so many numbers
abbrev pub SpentWith : ExtensionSource → ℕ → Type 0
SpentWith ids n = 2 ^ 64 ≤ next_number ids + n
