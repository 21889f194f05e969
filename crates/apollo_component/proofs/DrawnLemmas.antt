-- Identities with rising numbers are distinct.
use Rattle.std.proofs.Common.{◌≡◌, ℕ, ◌+◌, ◌<◌, false, List, [], ◌∷◌, Option, arith}
use Rattle.std.specs.List.{AllByRecursion, IsDistinct}
use Rattle.std.proofs.lemmas.Bool.{ne_eqb}
use Rattle.graphql_nodes.specs.declared.source.SourceSpan.{SourceSpan}
use Rattle.apollo_component.specs.Extensions.{drawn_from, extension_id, same_id}

-- no identity drawn from a number on has a number below it
later-apart : (m n : ℕ) → m < n → (location : Option SourceSpan) (locations : List (Option SourceSpan))
    → AllByRecursion (λ e. same_id (extension_id m location) e ≡ false) (drawn_from n locations)
later-apart m n below location [] = tt
later-apart m n below location (next ∷ locations) = (
  ne_eqb m n (λ same. omega (arith, below, same)),
  later-apart m (n + 1) (omega (arith, below)) location locations,
)

-- so no two have one number
pub drawn-distinct : (n : ℕ) (locations : List (Option SourceSpan))
    → IsDistinct same_id (drawn_from n locations)
unfolding IsDistinct
drawn-distinct n [] = tt
drawn-distinct n (location ∷ locations) =
    (later-apart n (n + 1) (omega arith) location locations, drawn-distinct (n + 1) locations)
