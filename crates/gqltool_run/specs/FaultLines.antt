-- The lines that report faults: docs/NOTATION.md.
use Rattle.std.specs.Prelude.{◌≡◌, ℕ, List, [], ◌∷◌, ◌++◌, Option, None, Some, codes, decimal}
use Rattle.graphql_nodes.specs.declared.source.SourceSpan.{SourceSpan}

-- the line where a fault stands, or that it stands nowhere
abbrev pub location_line : Option SourceSpan → List ℕ
location_line None = codes "-"
location_line (Some span) = decimal span.start

-- a fault's line, with what is said of it
abbrev pub fault_line : Option SourceSpan → List ℕ → List ℕ
fault_line location said = codes "fault " ++ location_line location ++ codes " " ++ said ++ codes "\n"

-- the lines of faults, in order, each at its location, with something said of it
abbrev pub AreFaultLines : {E : Type 0} → List (Option SourceSpan × E) → List ℕ → Type 0
AreFaultLines [] lines = lines ≡ []
AreFaultLines (fault ∷ faults) lines = (said : List ℕ)
    × ((rest : List ℕ) × ((lines ≡ fault_line fault.0 said ++ rest) × AreFaultLines faults rest))
