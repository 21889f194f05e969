-- Reports of several faults in one text, with an empty line behind each.
use Rattle.std.specs.Prelude.{◌≡◌, ◌++◌, ℕ, List, [], ◌∷◌, Option, codes}
use Rattle.graphql_nodes.specs.Sources.{Files}
use Rattle.graphql_nodes.specs.declared.source.SourceSpan.{SourceSpan}
use Rattle.apollo_reporting.specs.Abouts.{AboutView}
use Rattle.apollo_reporting.specs.Said.{IsReport}

-- behind what was there a text stands of which P holds
abbrev pub Adds : (List ℕ → Type 0) → List ℕ → List ℕ → Type 0
Adds P old new = (added : List ℕ) × ((new ≡ old ++ added) × P added)

-- the text is the report of a fault at a location, with an empty line behind it
abbrev pub IsSpacedReport : {E : Type 0} → (E → Option (List ℕ)) → (E → AboutView) → Files
    → Option SourceSpan → E → List ℕ → Type 0
IsSpacedReport sentence_of about_of files location fault text = (report : List ℕ)
    × ((text ≡ report ++ codes "\n") × IsReport sentence_of about_of files location fault report)

-- the text is that of each of these faults, in order, each at its location
abbrev pub AreSpacedReports : {E : Type 0} → (E → Option (List ℕ)) → (E → AboutView) → Files
    → List (Option SourceSpan × E) → List ℕ → Type 0
AreSpacedReports sentence_of about_of files [] text = text ≡ []
AreSpacedReports sentence_of about_of files (fault ∷ faults) text = (first : List ℕ)
    × ((rest : List ℕ)
    × ((text ≡ first ++ rest)
    × (IsSpacedReport sentence_of about_of files fault.0 fault.1 first
    × AreSpacedReports sentence_of about_of files faults rest)))
