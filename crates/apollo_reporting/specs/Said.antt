-- Texts of faults whose sentences and details are said, or are not.
use Rattle.std.specs.Prelude.{◌≡◌, ℕ, List, Option, None, Some}
use Rattle.graphql_nodes.specs.Sources.{Files}
use Rattle.graphql_nodes.specs.VisibleTexts.{visible}
use Rattle.graphql_nodes.specs.declared.source.SourceSpan.{SourceSpan}
use Rattle.serde_json.specs.Written.{compact_text}
use Rattle.apollo_reporting.specs.Abouts.{AboutView}
use Rattle.apollo_reporting.specs.FaultData.{fault_data}
use Rattle.apollo_reporting.specs.Reports.{report_text}
use Rattle.apollo_reporting.specs.declared.detail.Detail.{Detail}

-- a fact of what is said, or of something where nothing is said
abbrev pub OfSaid : {A : Type 0} → Option A → (A → Type 0) → Type 0
OfSaid (Some said) Fact = Fact said
OfSaid {A} None Fact = (something : A) × Fact something

-- a text is the report of a fault at a location. It is made of the fault's sentence, as it is shown, and of
-- what else reports say of the fault
abbrev pub IsReport : {E : Type 0} → (E → Option (List ℕ)) → (E → AboutView) → Files → Option SourceSpan → E
    → List ℕ → Type 0
IsReport sentence_of about_of files location fault text =
    OfSaid (sentence_of fault) (λ sentence. text
    ≡ report_text files location (about_of fault) (visible sentence))

-- a text is the JSON of a fault at a location, an object of this type: of its sentence, of what else reports
-- say of it, and of its details
abbrev pub IsFaultJson : {E : Type 0} → List ℕ → (E → Option (List ℕ)) → (E → AboutView)
    → (E → Option (List Detail)) → Files → Option SourceSpan → E → List ℕ → Type 0
IsFaultJson of_type sentence_of about_of details_of files location fault text =
    OfSaid (sentence_of fault)
    (λ sentence. OfSaid (details_of fault)
    (λ details. text ≡ compact_text (fault_data of_type files location (about_of fault) sentence details)))
