-- What is written of faults.
use Rattle.std.specs.Prelude.{◌≡◌, ◌++◌, ℕ, List, [], ◌∷◌, Option, codes}
use Rattle.graphql_nodes.specs.Sources.{Files}
use Rattle.graphql_nodes.specs.VisibleTexts.{visible}
use Rattle.graphql_nodes.specs.declared.source.SourceSpan.{SourceSpan}
use Rattle.serde_json.specs.Written.{compact_text}
use Rattle.apollo_reporting.specs.Abouts.{AboutView}
use Rattle.apollo_reporting.specs.FaultData.{fault_data, path_of_file}
use Rattle.apollo_reporting.specs.GithubCommands.{IsFaultCommand, command_text}
use Rattle.apollo_reporting.specs.Places.{starts}
use Rattle.apollo_reporting.specs.Reports.{report_text}
use Rattle.apollo_reporting.specs.Said as said
use Rattle.apollo_reporting.specs.Said.{OfSaid}
use Rattle.apollo_reporting.specs.declared.detail.Detail.{Detail}
use Rattle.peglinden_run.specs.declared.form.Form.{Form}
use Rattle.peglinden_run.specs.declared.form.Form.TheVariants as forms
use Rattle.peglinden_run.specs.declared.reports.Subject.{Subject}
use Rattle.peglinden_run.specs.declared.reports.Subject.TheVariants as subjects

-- the text is the report of a fault at this location, with an empty line behind it. It is made of some
-- sentence, as it is shown, and of what else reports say of the fault
abbrev pub IsReport : Files → Option SourceSpan → AboutView → List ℕ → Type 0
IsReport files location about text = (sentence : List ℕ)
    × (text ≡ report_text files location about (visible sentence) ++ codes "\n")

-- the `type` of the JSON of a subject
abbrev pub type_of : Subject → List ℕ
type_of subjects.Fault = codes "fault"
type_of subjects.Refusal = codes "refusal"

-- the text is the JSON of a subject at this location, as a line. It is made of some sentence, of what else
-- reports say of the subject, and of its details
abbrev pub IsJsonLine : Subject → Files → Option SourceSpan → AboutView → Option (List Detail) → List ℕ
    → Type 0
IsJsonLine subject files location about of_details text = (sentence : List ℕ)
    × OfSaid of_details (λ details. text
    ≡ compact_text (fault_data (type_of subject) files location about sentence details) ++ codes "\n")

-- the text is a workflow command of GitHub on a line, which reports some sentence at this location
abbrev pub IsCommandLine : Files → Option SourceSpan → List ℕ → Type 0
IsCommandLine files location text = (sentence : List ℕ)
    × (text ≡ command_text (path_of_file location files) (starts location files) sentence ++ codes "\n")

-- the text is what a form says of a subject at this location
abbrev pub IsSaid : Subject → Form → Files → Option SourceSpan → AboutView → Option (List Detail) → List ℕ
    → Type 0
IsSaid subject forms.Words files location about of_details text = IsReport files location about text
IsSaid subject forms.Json files location about of_details text =
    IsJsonLine subject files location about of_details text
IsSaid subject forms.Github files location about of_details text = IsCommandLine files location text

-- the text is what a form says of a subject at this location, but for the line end. It is made of the
-- subject's sentence, of what else reports say of it, and of its details
abbrev pub IsFormText : {E : Type 0} → Subject → Form → (E → Option (List ℕ)) → (E → AboutView)
    → (E → Option (List Detail)) → Files → Option SourceSpan → E → List ℕ → Type 0
IsFormText subject forms.Words sentence_of about_of details_of files location fault text =
    said.IsReport sentence_of about_of files location fault text
IsFormText subject forms.Json sentence_of about_of details_of files location fault text =
    said.IsFaultJson (type_of subject) sentence_of about_of details_of files location fault text
IsFormText subject forms.Github sentence_of about_of details_of files location fault text =
    IsFaultCommand sentence_of files location fault text

-- behind what was there a text stands of which P holds
abbrev pub Adds : (List ℕ → Type 0) → List ℕ → List ℕ → Type 0
Adds P old new = (added : List ℕ) × ((new ≡ old ++ added) × P added)

-- the text is one after the other, in order, of which `Says` holds of each of these
abbrev pub SaysEach : {A : Type 0} → (A → List ℕ → Type 0) → List A → List ℕ → Type 0
SaysEach Says [] text = text ≡ []
SaysEach Says (x ∷ xs) text = (first : List ℕ)
    × ((rest : List ℕ) × ((text ≡ first ++ rest) × (Says x first × SaysEach Says xs rest)))
