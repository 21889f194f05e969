-- What the command `lookup` answers: Schema Coordinates RFC, and GraphQL specification of October 2021,
-- section 3.
use Rattle.std.specs.Prelude.{◌≡◌, ℕ, Bool, true, false, List, [], None, Some, codes, length, string_bytes}
use Rattle.graphql_nodes.specs.VisibleTexts.{visible}
use Rattle.apollo_reporting.specs.Abouts.{of_kind}
use Rattle.apollo_reporting.specs.Details.{one_text}
use Rattle.apollo_reporting.specs.Reports.{report_text}
use Rattle.apollo_coordinate.specs.CoordinateLookups.{PointsTo, PointsToNothing}
use Rattle.apollo_coordinate.specs.CoordinateText.{IsCoordinateText, SaysCoordinate, coordinate_text}
use Rattle.apollo_coordinate.specs.declared.schema_coordinate.SchemaCoordinate.{SchemaCoordinate}
use Rattle.apollo_coordinate.specs.declared.lookup_answers.SchemaCoordinateLookup.{SchemaCoordinateLookup}
use Rattle.apollo_coordinate.specs.declared.lookup_answers.SchemaLookupError.{SchemaLookupError}
use Rattle.apollo_meaning.specs.Faults.Collisions.{Fault}
use Rattle.apollo_schema.specs.declared.schema.Schema.{Schema}
use Rattle.apollo_compiler.specs.Lists.{no_options}
use Rattle.apollo_compiler.specs.declared.compile_error.CompileError.TheVariants as spent
use Rattle.peglinden_run.specs.declared.answer.Answer.{Answer}
use Rattle.peglinden_run.specs.declared.failure.Failure.{Failure}
use Rattle.peglinden_run.specs.declared.failure.Failure.TheVariants as failures
use Rattle.peglinden_run.specs.declared.form.Form.{Form}
use Rattle.peglinden_run.specs.declared.form.Form.TheVariants as forms
use Rattle.peglinden_run.specs.declared.printed.Printed.{Printed}
use Rattle.peglinden_run.specs.declared.printed.Tally.{Tally}
use Rattle.peglinden_run.specs.declared.reports.Subject.TheVariants as subjects
use Rattle.peglinden_run.specs.LookedUp.{form_found}
use Rattle.peglinden_run.specs.Printed.{IsArranged}
use Rattle.peglinden_run.specs.Reports.{IsSaid}
use Rattle.peglinden_run.specs.SchemaCommand.{IsSchemaCause, IsSchemaOf}

-- nothing is at fault in so many files
abbrev pub no_faults : ℕ → Tally
no_faults files = record { faults = 0; shown = 0; files = files }

-- one thing is, and is shown
abbrev pub one_fault : ℕ → Tally
one_fault files = record { faults = 1; shown = 1; files = files }

-- the coordinate points to something, of which is printed what the form has of it, and nothing is at fault
abbrev pub Finds : Form → ℕ → Schema → SchemaCoordinate → Printed → Type 0
Finds form files schema coordinate printed = (found : SchemaCoordinateLookup)
    × (PointsTo schema coordinate found
    × IsArranged form (no_faults files) (form_found form schema.sources coordinate found) [] printed)

-- what a form says of a coordinate that points to nothing, in some sentence
abbrev pub IsMissingSaid : Form → SchemaCoordinate → List ℕ → Type 0
IsMissingSaid form coordinate said = IsSaid subjects.Fault form [] None (of_kind (codes "PointsToNothing"))
    (Some (one_text (codes "coordinate") (coordinate_text coordinate))) said

-- what is printed where a coordinate points to nothing: a report on standard error, or in a form for programs
-- what that says of it
abbrev pub IsMissingShown : Form → ℕ → SchemaCoordinate → Printed → Type 0
IsMissingShown forms.Words files coordinate printed = (string_bytes printed.output ≡ [])
    × ((sentence : List ℕ) × (string_bytes printed.errors
    ≡ report_text [] None (of_kind (codes "PointsToNothing")) (visible sentence)))
IsMissingShown form files coordinate printed = (said : List ℕ)
    × (IsMissingSaid form coordinate said × IsArranged form (one_fault files) [] said printed)

-- it points to nothing, and that is said
abbrev pub FindsNothing : Form → ℕ → Schema → SchemaCoordinate → Printed → Type 0
FindsNothing form files schema coordinate printed = (error : SchemaLookupError)
    × (PointsToNothing schema coordinate error × IsMissingShown form files coordinate printed)

-- at fault is what points to nothing, and that alone
abbrev pub IsFinding : Form → ℕ → Schema → SchemaCoordinate → Bool → Printed → Type 0
IsFinding form files schema coordinate false printed = Finds form files schema coordinate printed
IsFinding form files schema coordinate true printed = FindsNothing form files schema coordinate printed

-- the answer is that to the coordinate that a text says and to files. `held` says which bytes the file of a
-- path may hold. What is at fault in the schema is passed over
pub record IsLookupAnswer (held : List ℕ → List ℕ
    → Type 0) (text : List ℕ) (form : Form) (paths : List (List ℕ)) (answer : Answer) :
    Type 0 where
  pub coordinate : SchemaCoordinate
  pub says : SaysCoordinate text coordinate
  pub schema : Schema
  pub faults : List Fault
  pub means : IsSchemaOf held no_options paths schema faults
  pub finds : IsFinding form (length paths) schema coordinate answer.has_faults answer.printed

-- why a text says no coordinate; that memory ran out says nothing of it
abbrev pub IsCoordinateCause : List ℕ → Failure → Type 0
IsCoordinateCause text (failures.NoCoordinate sentence) = ¬ IsCoordinateText text
IsCoordinateCause text (failures.Exhausted spent.Memory) = Unit {0}
IsCoordinateCause text _ = ⊥

-- why there is no answer: the text says no coordinate, or the files make no schema
abbrev pub IsLookupCause : Form → (List ℕ → List ℕ → Type 0) → (List ℕ → Type 0) → List ℕ → List (List ℕ)
    → Failure → Type 0
IsLookupCause form held may_fail text paths (failures.NoCoordinate sentence) = ¬ IsCoordinateText text
IsLookupCause form held may_fail text paths failure = IsSchemaCause form held may_fail no_options paths
    failure
