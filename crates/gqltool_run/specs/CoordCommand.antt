-- What the command `coord` answers: docs/NOTATION.md, and Schema Coordinates RFC.
use Rattle.std.specs.Prelude.{◌≡◌, ℕ, Bool, true, false, not, ◌&&◌, List, ◌++◌, ◌==◌, codes, length}
use Rattle.apollo_coordinate.specs.CoordinateLookups.{PointsTo, PointsToNothing}
use Rattle.apollo_coordinate.specs.CoordinateText.{coordinate_text}
use Rattle.apollo_coordinate.specs.declared.schema_coordinate.SchemaCoordinate.{SchemaCoordinate}
use Rattle.apollo_coordinate.specs.declared.schema_coordinate.SchemaCoordinate.TheVariants as coordinates
use Rattle.apollo_coordinate.specs.declared.lookup_answers.SchemaCoordinateLookup.{SchemaCoordinateLookup}
use Rattle.apollo_coordinate.specs.declared.lookup_answers.SchemaCoordinateLookup.TheVariants as answers
use Rattle.apollo_coordinate.specs.declared.lookup_answers.SchemaLookupError.{SchemaLookupError}
use Rattle.apollo_meaning.specs.Faults.Collisions.{Fault}
use Rattle.apollo_schema.specs.declared.schema.Schema.{Schema}
use Rattle.apollo_compiler.specs.Lists.{no_options}
use Rattle.gqltool_run.specs.Building.{IsBuilt}
use Rattle.gqltool_run.specs.FaultLines.{AreFaultLines}

-- the word of a coordinate's form
abbrev pub form_word : SchemaCoordinate → List ℕ
form_word (coordinates.Ty c) = codes "type"
form_word (coordinates.TypeAttribute c) = codes "attribute"
form_word (coordinates.FieldArgument c) = codes "field-argument"
form_word (coordinates.Directive c) = codes "directive"
form_word (coordinates.DirectiveArgument c) = codes "directive-argument"

-- the word of what a coordinate points to
abbrev pub found_word : SchemaCoordinateLookup → List ℕ
found_word (answers.Ty found) = codes "type"
found_word (answers.Directive found) = codes "directive"
found_word (answers.Field found) = codes "field"
found_word (answers.InputField found) = codes "input-field"
found_word (answers.EnumValue found) = codes "enum-value"
found_word (answers.Argument found) = codes "argument"

-- the line of a coordinate: its form, and its text
abbrev pub coordinate_line : SchemaCoordinate → List ℕ
coordinate_line c = form_word c ++ (codes " " ++ (coordinate_text c ++ codes "\n"))

-- the line of what is found
abbrev pub found_line : SchemaCoordinateLookup → List ℕ
found_line found = codes "found " ++ (found_word found ++ codes "\n")

-- the line of what is not, with what is said of it
abbrev pub missing_line : List ℕ → List ℕ
missing_line said = codes "missing " ++ (said ++ codes "\n")

-- the line of what the coordinate points to in the schema, if it does; or else, in some words, of why it
-- points to nothing
abbrev pub IsFindingLine : Schema → SchemaCoordinate → Bool → List ℕ → Type 0
IsFindingLine schema c true line = (found : SchemaCoordinateLookup)
    × (PointsTo schema c found × (line ≡ found_line found))
IsFindingLine schema c false line = (error : SchemaLookupError)
    × (PointsToNothing schema c error × ((said : List ℕ) × (line ≡ missing_line said)))

-- the text is the line of the coordinate and that of what it points to in the schema that the input means.
-- Then come those of the schema's faults. Something is at fault unless what the coordinate points to was
-- found and there is no fault
pub record IsCoordAnswer (coordinate : SchemaCoordinate) (input text : List ℕ) (has_faults : Bool) :
    Type 0 where
  pub schema : Schema
  pub faults : List Fault
  pub means : IsBuilt no_options input schema faults
  -- whether the coordinate points to something
  pub is_found : Bool
  -- the line that says so
  pub finding : List ℕ
  pub finds : IsFindingLine schema coordinate is_found finding
  -- the lines of the schema's faults
  pub lines : List ℕ
  pub prints : text ≡ coordinate_line coordinate ++ (finding ++ lines)
  pub tells : AreFaultLines faults lines
  pub any : has_faults ≡ not (is_found && (length faults == 0))
