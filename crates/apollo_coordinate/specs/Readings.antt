-- What reading the text of a schema coordinate answers: Schema Coordinates RFC.
use Rattle.std.specs.Prelude.{◌≡◌, ℕ, List, Result, IfOk, IfErr, MatchResult}
use Rattle.apollo_coordinate.specs.CoordinateText.{SaysCoordinate, bare_coordinate}
use Rattle.apollo_coordinate.specs.Refusals.{WhenRefused, IsNoCoordinate}
use Rattle.apollo_coordinate.specs.declared.schema_coordinate.SchemaCoordinate.{SchemaCoordinate}
use Rattle.apollo_coordinate.specs.declared.parse_error.SchemaCoordinateParseError.{SchemaCoordinateParseError}
use Rattle.apollo_coordinate.specs.declared.parse_error.SchemaCoordinateParseError.TheVariants.{Memory}

-- what `SchemaCoordinate::from_str` promises of its answer to a text: it says the answer, or is outside the
-- grammar
abbrev pub IsReadingOf : List ℕ → Result SchemaCoordinate SchemaCoordinateParseError → Type 0
IsReadingOf t result = IfOk result (SaysCoordinate t) × IfErr result (WhenRefused (IsNoCoordinate t))

-- the coordinate, at no location; or memory ran out
abbrev pub IsReadBack : SchemaCoordinate → Result SchemaCoordinate SchemaCoordinateParseError → Type 0
IsReadBack c result = MatchResult result (λ d. d ≡ bare_coordinate c) (λ e. e ≡ Memory)
