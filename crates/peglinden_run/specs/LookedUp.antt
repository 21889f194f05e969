-- What is written of what coordinates point to: Schema Coordinates RFC, and GraphQL specification of October
-- 2021, section 3.
use Rattle.std.specs.Prelude.{◌++◌, ◌==◌, if◌then◌else◌, ℕ, List, [], ◌∷◌, Option, None, Some, codes}
use Rattle.graphql_nodes.specs.PlaceTexts.{place_text}
use Rattle.graphql_nodes.specs.Sources.{Files}
use Rattle.graphql_nodes.specs.declared.source.SourceSpan.{SourceSpan}
use Rattle.graphql_ast.specs.declared.definition.Definition.TheVariants as d
use Rattle.graphql_printing.specs.Members.{enum_value_text, field_text, input_value_text}
use Rattle.apollo_coordinate.specs.CoordinateText.{coordinate_text}
use Rattle.apollo_coordinate.specs.declared.schema_coordinate.SchemaCoordinate.{SchemaCoordinate}
use Rattle.apollo_reporting.specs.FaultData.{text_data}
use Rattle.apollo_reporting.specs.JsonObjects.{placed_members}
use Rattle.apollo_types.specs.TypeWriteOut.{type_location, write_type}
use Rattle.apollo_coordinate.specs.declared.lookup_answers.SchemaCoordinateLookup.{SchemaCoordinateLookup}
use Rattle.apollo_coordinate.specs.declared.lookup_answers.SchemaCoordinateLookup.TheVariants as answers
use Rattle.peglinden_run.specs.declared.form.Form.{Form}
use Rattle.peglinden_run.specs.declared.form.Form.TheVariants as forms
use Rattle.peglinden_run.specs.Ended.{ended}
use Rattle.peglinden_run.specs.Lines.{object_line}

-- where what a coordinate points to stands
abbrev pub found_location : SchemaCoordinateLookup → Option SourceSpan
found_location (answers.Ty found) = type_location found.now
found_location (answers.Directive found) = found.now.location
found_location (answers.Field found) = found.now.node.location
found_location (answers.InputField found) = found.now.node.location
found_location (answers.EnumValue found) = found.now.node.location
found_location (answers.Argument found) = found.now.location

-- a comment that says where something stands; what stands in no file is built-in
abbrev pub place_comment : Files → Option SourceSpan → List ℕ
place_comment files (Some span) = if span.file.0 == 0 then codes "# built-in\n"
    else codes "# " ++ place_text span files ++ codes "\n"
place_comment files None = codes "# built-in\n"

-- the definition that a coordinate points to, with a line end: of a type with its extensions, and of a part
-- of one alone
abbrev pub found_definition : SchemaCoordinateLookup → List ℕ
found_definition (answers.Ty found) = ended (write_type found.now)
found_definition (answers.Directive found) = ended (d.DirectiveDefinition found.now ∷ [])
found_definition (answers.Field found) = field_text found.now.node.value ++ codes "\n"
found_definition (answers.InputField found) = input_value_text found.now.node.value ++ codes "\n"
found_definition (answers.EnumValue found) = enum_value_text found.now.node.value ++ codes "\n"
found_definition (answers.Argument found) = input_value_text found.now.value ++ codes "\n"

-- what is written of what a coordinate points to: where that stands, and its definition
abbrev pub found_text : Files → SchemaCoordinateLookup → List ℕ
found_text files found = place_comment files (found_location found) ++ found_definition found

-- the line of JSON of a definition: its coordinate, its text, and where it stands
abbrev pub definition_line : Files → List ℕ → List ℕ → Option SourceSpan → List ℕ
definition_line files coordinate text location = object_line (codes "definition")
    (((codes "coordinate", text_data (Some coordinate)) ∷ (codes "text", text_data (Some text)) ∷ [])
    ++ placed_members location files)

-- that of what a coordinate points to
abbrev pub found_line : Files → SchemaCoordinate → SchemaCoordinateLookup → List ℕ
found_line files coordinate found =
    definition_line files (coordinate_text coordinate) (found_definition found) (found_location found)

-- what a form has of what a coordinate points to
abbrev pub form_found : Form → Files → SchemaCoordinate → SchemaCoordinateLookup → List ℕ
form_found forms.Json files coordinate found = found_line files coordinate found
form_found forms.Words files coordinate found = found_text files found
form_found forms.Github files coordinate found = found_text files found
