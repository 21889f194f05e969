-- What JSON has of faults.
use Rattle.std.specs.Prelude.{ℕ, List, [], ◌∷◌, ◌++◌, map, Option, None, Some, codes, option_and_then}
use Rattle.std.specs.Prelude.{option_map}
use Rattle.graphql_nodes.specs.NameView.{NameView}
use Rattle.graphql_nodes.specs.OperationTexts.{operation_text}
use Rattle.graphql_nodes.specs.Sources.{Files, same_file}
use Rattle.graphql_nodes.specs.Tables.{lookup}
use Rattle.graphql_nodes.specs.declared.line_column.LineColumn.{LineColumn}
use Rattle.graphql_nodes.specs.declared.source.SourceFile.{SourceFile}
use Rattle.graphql_nodes.specs.declared.source.SourceSpan.{SourceSpan}
use Rattle.serde_json.specs.Data.{Data, Members, array, member, no_members, null, number, object, string}
use Rattle.serde_json.specs.Data.{unsigned}
use Rattle.serde_json.specs.View.{items_of}
use Rattle.apollo_reporting.specs.Abouts.{AboutView}
use Rattle.apollo_reporting.specs.Places.{ends, starts}
use Rattle.apollo_document.specs.declared.selection_path.ExecutableDefinitionName.{ExecutableDefinitionName}
use Rattle.apollo_document.specs.declared.selection_path.ExecutableDefinitionName.TheVariants.{AnonymousOperation}
use Rattle.apollo_document.specs.declared.selection_path.ExecutableDefinitionName.TheVariants.{NamedOperation}
use Rattle.apollo_document.specs.declared.selection_path.ExecutableDefinitionName.TheVariants.{Fragment}
use Rattle.apollo_reporting.specs.declared.detail.Detail.{Detail}
use Rattle.apollo_reporting.specs.declared.detail.DetailValue.{DetailValue}
use Rattle.apollo_reporting.specs.declared.detail.DetailValue.TheVariants.{Place, Words}
use Rattle.apollo_document.specs.declared.selection_path.SelectionPath.{SelectionPath}

-- a name, and what stands under it
abbrev pub Member : Type 0
Member = List ℕ × Data

-- the members of an object, in this order
abbrev pub members_from : List Member → Members
members_from [] = no_members
members_from (m ∷ ms) = member m.0 m.1 (members_from ms)

-- an object of these members, in this order
abbrev pub object_of : List Member → Data
object_of members = object (members_from members)

-- a text, or null where it is not known
abbrev pub text_data : Option (List ℕ) → Data
text_data None = null
text_data (Some text) = string text

-- a number, or null where it is not known
abbrev pub number_data : Option ℕ → Data
number_data None = null
number_data (Some n) = number (unsigned n)

-- the path of the file of a location, where the sources have the file
abbrev pub path_of_file : Option SourceSpan → Files → Option (List ℕ)
path_of_file location files =
    option_map (λ (file : SourceFile). file.path)
    (option_and_then (λ (span : SourceSpan). lookup (same_file span.file) files) location)

-- the line and the column of a place, under these names
abbrev pub place_members : List ℕ → List ℕ → Option LineColumn → List Member
place_members line column at =
    (line, number_data (option_map (λ (a : LineColumn). a.line) at))
    ∷ (column, number_data (option_map (λ (a : LineColumn). a.column) at)) ∷ []

-- the file of a location
abbrev pub file_member : Option SourceSpan → Files → Member
file_member location files = (codes "file", text_data (path_of_file location files))

-- where a location starts and ends
abbrev pub span_members : Option SourceSpan → Files → List Member
span_members location files = place_members (codes "line") (codes "column") (starts location files)
    ++ place_members (codes "end_line") (codes "end_column") (ends location files)

-- a location as an object
abbrev pub span_data : SourceSpan → Files → Data
span_data span files = object_of (file_member (Some span) files ∷ span_members (Some span) files)

-- the same, or null where there is none
abbrev pub location_data : Option SourceSpan → Files → Data
location_data None files = null
location_data (Some span) files = span_data span files

-- a definition as an object: what it is, as `query` or `fragment`, and its name, if it has one
abbrev pub definition_data : List ℕ → Option (List ℕ) → Data
definition_data kind name = object_of ((codes "kind", string kind) ∷ (codes "name", text_data name) ∷ [])

-- the definition that a path begins with
abbrev pub root_data : ExecutableDefinitionName → Data
root_data (AnonymousOperation kind) = definition_data (operation_text kind) None
root_data (NamedOperation kind name) = definition_data (operation_text kind) (Some name.text)
root_data (Fragment name) = definition_data (codes "fragment") (Some name.text)

-- response keys as strings
abbrev pub keys_data : List NameView → List Data
keys_data keys = map (λ (key : NameView). string key.text) keys

-- response keys as an array
abbrev pub key_array : List NameView → Data
key_array keys = array (items_of (keys_data keys))

-- a path as an object: the definition, and the response keys
abbrev pub steps_data : SelectionPath → Data
steps_data path = object_of ((codes "root", root_data path.root)
    ∷ (codes "keys", key_array path.nested_fields) ∷ [])

-- the same, or null where there is none
abbrev pub path_data : Option SelectionPath → Data
path_data None = null
path_data (Some path) = steps_data path

-- the path
abbrev pub path_members : Option SelectionPath → List Member
path_members path = (codes "path", path_data path) ∷ []

-- what stands under the name of a detail
abbrev pub value_data : Files → DetailValue → Data
value_data files (Words text) = text_data text
value_data files (Place location) = location_data location files

-- a detail
abbrev pub detail_member : Files → Detail → Member
detail_member files detail = (detail.name, value_data files detail.value)

-- the member that says what an object is
abbrev pub type_member : List ℕ → Member
type_member of_type = (codes "type", string of_type)

-- a fault, or what else is such an object, of which this is said in a sentence, with these details
unfoldable pub fault_data : List ℕ → Files → Option SourceSpan → AboutView → List ℕ → List Detail → Data
fault_data of_type files location about said details =
    object_of
    (type_member of_type
    ∷ (((codes "kind", string about.kind) ∷ (codes "message", string said) ∷ file_member location files ∷ [])
    ++ (span_members location files ++ (path_members about.path ++ map (detail_member files) details))))
