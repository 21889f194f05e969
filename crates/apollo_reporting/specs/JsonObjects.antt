-- Objects of JSON whose members are texts, numbers and definitions.
use Rattle.std.specs.Prelude.{ℕ, List, ◌∷◌, ◌++◌, map, Option, option_map}
use Rattle.std.specs.Borrow.{Bor}
use Rattle.graphql_nodes.specs.Sources.{Files}
use Rattle.graphql_nodes.specs.declared.source.SourceSpan.{SourceSpan}
use Rattle.serde_json.specs.Data.{Data}
use Rattle.apollo_reporting.specs.FaultData.{Member, definition_data, file_member, number_data, object_of}
use Rattle.apollo_reporting.specs.FaultData.{span_members, text_data, type_member}
use Rattle.apollo_reporting.specs.declared.json_object.JsonValue.{JsonValue}
use Rattle.apollo_reporting.specs.declared.json_object.JsonValue.TheVariants.{Definition, Number, Words}

-- the text of a word, where there is one
abbrev pub said_text : Option (Bor (List ℕ)) → Option (List ℕ)
said_text words = option_map (λ (text : Bor (List ℕ)). text.now) words

-- what a value is
abbrev pub json_data : JsonValue → Data
json_data (Words words) = text_data (said_text words)
json_data (Number number) = number_data number
json_data (Definition kind name) = definition_data kind.now (said_text name)

-- a name, and what stands under it
abbrev pub json_member : Bor (List ℕ) × JsonValue → Member
json_member m = (m.0.now, json_data m.1)

-- members, in order
abbrev pub json_members : List (Bor (List ℕ) × JsonValue) → List Member
json_members members = map json_member members

-- an object that says what it is, and has these members
abbrev pub typed_data : List ℕ → List Member → Data
typed_data of_type members = object_of (type_member of_type ∷ members)

-- where something stands: its file, and where it starts and ends there
abbrev pub placed_members : Option SourceSpan → Files → List Member
placed_members location files = file_member location files ∷ span_members location files
