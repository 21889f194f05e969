-- Lines of JSON that commands write.
use Rattle.std.specs.Prelude.{ℕ, List, [], ◌∷◌, ◌++◌, Option, None, Some, codes, option_map}
use Rattle.graphql_nodes.specs.declared.line_column.LineColumn.{LineColumn}
use Rattle.serde_json.specs.Written.{compact_text}
use Rattle.apollo_reporting.specs.FaultData.{Member, number_data, text_data}
use Rattle.apollo_reporting.specs.JsonObjects.{typed_data}
use Rattle.peglinden_run.specs.declared.form.Form.{Form}
use Rattle.peglinden_run.specs.declared.form.Form.TheVariants as forms
use Rattle.peglinden_run.specs.declared.printed.Tally.{Tally}

-- an object that says what it is, and has these members, on a line
unfoldable pub object_line : List ℕ → List Member → List ℕ
object_line of_type members = compact_text (typed_data of_type members) ++ codes "\n"

-- a text, under the path of its file, if it has one
abbrev pub text_line : Option (List ℕ) → List ℕ → List ℕ
text_line file text = object_line (codes "text")
    ((codes "file", text_data file) ∷ (codes "text", text_data (Some text)) ∷ [])

-- what a form has of a text of no file: in JSON the line of that
abbrev pub form_text : Form → List ℕ → List ℕ
form_text forms.Json text = text_line None text
form_text forms.Words text = text
form_text forms.Github text = text

-- a file whose text differs from its layout
abbrev pub changed_line : List ℕ → List ℕ
changed_line file = object_line (codes "changed") ((codes "file", text_data (Some file)) ∷ [])

-- how much is at fault, and how many files the words name
abbrev pub summary_line : Tally → List ℕ
summary_line tally = object_line (codes "summary")
    ((codes "faults", number_data (Some tally.faults)) ∷ (codes "files", number_data (Some tally.files)) ∷ [])

-- the file of this path isn't read, for what these words say; nothing is known of a place in it
abbrev pub unread_line : List ℕ → List ℕ → List ℕ
unread_line path why = object_line (codes "refusal")
    ((codes "kind", text_data (Some (codes "CannotRead"))) ∷ (codes "message", text_data (Some why))
    ∷ (codes "file", text_data (Some path)) ∷ (codes "line", number_data None)
    ∷ (codes "column", number_data None) ∷ (codes "end_line", number_data None)
    ∷ (codes "end_column", number_data None) ∷ (codes "path", text_data None) ∷ [])

-- the file of this path isn't written, which is of this kind, for what these words say; what keeps it begins
-- here, if that is known, and nothing is known of where it ends
abbrev pub unwritten_line : List ℕ → List ℕ → Option LineColumn → List ℕ → List ℕ
unwritten_line kind path at why = object_line (codes "refusal")
    ((codes "kind", text_data (Some kind)) ∷ (codes "message", text_data (Some why))
    ∷ (codes "file", text_data (Some path))
    ∷ (codes "line", number_data (option_map (λ (a : LineColumn). a.line) at))
    ∷ (codes "column", number_data (option_map (λ (a : LineColumn). a.column) at))
    ∷ (codes "end_line", number_data None) ∷ (codes "end_column", number_data None)
    ∷ (codes "path", text_data None) ∷ [])
