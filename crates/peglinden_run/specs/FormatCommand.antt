-- What the command `format` answers: GraphQL specification of October 2021, section 2.
use Rattle.std.specs.Prelude.{◌≡◌, ◌++◌, ◌==◌, ◌∷◌, ℕ, Bool, true, false, not, List, [], Option, None, Some}
use Rattle.std.specs.Prelude.{codes, length, if◌then◌else◌, string_bytes}
use Rattle.std.specs.List.{flat_map}
use Rattle.graphql_nodes.specs.Sources.{Files}
use Rattle.graphql_nodes.specs.VisibleTexts.{visible}
use Rattle.graphql_ast.specs.declared.definition.Definition.{Definition}
use Rattle.graphql_ast.specs.declared.document.Document.{Document}
use Rattle.apollo_reporting.specs.GithubCommands.{command_text}
use Rattle.peglinden_words.specs.declared.request.Reporting.{Reporting}
use Rattle.peglinden_run.specs.declared.answer.Answer.{Answer}
use Rattle.peglinden_run.specs.declared.form.Form.{Form}
use Rattle.peglinden_run.specs.declared.form.Form.TheVariants as forms
use Rattle.peglinden_run.specs.declared.printed.Printed.{Printed}
use Rattle.peglinden_run.specs.declared.printed.Tally.{Tally}
use Rattle.peglinden_run.specs.Documents.{AreDocumentsAt}
use Rattle.peglinden_run.specs.Ended.{ended}
use Rattle.peglinden_run.specs.Findings.{at_most}
use Rattle.peglinden_run.specs.Forms.{form_of}
use Rattle.peglinden_run.specs.Layouts.{changed_files}
use Rattle.peglinden_run.specs.Lines.{changed_line, text_line}
use Rattle.peglinden_run.specs.Printed.{IsArranged, tally_line}

-- the text of a document in our layout
abbrev pub formatted : Document → List ℕ
formatted document = ended document.definitions

-- the definitions of documents, one behind the other
abbrev pub all_definitions : List Document → List Definition
all_definitions documents = flat_map (λ (d : Document). d.definitions) documents

-- the path of the first of these files
abbrev pub first_path : Files → Option (List ℕ)
first_path [] = None
first_path (file ∷ files) = Some file.1.path

-- the path of the first file of a document
abbrev pub document_path : Document → Option (List ℕ)
document_path document = first_path document.sources

-- the line of JSON of a document, with its text in our layout
abbrev pub document_line : Document → List ℕ
document_line document = text_line (document_path document) (formatted document)

-- what a form has of documents in our layout: for people one text of all definitions, and in JSON the text of
-- each
abbrev pub form_documents : Form → List Document → List ℕ
form_documents forms.Json documents = flat_map document_line documents
form_documents forms.Words documents = ended (all_definitions documents)
form_documents forms.Github documents = ended (all_definitions documents)

-- what a form says of a file whose text differs
abbrev pub changed_in : Form → List ℕ → List ℕ
changed_in forms.Words path = visible path ++ codes "\n"
changed_in forms.Json path = changed_line path
changed_in forms.Github path =
    command_text (Some path) None (codes "the text differs from its layout") ++ codes "\n"

-- what a form says of files whose texts differ
abbrev pub changed_text : Form → List (List ℕ × List ℕ) → List ℕ
changed_text form files = flat_map (λ (file : List ℕ × List ℕ). changed_in form file.0) files

-- how many files differ, on a line, where not all of them are shown
abbrev pub rest_line : Tally → List ℕ
rest_line tally = if tally.shown == tally.faults then [] else tally_line tally

-- what is printed of what a form says of the files that differ
abbrev pub IsCheckShown : Form → Tally → List ℕ → Printed → Type 0
IsCheckShown forms.Words tally said printed = (string_bytes printed.output ≡ said)
    × (string_bytes printed.errors ≡ rest_line tally)
IsCheckShown form tally said printed = IsArranged form tally [] said printed

-- so many files are named, and these of them differ, of which at most so many are shown
abbrev pub changed_tally : Option ℕ → ℕ → List (List ℕ × List ℕ) → Tally
changed_tally most files changed = record {
  faults = length changed;
  shown = length (at_most most changed);
  files = files;
}

-- the answer says of the files of documents which differ, at most so many
pub record IsChecked (form : Form) (most : Option ℕ) (files : ℕ) (documents : List Document)
    (answer : Answer) :
    Type 0 where
  pub shows : IsCheckShown form (changed_tally most files (changed_files documents))
      (changed_text form (at_most most (changed_files documents))) answer.printed
  pub any : answer.has_faults ≡ not (length (changed_files documents) == 0)

-- so many files are named, and nothing is at fault
abbrev pub format_tally : ℕ → Tally
format_tally files = record { faults = 0; shown = 0; files = files }

-- the answer prints this output, and nothing is at fault in so many files
pub record IsFaultless (form : Form) (files : ℕ) (output : List ℕ) (answer : Answer) : Type 0 where
  pub shows : IsArranged form (format_tally files) output [] answer.printed
  pub none : answer.has_faults ≡ false

-- it prints documents in our layout; with the flag it says which differ
abbrev pub Formats : Bool → Reporting → ℕ → List Document → Answer → Type 0
Formats false reporting files documents answer =
    IsFaultless (form_of reporting) files (form_documents (form_of reporting) documents) answer
Formats true reporting files documents answer =
    IsChecked (form_of reporting) reporting.max_faults files documents answer

-- the answer is that to the documents of these files
pub record IsFormatAnswer (held : List ℕ → List ℕ
    → Type 0) (check : Bool) (reporting : Reporting) (paths : List (List ℕ)) (answer : Answer) :
    Type 0 where
  -- the documents of the files
  pub documents : List Document
  pub read : AreDocumentsAt held 1 paths documents
  pub formats : Formats check reporting (length paths) documents answer
