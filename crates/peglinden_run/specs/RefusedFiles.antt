-- What is said of files that are no documents: GraphQL specification of October 2021, section 2.2.
use Rattle.std.specs.Prelude.{◌≡◌, ◌≢◌, ◌⊎◌, ◌++◌, ℕ, suc, List, [], ◌∷◌, Option, None, Some, codes, is_some}
use Rattle.std.specs.Prelude.{length}
use Rattle.std.specs.List.{count_by, flat_map}
use Rattle.program_io.specs.Files.{CannotBeRead, HoldsSome}
use Rattle.graphql_nodes.specs.VisibleTexts.{visible}
use Rattle.graphql_ast.specs.declared.document.Document.{Document}
use Rattle.graphql_grammar.specs.WordsOfText.{words_of}
use Rattle.graphql_productions.specs.Documents.{document, spells_document}
use Rattle.graphql_text.specs.Parses.{RefusedAt}
use Rattle.graphql_text.specs.declared.parse_error.ParseError.{ParseError}
use Rattle.apollo_reporting.specs.GithubCommands.{command_text}
use Rattle.apollo_reporting.specs.TextErrors.{parse_error_about, parse_error_details}
use Rattle.apollo_compiler.specs.declared.compile_error.CompileError.TheVariants as spent
use Rattle.peglinden_run.specs.declared.failure.Failure.{Failure}
use Rattle.peglinden_run.specs.declared.failure.Failure.TheVariants as failures
use Rattle.peglinden_run.specs.declared.form.Form.{Form}
use Rattle.peglinden_run.specs.declared.form.Form.TheVariants as forms
use Rattle.peglinden_run.specs.declared.printed.Printed.{Printed}
use Rattle.peglinden_run.specs.declared.printed.Tally.{Tally}
use Rattle.peglinden_run.specs.declared.reports.Subject.TheVariants as subjects
use Rattle.peglinden_run.specs.Documents.{IsDocumentAt, IsNoDocument, alone, file, most_open, most_tokens}
use Rattle.peglinden_run.specs.Lines.{unread_line}
use Rattle.peglinden_run.specs.Printed.{IsArranged}
use Rattle.peglinden_run.specs.Reports.{IsSaid}

-- In all of this `held` says which bytes the file of a path may hold, and `may_fail` whether reading it may
-- fail.

-- the error says where the text, under this number, is no document, and why
abbrev pub IsErrorOf : ℕ → List ℕ → ParseError → Type 0
IsErrorOf number text error =
    RefusedAt (document (file number) most_open) (spells_document (file number) most_open)
    (document (file number) (suc most_open)).spells (file number) (length text) (words_of most_tokens text)
    error

-- the report that the file of this path can't be read, with these words for why, as both are shown
abbrev pub unread_text : List ℕ → List ℕ → List ℕ
unread_text path why =
    codes "error: cannot read `" ++ (visible path ++ (codes "`: " ++ (visible why ++ codes "\n\n")))

-- the same in a sentence
abbrev pub unread_sentence : List ℕ → List ℕ → List ℕ
unread_sentence path why = codes "cannot read `" ++ (path ++ (codes "`: " ++ why))

-- the same as a workflow command, on a line
abbrev pub unread_command : List ℕ → List ℕ → List ℕ
unread_command path why = command_text (Some path) None (unread_sentence path why) ++ codes "\n"

-- what a form says of that
abbrev pub unread_in : Form → List ℕ → List ℕ → List ℕ
unread_in forms.Words path why = unread_text path why
unread_in forms.Json path why = unread_line path why
unread_in forms.Github path why = unread_command path why

-- the text is what a form says of that, with some words for why
abbrev pub IsUnreadReport : Form → List ℕ → List ℕ → Type 0
IsUnreadReport form path report = (why : List ℕ) × (report ≡ unread_in form path why)

-- the text is what a form says of why this text is no document, under this path and number
abbrev pub IsRefusedText : Form → ℕ → List ℕ → List ℕ → List ℕ → Type 0
IsRefusedText form number path text report =
    IsNoDocument number text
    × ((error : ParseError)
    × (IsErrorOf number text error
    × IsSaid subjects.Refusal form (alone number path text) (Some error.location) (parse_error_about error)
    (Some (parse_error_details error)) report))

-- the text says that the file of this path can't be read, for what may be: reading it fails, or its bytes are
-- no text
abbrev pub IsRefusedRead : Form → (List ℕ → List ℕ → Type 0) → (List ℕ → Type 0) → List ℕ → List ℕ → Type 0
IsRefusedRead form held may_fail path report = CannotBeRead (held path) (may_fail path)
    × IsUnreadReport form path report

-- the text reports why the file of this path is refused: it can't be read, or the text that it may hold is no
-- document
abbrev pub IsRefusedFile : Form → (List ℕ → List ℕ → Type 0) → (List ℕ → Type 0) → ℕ → List ℕ → List ℕ
    → Type 0
IsRefusedFile form held may_fail number path report = IsRefusedRead form held may_fail path report
    ⊎ HoldsSome (held path) (λ text. IsRefusedText form number path text report)

-- of a file that is a document nothing is reported, and of any other why it is refused
abbrev pub IsReported : Form → (List ℕ → List ℕ → Type 0) → (List ℕ → Type 0) → ℕ → List ℕ → Option (List ℕ)
    → Type 0
IsReported form held may_fail number path None =
    (document : Document) × IsDocumentAt held number path document
IsReported form held may_fail number path (Some report) =
    IsRefusedFile form held may_fail number path report

-- the same of each of the files of these paths, in order, under numbers from this one on
abbrev pub AreReported : Form → (List ℕ → List ℕ → Type 0) → (List ℕ → Type 0) → ℕ → List (List ℕ)
    → List (Option (List ℕ)) → Type 0
AreReported form held may_fail number [] reports = reports ≡ []
AreReported form held may_fail number (path ∷ paths) reports = (first : Option (List ℕ))
    × ((rest : List (Option (List ℕ)))
    × ((reports ≡ first ∷ rest)
    × (IsReported form held may_fail number path first
    × AreReported form held may_fail (suc number) paths rest)))

-- a report, or nothing where there is none
abbrev pub if_reported : Option (List ℕ) → List ℕ
if_reported None = []
if_reported (Some report) = report

-- so many of these files are refused, and each is said so
abbrev pub refused_tally : List (List ℕ) → List (Option (List ℕ)) → Tally
refused_tally paths reports = record {
  faults = count_by is_some reports;
  shown = count_by is_some reports;
  files = length paths;
}

-- what is printed is what a form says of each of the files of these paths that is refused, and how many they
-- are, one at least
pub record IsFilesReport (form : Form) (held : List ℕ → List ℕ → Type 0) (may_fail : List ℕ
    → Type 0) (paths : List (List ℕ)) (printed : Printed) : Type 0 where
  -- what is said of each file
  pub reports : List (Option (List ℕ))
  pub are : AreReported form held may_fail 1 paths reports
  pub some : count_by is_some reports ≢ 0
  pub says : IsArranged form (refused_tally paths reports) [] (flat_map if_reported reports) printed

-- why the files of these paths are no documents; that memory ran out says nothing of them
abbrev pub IsFilesCause : Form → (List ℕ → List ℕ → Type 0) → (List ℕ → Type 0) → List (List ℕ) → Failure
    → Type 0
IsFilesCause form held may_fail paths (failures.Files printed) =
    IsFilesReport form held may_fail paths printed
IsFilesCause form held may_fail paths (failures.Exhausted spent.Memory) = Unit {0}
IsFilesCause form held may_fail paths _ = ⊥
