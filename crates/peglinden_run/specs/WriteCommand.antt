-- What the command `format --write` answers, and which files it replaces.
use Rattle.std.specs.Prelude.{◌≡◌, ◌≢◌, ◌⊎◌, ◌++◌, ℕ, Bool, not, List, [], MatchOption, Option, None, Some, ⊤}
use Rattle.std.specs.Prelude.{length, map}
use Rattle.std.specs.List.{filter}
use Rattle.program_io.specs.Replaced.{Replaces, ReplacesNothing}
use Rattle.graphql_ast.specs.declared.document.Document.{Document}
use Rattle.apollo_compiler.specs.declared.compile_error.CompileError.TheVariants as spent
use Rattle.peglinden_words.specs.declared.request.Reporting.{Reporting}
use Rattle.peglinden_run.specs.declared.answer.Answer.{Answer}
use Rattle.peglinden_run.specs.declared.failure.Failure.{Failure}
use Rattle.peglinden_run.specs.declared.failure.Failure.TheVariants as failures
use Rattle.peglinden_run.specs.declared.form.Form.{Form}
use Rattle.peglinden_run.specs.declared.printed.Printed.{Printed}
use Rattle.peglinden_run.specs.Documents.{AreDocumentsAt}
use Rattle.peglinden_run.specs.FormatCommand.{IsFaultless, changed_text}
use Rattle.peglinden_run.specs.Forms.{form_of}
use Rattle.peglinden_run.specs.Layouts.{changed_files}
use Rattle.peglinden_run.specs.LostComments.{IsLossCause, KeepsComments}
use Rattle.peglinden_run.specs.Printed.{IsArranged}
use Rattle.peglinden_run.specs.RefusedFiles.{IsFilesCause}
use Rattle.peglinden_run.specs.Reports.{SaysEach}
use Rattle.peglinden_run.specs.UnwrittenFiles.{IsUnwrittenReport, unwritten_tally}

-- In all of this a file is its path and the text that replaces its own. `old` is what was replaced before,
-- and `new` what is now, if that is known. `held` says which bytes the file of a path may hold, and
-- `may_fail` whether reading it may fail.

-- files, in the order in which they were replaced
abbrev pub Replaced : Type 0
Replaced = List (List ℕ × List ℕ)

-- these files were replaced, in order
abbrev pub ReplacesEach : Replaced → Option Replaced → Option Replaced → Type 0
ReplacesEach files old new = MatchOption old ⊤ (λ before. new ≡ Some (before ++ files))

-- the file was replaced, of which nothing is said then, or it wasn't, and the form says so
abbrev pub IsTried : Form → List ℕ × List ℕ → Option (List ℕ) → Option Replaced → Option Replaced → Type 0
IsTried form file None old new = Replaces file.0 file.1 old new
IsTried form file (Some report) old new = ReplacesNothing old new × IsUnwrittenReport form file.0 report

-- files, and of each whether it was replaced
abbrev pub Tries : Type 0
Tries = List ((List ℕ × List ℕ) × Bool)

-- all of them
abbrev pub tried : Tries → Replaced
tried tries = map (λ (t : (List ℕ × List ℕ) × Bool). t.0) tries

-- those that were replaced
abbrev pub done : Tries → Replaced
done tries = tried (filter (λ (t : (List ℕ × List ℕ) × Bool). t.1) tries)

-- those that were not
abbrev pub left : Tries → Replaced
left tries = tried (filter (λ (t : (List ℕ × List ℕ) × Bool). not t.1) tries)

-- the text is what a form says of each of these files, which can't be replaced
abbrev pub SaysLeft : Form → Replaced → List ℕ → Type 0
SaysLeft form files text =
    SaysEach (λ (file : List ℕ × List ℕ). IsUnwrittenReport form file.0) files text

-- of these files all were replaced that could be. What is printed is what a form says of each of the others,
-- of which there is one at least; the words name so many files
pub record IsPartlyReplaced (form : Form) (files : ℕ) (changed : Replaced) (old new : Option Replaced)
    (printed : Printed) :
    Type 0 where
  pub tries : Tries
  pub are : tried tries ≡ changed
  pub replaced : ReplacesEach (done tries) old new
  pub some : left tries ≢ []
  pub said : List ℕ
  pub says : SaysLeft form (left tries) said
  pub shows : IsArranged form (unwritten_tally (length (left tries)) files) [] said printed

-- of a beginning of these files all were replaced that could be
pub record IsCutOff (changed : Replaced) (old new : Option Replaced) : Type 0 where
  pub tries : Tries
  pub rest : Replaced
  pub are : changed ≡ tried tries ++ rest
  pub replaced : ReplacesEach (done tries) old new

-- why not all of these files were replaced: some can't be, or memory ran out
abbrev pub IsReplaceCause : Form → ℕ → Replaced → Option Replaced → Option Replaced → Failure → Type 0
IsReplaceCause form files changed old new (failures.Files printed) =
    IsPartlyReplaced form files changed old new printed
IsReplaceCause form files changed old new (failures.Exhausted spent.Memory) = IsCutOff changed old new
IsReplaceCause form files changed old new _ = ⊥

-- why not all of these documents, of so many files, were written. Texts have comments, and nothing was
-- replaced; or none may be lost, and not all files were replaced whose texts differ
abbrev pub IsUnwrittenCause : Form → Bool → ℕ → List Document → Option Replaced → Option Replaced → Failure
    → Type 0
IsUnwrittenCause form dropped files documents old new failure =
    (IsLossCause form dropped files documents failure × ReplacesNothing old new)
    ⊎ (KeepsComments dropped documents
    × IsReplaceCause form files (changed_files documents) old new failure)

-- why the files of these paths were not all written. They are not all read as documents, and nothing was
-- replaced; or they are, and the documents were not all written
abbrev pub IsWriteCause : (List ℕ → List ℕ → Type 0) → (List ℕ → Type 0) → Bool → Reporting → List (List ℕ)
    → Option Replaced → Option Replaced → Failure → Type 0
IsWriteCause held may_fail dropped reporting paths old new failure =
    (IsFilesCause (form_of reporting) held may_fail paths failure × ReplacesNothing old new)
    ⊎ ((documents : List Document) × (AreDocumentsAt held 1 paths documents
    × IsUnwrittenCause (form_of reporting) dropped (length paths) documents old new failure))

-- the files of these paths are documents, whose comments may be lost, and exactly those were replaced whose
-- texts differ, each by its layout. The answer prints their names, and nothing is at fault
pub record IsWriteAnswer (held : List ℕ → List ℕ
    → Type 0) (dropped : Bool) (reporting : Reporting) (paths : List (List ℕ)) (old new : Option Replaced)
    (answer : Answer) :
    Type 0 where
  -- the documents of the files
  pub documents : List Document
  pub read : AreDocumentsAt held 1 paths documents
  pub kept : KeepsComments dropped documents
  pub replaced : ReplacesEach (changed_files documents) old new
  pub prints : IsFaultless (form_of reporting) (length paths)
      (changed_text (form_of reporting) (changed_files documents)) answer
