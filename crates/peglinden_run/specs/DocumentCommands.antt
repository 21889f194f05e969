-- What the commands on documents over a schema answer: GraphQL specification of October 2021, sections 2.2 to
-- 2.8.
use Rattle.std.specs.Prelude.{ℕ, ◌+◌, ◌-◌, ◌^◌, List, [], length, min, string_bytes}
use Rattle.apollo_executable.specs.Erasure.{erased_document}
use Rattle.peglinden_run.specs.declared.answer.Answer.{Answer}
use Rattle.peglinden_run.specs.declared.document_commands.Shown.{Shown}
use Rattle.peglinden_run.specs.declared.document_commands.Shown.TheVariants as shown
use Rattle.peglinden_run.specs.declared.failure.Failure.{Failure}
use Rattle.peglinden_run.specs.declared.form.Form.{Form}
use Rattle.peglinden_run.specs.declared.form.Form.TheVariants as forms
use Rattle.peglinden_run.specs.declared.typed_documents.TypedDocument.{TypedDocument}
use Rattle.peglinden_words.specs.declared.request.Typing.{Typing}
use Rattle.peglinden_run.specs.Documents.{texts_of}
use Rattle.peglinden_run.specs.Ended.{ended}
use Rattle.peglinden_run.specs.FieldLines.{field_lines}
use Rattle.peglinden_run.specs.FieldsCommand.{fields_text}
use Rattle.peglinden_run.specs.Findings.{IsAnswerOf, found_in}
use Rattle.peglinden_run.specs.Forms.{form_of}
use Rattle.peglinden_run.specs.Lines.{form_text}
use Rattle.peglinden_run.specs.Notes.{IsNoted}
use Rattle.peglinden_run.specs.TypedDocuments.{IsTyped, IsTypedCause}

-- the fields that the operations of a typed document reach, in a form
abbrev pub form_fields : Form → TypedDocument → List ℕ
form_fields forms.Json typed = field_lines typed.findings.sources typed.schema typed.document
form_fields forms.Words typed = fields_text typed.document
form_fields forms.Github typed = fields_text typed.document

-- what a command shows of a typed document, in a form
abbrev pub output_of : Form → Shown → TypedDocument → List ℕ
output_of form shown.Nothing typed = []
output_of form shown.WriteOut typed = form_text form (ended (erased_document typed.document).definitions)
output_of form shown.Fields typed = form_fields form typed

-- the notes on a typed document, in a form: hints, which are for people
abbrev pub notes_of : Form → TypedDocument → List ℕ
notes_of forms.Words typed = string_bytes typed.hints
notes_of forms.Json typed = []
notes_of forms.Github typed = []

-- how many files are named, or the greatest number where they are more
abbrev pub named_files : Typing → ℕ
named_files typing = min (length typing.schema.items + length typing.documents.items) (2 ^ 64 - 1)

-- the answer is what the command shows of the typed document of these files over the schema of these files,
-- and what is said of its faults, with notes in front of that. `held` says which bytes the file of a path may
-- hold
pub record IsDocumentAnswer (held : List ℕ → List ℕ
    → Type 0) (what : Shown) (typing : Typing) (answer : Answer) : Type 0 where
  pub typed : TypedDocument
  pub is_typed : IsTyped held (texts_of typing.schema.items) (texts_of typing.documents.items) typed
  -- the answer without notes
  pub bare : Answer
  pub is : IsAnswerOf typing.reporting (named_files typing) (found_in typed.findings)
      (output_of (form_of typing.reporting) what typed) bare
  pub noted : IsNoted (notes_of (form_of typing.reporting) typed) bare answer

-- why these documents are not typed. `may_fail` says whether reading a file may fail
abbrev pub IsTypingCause : (List ℕ → List ℕ → Type 0) → (List ℕ → Type 0) → Typing → Failure → Type 0
IsTypingCause held may_fail typing failure =
    IsTypedCause (form_of typing.reporting) held may_fail (texts_of typing.schema.items)
    (texts_of typing.documents.items) failure
