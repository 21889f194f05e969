-- How a run ends with an answer and without one, and over standard input.
use Rattle.std.proofs.Common.{◌≡◌, ℕ, true, List, [], Option, None, Result, Ok, Err, IfOk, IfErr, MatchResult}
use Rattle.std.proofs.Common.{◌∙◌, inl, inr, refl, string_bytes, sym}
use Rattle.std.proofs.KnownBytes.{Appends-nil}
use Rattle.clap.specs.Walk.{Text}
use Rattle.program_io.specs.Files.{IsReadCause, IsRefusal, may_fail_with_input, with_input}
use Rattle.program_io.specs.Writing.{IsBegun}
use Rattle.program_io.specs.declared.file_error.FileError.{FileError}
use Rattle.program_io.specs.declared.file_error.FileError.TheVariants as errors
use Rattle.program_io.specs.declared.status.Status.{Status}
use Rattle.program_io.specs.declared.status.Status.TheVariants as s
use Rattle.peglinden_words.specs.Refusals.{call_for_help}
use Rattle.peglinden_words.specs.Requests.{asked, asked_of}
use Rattle.peglinden_words.specs.declared.request.Request.{Request}
use Rattle.peglinden_words.specs.declared.request.Request.TheVariants as requests
use Rattle.apollo_compiler.specs.declared.compile_options.CompileOptions.{CompileOptions}
use Rattle.peglinden_run.specs.declared.answer.Answer.{Answer}
use Rattle.peglinden_run.specs.declared.failure.Failure.{Failure}
use Rattle.peglinden_run.specs.declared.failure.Failure.TheVariants as failures
use Rattle.peglinden_run.specs.Requests.{IsAnswerTo, IsCauseTo}
use Rattle.peglinden_run.specs.declared.form.Form.{Form}
use Rattle.peglinden_run.specs.declared.form.Form.TheVariants as forms
use Rattle.peglinden_run.specs.declared.printed.Printed.{Printed}
use Rattle.peglinden_run.specs.declared.printed.Tally.{Tally}
use Rattle.peglinden_run.specs.Documents.{texts_of}
use Rattle.peglinden_run.specs.Forms.{form_of}
use Rattle.peglinden_run.specs.LookupCommand.{IsLookupCause}
use Rattle.peglinden_run.specs.Printed.{IsArranged}
use Rattle.peglinden_run.specs.RefusedFiles.{IsFilesCause}
use Rattle.peglinden_run.specs.Runs.{AppendsAny, IsFailureWritten, IsInWords, IsTextWritten, IsUnanswered}
use Rattle.peglinden_run.specs.Runs.{IsUnasked, IsWritten, MayEnd, MayEndWithInput}
use Rattle.peglinden_run.specs.SchemaCommand.{IsSchemaCause}
use Rattle.peglinden_run.specs.Status.{message_of, output_of, status_of}
use Rattle.peglinden_run.specs.TypedDocuments.{IsTypedCause}

-- nothing is written
pub nothing-begun : (text : List ℕ) (old : Option (List ℕ)) → IsBegun text old old
nothing-begun text old = (text, ([], (Appends-nil old, refl)))

-- a run that memory ran out in is not done
pub exhausted-not-done : {E : Type 0} {x y : E} (status : Status) → status ≡ s.Exhausted → status ≡ s.Done
    → x ≡ y
exhausted-not-done status ends done = absurd (let no : s.Exhausted ≡ s.Done = sym ends ∙ done in cc)

-- without an answer nothing is done
pub is_not_done : (failure : Failure) → status_of failure ≡ s.Done → ⊥
is_not_done (failures.Files printed) done = cc
is_not_done (failures.NoCoordinate sentence) done = cc
is_not_done (failures.Exhausted error) done = cc

pub is_not_faulty : (failure : Failure) → status_of failure ≡ s.Faults → ⊥
is_not_faulty (failures.Files printed) faulty = cc
is_not_faulty (failures.NoCoordinate sentence) faulty = cc
is_not_faulty (failures.Exhausted error) faulty = cc

-- what is said of a cause is written, and the run ends as it says
pub failure_written : (failure : Failure) (old new old_errors new_errors : Option (List ℕ))
    → AppendsAny old new (output_of failure) → IsBegun (message_of failure) old_errors new_errors
    → IsFailureWritten failure old new old_errors new_errors (status_of failure)
failure_written (failures.Files printed) old new old_errors new_errors out reported = (refl, out, reported)
failure_written (failures.NoCoordinate sentence) old new old_errors new_errors out reported =
    (refl, out, reported)
failure_written (failures.Exhausted error) old new old_errors new_errors out reported = (refl, out, reported)

-- in words nothing of a cause goes to standard output
arranged_in_words : (form : Form) (tally : Tally) (said : List ℕ) (printed : Printed) → form ≡ forms.Words
    → IsArranged form tally [] said printed → string_bytes printed.output ≡ []
arranged_in_words forms.Words tally said printed words is = is.0
arranged_in_words forms.Json tally said printed words is = absurd
    (let no : forms.Json ≡ forms.Words = words in
    cc)
arranged_in_words forms.Github tally said printed words is =
    absurd (let no : forms.Github ≡ forms.Words = words in cc)

schema_in_words : (form : Form) (held : List ℕ → List ℕ → Type 0) (may_fail : List ℕ
    → Type 0) (options : CompileOptions) (paths : List (List ℕ)) (failure : Failure) → form ≡ forms.Words
    → IsSchemaCause form held may_fail options paths failure → output_of failure ≡ []
schema_in_words form held may_fail options paths (failures.Files printed) words cause =
    arranged_in_words form _ _ printed words cause.says
schema_in_words form held may_fail options paths (failures.NoCoordinate sentence) words cause = refl
schema_in_words form held may_fail options paths (failures.Exhausted error) words cause = refl

typed_in_words : (form : Form) (held : List ℕ → List ℕ → Type 0) (may_fail : List ℕ
    → Type 0) (schema_paths document_paths : List (List ℕ)) (failure : Failure) → form ≡ forms.Words
    → IsTypedCause form held may_fail schema_paths document_paths failure → output_of failure ≡ []
typed_in_words form held may_fail schema_paths document_paths (failures.Files printed) words cause =
    arranged_in_words form _ _ printed words cause.says
typed_in_words form held may_fail schema_paths document_paths (failures.NoCoordinate sentence) words cause
    = refl
typed_in_words form held may_fail schema_paths document_paths (failures.Exhausted error) words cause = refl

lookup_in_words : (form : Form) (held : List ℕ → List ℕ → Type 0) (may_fail : List ℕ → Type 0) (text : List ℕ)
    (paths : List (List ℕ)) (failure : Failure) → form ≡ forms.Words
    → IsLookupCause form held may_fail text paths failure → output_of failure ≡ []
lookup_in_words form held may_fail text paths (failures.Files printed) words cause =
    arranged_in_words form _ _ printed words cause.says
lookup_in_words form held may_fail text paths (failures.NoCoordinate sentence) words cause = refl
lookup_in_words form held may_fail text paths (failures.Exhausted error) words cause = refl

format_in_words : (form : Form) (held : List ℕ → List ℕ → Type 0) (may_fail : List ℕ → Type 0)
    (paths : List (List ℕ)) (failure : Failure) → form ≡ forms.Words
    → IsFilesCause form held may_fail paths failure → output_of failure ≡ []
format_in_words form held may_fail paths (failures.Files printed) words cause =
    arranged_in_words form _ _ printed words cause.says
format_in_words form held may_fail paths (failures.NoCoordinate sentence) words cause = refl
format_in_words form held may_fail paths (failures.Exhausted error) words cause = refl

pub cause_in_words : (request : Request) (held : List ℕ → List ℕ → Type 0) (may_fail : List ℕ → Type 0)
    (failure : Failure) → IsCauseTo request held may_fail failure → IsInWords (asked_of request)
    → output_of failure ≡ []
cause_in_words (requests.Schema adopt ignore_builtin reporting files) held may_fail failure cause words =
    schema_in_words _ held may_fail _ _ failure words cause
cause_in_words (requests.Check typing) held may_fail failure cause words =
    typed_in_words (form_of typing.reporting) held may_fail (texts_of typing.schema.items)
    (texts_of typing.documents.items) failure words cause
cause_in_words (requests.Typed typing) held may_fail failure cause words =
    typed_in_words (form_of typing.reporting) held may_fail (texts_of typing.schema.items)
    (texts_of typing.documents.items) failure words cause
cause_in_words (requests.Fields typing) held may_fail failure cause words =
    typed_in_words (form_of typing.reporting) held may_fail (texts_of typing.schema.items)
    (texts_of typing.documents.items) failure words cause
cause_in_words (requests.Lookup coordinate reporting files) held may_fail failure cause words =
    lookup_in_words _ held may_fail _ _ failure words cause
cause_in_words (requests.Format check reporting files) held may_fail failure cause words =
    format_in_words _ held may_fail _ failure words cause

module _ (request : Request) (held : List ℕ → List ℕ → Type 0) (may_fail : List ℕ
    → Type 0) (old new old_errors new_errors : Option (List ℕ)) where
  -- with an answer a run ends as writing that went
  pub with_answer : (answer : Answer) (status : Status) → IsAnswerTo request held answer
      → IsWritten answer old new old_errors new_errors status
      → MayEnd request held may_fail old new old_errors new_errors status
  with_answer answer s.Done is written = (answer, (is, written))
  with_answer answer s.Faults is written = (answer, (is, written))
  with_answer answer s.Refused is written = absurd written
  with_answer answer s.Exhausted is written = absurd written
  with_answer answer s.NotWritten is written = inl (answer, (is, written))

  -- without one it ends as writing what is said of its cause went
  pub without_answer : (failure : Failure) (status : Status) → IsCauseTo request held may_fail failure
      → IsFailureWritten failure old new old_errors new_errors status
      → MayEnd request held may_fail old new old_errors new_errors status
  without_answer failure s.Done cause written = absurd (is_not_done failure written.0)
  without_answer failure s.Faults cause written = absurd (is_not_faulty failure written.0)
  without_answer failure s.Refused cause written = (failure, (cause, written))
  without_answer failure s.Exhausted cause written = (failure, (cause, written))
  without_answer failure s.NotWritten cause written = inr (failure, (cause, written))

  -- over what reading standard input gave, it ends as over standard input
  pub with_read : {B : Type 0} (input : Result B FileError) (bytes_of : B → List ℕ) (input_held : List ℕ
      → Type 0) (input_may_fail : Type 0) (status : Status) → IfOk input (λ read. input_held (bytes_of read))
      → IfErr input (IsReadCause input_may_fail)
      → MayEnd request (with_input (λ bytes. MatchResult input (λ read. bytes ≡ bytes_of read) (λ _. ⊥)) held)
      (may_fail_with_input (MatchResult input (λ _. ⊥) IsRefusal) may_fail) old new old_errors new_errors
      status
      → MayEndWithInput request input_held input_may_fail held may_fail old new old_errors new_errors status
  with_read (Ok read) bytes_of input_held input_may_fail status is causes ends =
      inl (bytes_of read, (is, ends))
  with_read (Err (errors.CannotRead error)) bytes_of input_held input_may_fail status is causes ends =
      inr (inl (causes, ends))
  with_read (Err errors.NotText) bytes_of input_held input_may_fail status is causes ends = absurd causes
  with_read (Err errors.Memory) bytes_of input_held input_may_fail status is causes ends = inr (inr ends)

-- a run that writes an answer has one
pub is_answered : (answer : Answer) (old new old_errors new_errors : Option (List ℕ)) (status : Status)
    → IsWritten answer old new old_errors new_errors status → IsUnanswered status → ⊥
is_answered answer old new old_errors new_errors s.Done written none = none
is_answered answer old new old_errors new_errors s.Faults written none = none
is_answered answer old new old_errors new_errors s.Refused written none = written
is_answered answer old new old_errors new_errors s.Exhausted written none = written
is_answered answer old new old_errors new_errors s.NotWritten written none = none

-- where words call for help, a run ends as writing a text went
pub help_written : (words : List Text) (old new : Option (List ℕ)) (text : List ℕ) (status : Status)
    → (asked words ≡ None) × (call_for_help words ≡ true) → IsTextWritten text old new status
    → IsUnasked words old new status
help_written words old new text s.Done called written = (called.0, called.1, (text, written))
help_written words old new text s.Faults called written = absurd written
help_written words old new text s.Refused called written = absurd written
help_written words old new text s.Exhausted called written = absurd written
help_written words old new text s.NotWritten called written = (called.0, called.1, (text, written))
