-- Why there is no answer to words and an input, and how a run ends with an answer and without one.
use Rattle.std.proofs.Common.{◌≡◌, ◌⊎◌, ℕ, Bool, true, false, List, Option, Result, Ok, Err, OnOk, IfOk, inl}
use Rattle.std.proofs.Common.{inr, refl, sym, ap, ◌∙◌}
use Rattle.std.proofs.KnownBytes.{Appends-trans}
use Rattle.std.specs.Io.KnownBytes.{Appends}
use Rattle.apollo_compiler.specs.declared.compile_error.CompileError.TheVariants as spent
use Rattle.gqltool_run.specs.declared.failure.Failure.{Failure}
use Rattle.gqltool_run.specs.declared.failure.Failure.TheVariants as failures
use Rattle.program_io.specs.Files.{HoldsSome, IsFileCause}
use Rattle.program_io.specs.declared.file_error.FileError.{FileError}
use Rattle.program_io.specs.declared.file_error.FileError.TheVariants as errors
use Rattle.program_io.specs.declared.status.Status.{Status}
use Rattle.program_io.specs.declared.status.Status.TheVariants as s
use Rattle.gqltool_run.specs.declared.task.Task.{Task}
use Rattle.gqltool_run.specs.declared.task.Task.TheVariants as tasks
use Rattle.gqltool_run.specs.Commands.{AppendAnswer, AppendBeginning, IsAnswerTo, IsCauseOf, IsPrintTo}
use Rattle.program_io.specs.Writing.{GoesOut, IsBegun}
use Rattle.gqltool_run.specs.Runs.{IsCauseOver, IsCauseTo, IsSentOut, IsWritten, MayEnd}
use Rattle.gqltool_run.specs.Status.{Writes, failure_of_input, status_of}
use Rattle.gqltool_run.specs.Tasks.{Ask}
use Rattle.program_io.proofs.WritingLemmas.{goes-further}

-- why an input is not read is why nothing has an answer over it
pub input_cause : (task : Task) (held : List ℕ → Type 0) (may_fail : Type 0) (error : FileError)
    → IsFileCause held may_fail error → IsCauseOver task held may_fail (failure_of_input error)
input_cause task held may_fail (errors.CannotRead why) cause = inl cause
input_cause task held may_fail errors.NotText cause = inr cause
input_cause task held may_fail errors.Memory cause = tt

-- what holds of each answer holds beside what holds where there is one
pub both_ok : {A E : Type 0} (P : Type 0) (Q : A → Type 0) (r : Result A E) → OnOk r P → IfOk r Q
    → IfOk r (λ x. P × Q x)
both_ok P Q (Ok x) p q = (p, q)
both_ok P Q (Err e) p q = tt

-- what was read is no cause for which it can't be
no_input_cause : (task : Task) (text : List ℕ) → IsCauseOf task text failures.CannotRead → ⊥
no_input_cause (tasks.Schema options) text cause = cause
no_input_cause (tasks.Coord coordinate) text cause = cause
no_input_cause tasks.Doc text cause = cause
no_input_cause tasks.Walk text cause = cause
no_input_cause tasks.Leaf text cause = cause

-- why what was asked has no answer over a text that was read is why it has none over the input
pub cause_over : (task : Task) (held : List ℕ → Type 0) (may_fail : Type 0) (text : List ℕ)
    (failure : Failure) → held text → IsCauseOf task text failure → IsCauseOver task held may_fail failure
cause_over task held may_fail text failures.Usage is cause = (text, (is, cause))
cause_over task held may_fail text (failures.NoCoordinate error) is cause = (text, (is, cause))
cause_over task held may_fail text failures.CannotRead is cause = absurd (no_input_cause task text cause)
cause_over task held may_fail text (failures.RefusedLine line) is cause = (text, (is, cause))
cause_over task held may_fail text failures.NoDivision is cause = (text, (is, cause))
cause_over task held may_fail text (failures.Exhausted spent.Memory) is cause = tt
cause_over task held may_fail text (failures.Exhausted spent.ExtensionIds) is cause = (text, (is, cause))

-- a run without an answer ends in one of two ways, and at neither the output is written
pub two_ends : (failure : Failure) → (status_of failure ≡ s.Refused) ⊎ (status_of failure ≡ s.Exhausted)
two_ends failures.Usage = inl refl
two_ends (failures.NoCoordinate error) = inl refl
two_ends failures.CannotRead = inl refl
two_ends (failures.RefusedLine line) = inl refl
two_ends failures.NoDivision = inl refl
two_ends (failures.Exhausted error) = inr refl

-- without an answer a run ends as its cause says
pub without_answer : (words : List (List ℕ)) (held : List ℕ → Type 0) (may_fail : Type 0)
    (old new : Option (List ℕ)) (failure : Failure) → IsCauseTo words held may_fail failure
    → MayEnd words held may_fail old new (status_of failure)
without_answer words held may_fail old new failure cause = elim (two_ends failure) [
  | inl e ↦ rw e (failure, (e, cause))
  | inr e ↦ rw e (failure, (e, cause))
]

pub nothing_written : (failure : Failure) → Writes (status_of failure) → ⊥
nothing_written failure writes = elim (two_ends failure) [ inl e ↦ rw e at writes | inr e ↦ rw e at writes ]

-- where a beginning of a text went out, the end of what is left of it is that of the whole text
pub sent_out : (text left : List ℕ) (old middle new : Option (List ℕ)) (has_faults any : Bool)
    (status : Status) → GoesOut text old middle left → has_faults ≡ any
    → IsWritten left has_faults middle new status → IsSentOut text any old new status
sent_out text left old middle new has_faults any s.Done goes same written = (
  sym same ∙ written.0,
  rw goes.1.1 (Appends-trans old middle new goes.0 left goes.1.0 written.1),
)
sent_out text left old middle new has_faults any s.Faults goes same written = (
  sym same ∙ written.0,
  rw goes.1.1 (Appends-trans old middle new goes.0 left goes.1.0 written.1),
)
sent_out text left old middle new has_faults any s.Refused goes same written = absurd written
sent_out text left old middle new has_faults any s.Exhausted goes same written = absurd written
sent_out text left old middle new has_faults any s.NotWritten goes same written =
    (written.0, goes-further text old middle new left written.0 goes written.1)

-- of an answer a beginning is appended
pub beginning_appended : (words : List (List ℕ)) (held : List ℕ → Type 0) (old new : Option (List ℕ))
    (text : List ℕ) (has_faults : Bool) → HoldsSome held (λ input. IsAnswerTo words input text has_faults)
    → IsBegun text old new → HoldsSome held (AppendBeginning words old new)
beginning_appended words held old new text has_faults means begun =
    let is = rw begun.1.1.1 at means.1.1 in
    (means.0, (means.1.0, (begun.1.0, ((begun.0, (has_faults, is)), begun.1.1.0))))

answer_appended : (words : List (List ℕ)) (held : List ℕ → Type 0) (old new : Option (List ℕ)) (text : List ℕ)
    (has_faults any : Bool) → has_faults ≡ any
    → HoldsSome held (λ input. IsAnswerTo words input text has_faults) → Appends old new text
    → HoldsSome held (AppendAnswer words any old new)
answer_appended words held old new text has_faults any same means wrote =
    (means.0, (means.1.0, (text, (rw same at means.1.1, wrote))))

-- with an answer it ends as writing that went
pub with_answer : (words : List (List ℕ)) (held : List ℕ → Type 0) (may_fail : Type 0)
    (old new : Option (List ℕ)) (text : List ℕ) (has_faults : Bool) (status : Status)
    → IsWritten text has_faults old new status
    → HoldsSome held (λ input. IsAnswerTo words input text has_faults)
    → (has_faults ≡ false → IsPrintTo words text) → MayEnd words held may_fail old new status
with_answer words held may_fail old new text has_faults s.Done written means prints = (
  answer_appended words held old new text has_faults false written.0 means written.1,
  (text, (prints written.0, written.1)),
)
with_answer words held may_fail old new text has_faults s.Faults written means prints =
    answer_appended words held old new text has_faults true written.0 means written.1
with_answer words held may_fail old new text has_faults s.Refused written means prints = absurd written
with_answer words held may_fail old new text has_faults s.Exhausted written means prints = absurd written
with_answer words held may_fail old new text has_faults s.NotWritten written means prints =
    beginning_appended words held old new text has_faults means written

-- and so it does where the answer went out while it was made, but that memory may be wanting
pub with_sent_answer : (words : List (List ℕ)) (task : Task) (held : List ℕ → Type 0) (may_fail : Type 0)
    (old new : Option (List ℕ)) (text : List ℕ) (has_faults : Bool) (status : Status)
    → IsSentOut text has_faults old new status → Ask words task
    → HoldsSome held (λ input. IsAnswerTo words input text has_faults)
    → (has_faults ≡ false → IsPrintTo words text) → MayEnd words held may_fail old new status
with_sent_answer words task held may_fail old new text has_faults s.Done sent asked means prints =
    with_answer words held may_fail old new text has_faults s.Done sent means prints
with_sent_answer words task held may_fail old new text has_faults s.Faults sent asked means prints =
    with_answer words held may_fail old new text has_faults s.Faults sent means prints
with_sent_answer words task held may_fail old new text has_faults s.Refused sent asked means prints =
    absurd sent
with_sent_answer words task held may_fail old new text has_faults s.Exhausted sent asked means prints =
    (failures.Exhausted spent.Memory, (refl, inr (task, (asked, tt))))
with_sent_answer words task held may_fail old new text has_faults s.NotWritten sent asked means prints =
    with_answer words held may_fail old new text has_faults s.NotWritten sent means prints

-- where words are no command there is no answer, and a run is refused
pub no_error : {A B : Type 0} {value : A} {error : B} → ◌≡◌ {A = Result A B} (Ok value) (Err error) → ⊥
no_error e = cc

pub usage_refused : {A : Type 0} (failure : Failure)
    → ◌≡◌ {A = Result A Failure} (Err failure) (Err failures.Usage) → status_of failure ≡ s.Refused
usage_refused failure e = let same : failure ≡ failures.Usage = cc in ap status_of same
