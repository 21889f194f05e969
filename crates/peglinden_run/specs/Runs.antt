-- How a run ends.
use Rattle.std.specs.Prelude.{◌≡◌, ◌⊎◌, ℕ, Bool, true, false, List, [], Option, None, Some, string_bytes}
use Rattle.std.specs.Io.KnownBytes.{Appends}
use Rattle.clap.specs.Walk.{Text}
use Rattle.program_io.specs.Files.{may_fail_with_input, with_input}
use Rattle.program_io.specs.Writing.{IsBegun}
use Rattle.program_io.specs.declared.status.Status.{Status}
use Rattle.program_io.specs.declared.status.Status.TheVariants as s
use Rattle.peglinden_words.specs.Refusals.{are_mistaken, call_for_help}
use Rattle.peglinden_words.specs.Requests.{Asked, asked, asked_of, reporting_of}
use Rattle.peglinden_words.specs.declared.request.Request.{Request}
use Rattle.peglinden_run.specs.declared.answer.Answer.{Answer}
use Rattle.peglinden_run.specs.declared.failure.Failure.{Failure}
use Rattle.peglinden_run.specs.declared.form.Form.TheVariants as forms
use Rattle.peglinden_run.specs.Forms.{form_of}
use Rattle.peglinden_run.specs.Naming.{names_input}
use Rattle.peglinden_run.specs.Requests.{IsAnswerTo, IsCauseTo}
use Rattle.peglinden_run.specs.Status.{message_of, output_of, status_of}

-- In all of this `held` says which bytes the file of a path may hold, and `may_fail` whether reading it may
-- fail. `old` is what stood on standard output before, and `new` what stands there now, if these bytes are
-- known. So are `old_errors` and `new_errors` on standard error.

-- the run has no answer
abbrev pub IsUnanswered : Status → Type 0
IsUnanswered s.Refused = Unit {0}
IsUnanswered s.Exhausted = Unit {0}
IsUnanswered _ = ⊥

-- the request asks for reports in words
abbrev pub IsInWords : Asked → Type 0
IsInWords wanted = form_of (reporting_of wanted) ≡ forms.Words

-- if words ask for something, it is in words
abbrev pub AsksForWords : Option Asked → Type 0
AsksForWords None = Unit {0}
AsksForWords (Some wanted) = IsInWords wanted

-- a text is appended, unless it is empty
abbrev pub AppendsAny : Option (List ℕ) → Option (List ℕ) → List ℕ → Type 0
AppendsAny old new text = (text ≡ []) ⊎ Appends old new text

-- a run that has its whole text ends so. The text is appended. Or the writer failed, or its flush did, and a
-- beginning of it is appended
abbrev pub IsTextWritten : List ℕ → Option (List ℕ) → Option (List ℕ) → Status → Type 0
IsTextWritten text old new s.Done = Appends old new text
IsTextWritten text old new s.NotWritten = IsBegun text old new
IsTextWritten text old new _ = ⊥

-- a run that has its whole answer ends so. The output is appended, and whether something is at fault decides.
-- Then a beginning of the reports is appended on standard error, and all of them unless that writer fails. Or
-- a beginning of the output is appended
abbrev pub IsWritten : Answer → Option (List ℕ) → Option (List ℕ) → Option (List ℕ) → Option (List ℕ) → Status
    → Type 0
IsWritten answer old new old_errors new_errors s.Done = (answer.has_faults ≡ false)
    × Appends old new (string_bytes answer.printed.output)
IsWritten answer old new old_errors new_errors s.Faults = (answer.has_faults ≡ true)
    × Appends old new (string_bytes answer.printed.output)
    × IsBegun (string_bytes answer.printed.errors) old_errors new_errors
IsWritten answer old new old_errors new_errors s.NotWritten = IsBegun (string_bytes answer.printed.output)
    old new
IsWritten answer old new old_errors new_errors _ = ⊥

-- the request has an answer, and a run that has it ends so
abbrev pub WritesAnswer : Request → (List ℕ → List ℕ → Type 0) → Option (List ℕ) → Option (List ℕ)
    → Option (List ℕ) → Option (List ℕ) → Status → Type 0
WritesAnswer request held old new old_errors new_errors status = (answer : Answer)
    × (IsAnswerTo request held answer × IsWritten answer old new old_errors new_errors status)

-- a run that has no answer for this cause ends so. What standard output is to say of it is appended there.
-- Then a beginning of what is reported is appended on standard error, and all of it unless that writer fails.
-- Or a beginning of what standard output is to say is appended
abbrev pub IsFailureWritten : Failure → Option (List ℕ) → Option (List ℕ) → Option (List ℕ) → Option (List ℕ)
    → Status → Type 0
IsFailureWritten failure old new old_errors new_errors s.NotWritten = IsBegun (output_of failure) old new
IsFailureWritten failure old new old_errors new_errors status = (status_of failure ≡ status)
    × AppendsAny old new (output_of failure) × IsBegun (message_of failure) old_errors new_errors

-- there is a cause for which the request has no answer, and a run that has none for this ends so
abbrev pub HasCause : Request → (List ℕ → List ℕ → Type 0) → (List ℕ → Type 0) → Option (List ℕ)
    → Option (List ℕ) → Option (List ℕ) → Option (List ℕ) → Status → Type 0
HasCause request held may_fail old new old_errors new_errors status = (failure : Failure)
    × (IsCauseTo request held may_fail failure
    × IsFailureWritten failure old new old_errors new_errors status)

-- a run on the request over these files may end so. There is a cause for which it has no answer, or its
-- answer is written. Either is written to its end or in part
abbrev pub MayEnd : Request → (List ℕ → List ℕ → Type 0) → (List ℕ → Type 0) → Option (List ℕ)
    → Option (List ℕ) → Option (List ℕ) → Option (List ℕ) → Status → Type 0
MayEnd request held may_fail old new old_errors new_errors s.Refused =
    HasCause request held may_fail old new old_errors new_errors s.Refused
MayEnd request held may_fail old new old_errors new_errors s.Exhausted =
    HasCause request held may_fail old new old_errors new_errors s.Exhausted
MayEnd request held may_fail old new old_errors new_errors s.NotWritten =
    WritesAnswer request held old new old_errors new_errors s.NotWritten
    ⊎ HasCause request held may_fail old new old_errors new_errors s.NotWritten
MayEnd request held may_fail old new old_errors new_errors status =
    WritesAnswer request held old new old_errors new_errors status

-- a run over the files and standard input may end so. Standard input gave these bytes, which it may hold. Or
-- it failed, which it may, and holds nothing. Or memory ran out while it was read, and it neither holds
-- anything nor fails
abbrev pub MayEndWithInput : Request → (List ℕ → Type 0) → Type 0 → (List ℕ → List ℕ → Type 0)
    → (List ℕ → Type 0) → Option (List ℕ) → Option (List ℕ) → Option (List ℕ) → Option (List ℕ) → Status
    → Type 0
MayEndWithInput request input_held input_may_fail held may_fail old new old_errors new_errors status =
    ((input : List ℕ)
    × (input_held input
    × MayEnd request (with_input (λ bytes. bytes ≡ input) held) (may_fail_with_input ⊥ may_fail) old new
    old_errors new_errors status))
    ⊎ ((input_may_fail
    × MayEnd request (with_input (λ bytes. ⊥) held) (may_fail_with_input (Unit {0}) may_fail) old new
    old_errors new_errors status)
    ⊎ MayEnd request (with_input (λ bytes. ⊥) held) (may_fail_with_input ⊥ may_fail) old new old_errors
    new_errors status)

-- a run may end so: with the flag the request names standard input, and else that is left as it was
abbrev pub EndsAs : {R : Type 0} → Bool → Request → (List ℕ → Type 0) → Type 0 → (List ℕ → List ℕ → Type 0)
    → (List ℕ → Type 0) → R → R → Option (List ℕ) → Option (List ℕ) → Option (List ℕ) → Option (List ℕ)
    → Status → Type 0
EndsAs false request input_held input_may_fail held may_fail reader reader_after old new old_errors new_errors
    status = MayEnd request held may_fail old new old_errors new_errors status × (reader_after ≡ reader)
EndsAs true request input_held input_may_fail held may_fail reader reader_after old new old_errors new_errors
    status = MayEndWithInput request input_held input_may_fail held may_fail old new old_errors new_errors
    status

-- a run on words that ask for nothing may end so. They call for help or for the version, and a text is
-- appended, or a beginning of it. Or they are a mistake. That memory ran out says nothing of them
abbrev pub IsUnasked : List Text → Option (List ℕ) → Option (List ℕ) → Status → Type 0
IsUnasked words old new s.Faults = ⊥
IsUnasked words old new s.Refused = (asked words ≡ None) × (are_mistaken words ≡ true)
IsUnasked words old new s.Exhausted = Unit {0}
IsUnasked words old new status = (asked words ≡ None) × (call_for_help words ≡ true)
    × ((text : List ℕ) × IsTextWritten text old new status)
