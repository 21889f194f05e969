-- What comes of calls.
use Rattle.std.specs.Prelude.{◌≡◌, ◌⊎◌, ℕ, Bool, true, false, List, Option, None, Some, Result, Ok}
use Rattle.std.specs.Prelude.{Err, string_bytes}
use Rattle.program_io.specs.declared.status.Status.{Status}
use Rattle.program_io.specs.declared.status.Status.TheVariants as s
use Rattle.peglinden_words.specs.declared.request.Request.{Request}
use Rattle.peglinden_run.specs.Requests.{IsAnswerTo, IsCauseTo}
use Rattle.peglinden_run.specs.Status.{message_of, output_of, status_of}
use Rattle.peglinden_run.specs.declared.answer.Answer.{Answer}
use Rattle.peglinden_run.specs.declared.failure.Failure.{Failure}
use Rattle.peglinden_c.specs.declared.answered.Answered.{Answered}
use Rattle.peglinden_c.specs.declared.refusal.Refusal.{Refusal}
use Rattle.peglinden_c.specs.declared.refusal.Refusal.TheVariants as refusals

-- In all of this `text_of` is the text of the file of a path, if there is one.

-- the file of a path has these bytes
abbrev pub Holds : (List ℕ → Option (List ℕ)) → List ℕ → List ℕ → Type 0
Holds text_of path bytes = text_of path ≡ Some bytes

-- there is no file of a path
abbrev pub Lacks : (List ℕ → Option (List ℕ)) → List ℕ → Type 0
Lacks text_of path = text_of path ≡ None

-- how the program exits, by whether something is at fault
abbrev pub answer_status : Bool → Status
answer_status true = s.Faults
answer_status false = s.Done

-- what is kept is an answer: what the program prints, and how it exits
abbrev pub KeepsAnswer : Answer → Answered → Type 0
KeepsAnswer answer kept = (kept.printed ≡ answer.printed) × (kept.status ≡ answer_status answer.has_faults)

-- what is kept says why files or a coordinate are refused: what the program prints of that
abbrev pub KeepsRefusal : Failure → Answered → Type 0
KeepsRefusal failure kept = (string_bytes kept.printed.output ≡ output_of failure)
    × (string_bytes kept.printed.errors ≡ message_of failure) × (kept.status ≡ s.Refused)
    × (status_of failure ≡ s.Refused)

-- what is kept is the answer to a request over these files, or says why they are refused
abbrev pub ComesOf : Request → (List ℕ → Option (List ℕ)) → Answered → Type 0
ComesOf request text_of kept =
    ((answer : Answer) × (IsAnswerTo request (Holds text_of) answer × KeepsAnswer answer kept))
    ⊎ ((failure : Failure)
    × (IsCauseTo request (Holds text_of) (Lacks text_of) failure × KeepsRefusal failure kept))

-- what is kept comes of a request that this is said of
pub record IsAnswered (IsAsked : Request → Type 0) (text_of : List ℕ → Option (List ℕ))
    (kept : Answered) : Type 0 where
  pub request : Request
  pub is_asked : IsAsked request
  pub comes : ComesOf request text_of kept

-- what comes of a call is right, and the call may be made. Or it may not, or something ran out
abbrev pub IsMade : (Answered → Type 0) → Type 0 → Result Answered Refusal → Type 0
IsMade IsRight MayBeMade (Ok kept) = IsRight kept × MayBeMade
IsMade IsRight MayBeMade (Err refusals.Improper) = ¬ MayBeMade
IsMade IsRight MayBeMade (Err refusals.Exhausted) = Unit {0}
