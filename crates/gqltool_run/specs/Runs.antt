-- How a run ends.
use Rattle.std.specs.Prelude.{◌≡◌, ◌⊎◌, ℕ, Bool, true, false, List, Option}
use Rattle.std.specs.Io.KnownBytes.{Appends}
use Rattle.apollo_compiler.specs.declared.compile_error.CompileError.TheVariants as spent
use Rattle.program_io.specs.Files.{CannotBeRead, HoldsSome}
use Rattle.program_io.specs.Writing.{IsBegun}
use Rattle.program_io.specs.declared.status.Status.{Status}
use Rattle.program_io.specs.declared.status.Status.TheVariants as s
use Rattle.gqltool_run.specs.declared.failure.Failure.{Failure}
use Rattle.gqltool_run.specs.declared.failure.Failure.TheVariants as failures
use Rattle.gqltool_run.specs.declared.task.Task.{Task}
use Rattle.gqltool_run.specs.Commands.{AppendAnswer, AppendBeginning, AppendPrint, IsCauseOf}
use Rattle.gqltool_run.specs.Status.{Writes, status_of}
use Rattle.gqltool_run.specs.Tasks.{AreNoCommand, AreWalkWords, Ask, AskNoCoordinate, IsRefusalOf}

-- In all of this `held` says which bytes an input may hold, and `may_fail` whether reading it may fail.

-- why there is no answer to what was asked and an input. The input can't be read, or what was read has none.
-- That memory ran out says nothing of the input
abbrev pub IsCauseOver : Task → (List ℕ → Type 0) → Type 0 → Failure → Type 0
IsCauseOver task held may_fail failures.CannotRead = CannotBeRead held may_fail
IsCauseOver task held may_fail (failures.Exhausted spent.Memory) = Unit {0}
IsCauseOver task held may_fail failure = HoldsSome held (λ input. IsCauseOf task input failure)

-- why there is no answer to these words and an input: the words are refused, or there is none to what they
-- ask for
abbrev pub IsCauseTo : List (List ℕ) → (List ℕ → Type 0) → Type 0 → Failure → Type 0
IsCauseTo words held may_fail failure = IsRefusalOf words failure
    ⊎ ((task : Task) × (Ask words task × IsCauseOver task held may_fail failure))

-- there is such a cause, and it ends a run so
abbrev pub HaveCause : List (List ℕ) → (List ℕ → Type 0) → Type 0 → Status → Type 0
HaveCause words held may_fail status = (failure : Failure)
    × ((status_of failure ≡ status) × IsCauseTo words held may_fail failure)

-- a run that has its whole answer ends so. The text is appended, and whether there are faults decides. Or the
-- writer failed, or its flush did, and a beginning of the text is appended
abbrev pub IsWritten : List ℕ → Bool → Option (List ℕ) → Option (List ℕ) → Status → Type 0
IsWritten text has_faults old new s.Done = (has_faults ≡ false) × Appends old new text
IsWritten text has_faults old new s.Faults = (has_faults ≡ true) × Appends old new text
IsWritten text has_faults old new s.NotWritten = IsBegun text old new
IsWritten text has_faults old new _ = ⊥

-- a run whose answer goes out while it is made ends so: memory may run out too, where a beginning is written
abbrev pub IsSentOut : List ℕ → Bool → Option (List ℕ) → Option (List ℕ) → Status → Type 0
IsSentOut text has_faults old new s.Exhausted = IsBegun text old new
IsSentOut text has_faults old new status = IsWritten text has_faults old new status

-- a run on these words and an input may end so. What it writes is their answer, or a beginning of it. Or
-- there is a cause for which there is no answer
abbrev pub MayEnd : List (List ℕ) → (List ℕ → Type 0) → Type 0 → Option (List ℕ) → Option (List ℕ) → Status
    → Type 0
MayEnd words held may_fail old new s.Done = HoldsSome held (AppendAnswer words false old new)
    × AppendPrint words old new
MayEnd words held may_fail old new s.Faults = HoldsSome held (AppendAnswer words true old new)
MayEnd words held may_fail old new s.Refused = HaveCause words held may_fail s.Refused
MayEnd words held may_fail old new s.Exhausted = HaveCause words held may_fail s.Exhausted
MayEnd words held may_fail old new s.NotWritten = HoldsSome held (AppendBeginning words old new)

-- a run on these words and an input that ended so, with its reader and its writers before it and after it
pub record IsRun {R O E : Type 0} (words : List (List ℕ)) (held : List ℕ
    → Type 0) (may_fail : Type 0) (contents : O
    → Option (List ℕ)) (reader reader_after : R) (output output_after : O) (errors errors_after : E)
    (status : Status) : Type 0 where
  -- what it wrote, and how it ended, is as it may be
  pub ends : MayEnd words held may_fail (contents output) (contents output_after) status
  -- where it was refused it wrote nothing
  pub refused : status ≡ s.Refused → output_after ≡ output
  -- where memory or numbers ran out it wrote nothing either, unless it was `walk`
  pub exhausted : status ≡ s.Exhausted → ¬ AreWalkWords words → output_after ≡ output
  -- the answer of `walk` goes out while it is made: a beginning may be out where memory runs out
  pub begun : status ≡ s.Exhausted → (output_after ≡ output)
      ⊎ HoldsSome held (AppendBeginning words (contents output) (contents output_after))
  -- where its answer is written whole, nothing else is reported
  pub quiet : Writes status → errors_after ≡ errors
  -- words that are no command are refused before anything is read
  pub usage : AreNoCommand words → (status ≡ s.Refused) × (reader_after ≡ reader)
  -- a text of no coordinate is refused before anything is read, unless memory runs out
  pub no_coordinate : AskNoCoordinate words → ((status ≡ s.Refused) ⊎ (status ≡ s.Exhausted))
      × (reader_after ≡ reader)
