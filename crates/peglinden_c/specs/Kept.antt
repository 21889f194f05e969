-- What handles hold, and what calls do to them.
use Rattle.std.specs.Prelude.{◌≡◌, ◌⊎◌, ℕ, ℤ, pos, List, Option, None, Some, Result, Ok, Err, string_bytes}
use Rattle.program_io.specs.Status.{exit_code}
use Rattle.program_io.specs.declared.status.Status.{Status}
use Rattle.program_io.specs.declared.status.Status.TheVariants as s
use Rattle.peglinden_c.specs.declared.answered.Answered.{Answered}
use Rattle.peglinden_c.specs.declared.held.Held.{Held}
use Rattle.peglinden_c.specs.declared.held.Held.TheVariants as held
use Rattle.peglinden_c.specs.declared.refusal.Refusal.{Refusal}
use Rattle.peglinden_c.specs.declared.refusal.Refusal.TheVariants as refusals

-- what a call says that opened an answer: 0 where nothing is at fault, and else 1
abbrev pub said_of : Status → ℤ
said_of s.Done = pos 0
said_of _ = pos 1

-- what a call says that opened none: 3 where something ran out, and 6 where it may not be made so
abbrev pub said_of_refusal : Refusal → ℤ
said_of_refusal refusals.Exhausted = pos 3
said_of_refusal refusals.Improper = pos 6

-- a call that says this opened an answer
abbrev pub IsOpening : ℤ → Type 0
IsOpening said = (said ≡ pos 0) ⊎ (said ≡ pos 1)

-- a handle holds an answer of which this is said, and the call says so much of it
abbrev pub HoldsAnswer : (Answered → Type 0) → ℤ → Option Held → Type 0
HoldsAnswer IsRight said (Some (held.Answer kept)) = IsRight kept × (said ≡ said_of kept.status)
HoldsAnswer IsRight said None = ⊥

-- what comes of a call was put behind a handle, which held this before, and holds that now. Where nothing
-- came of it, or there is no room for the handle, that is the same
abbrev pub IsPut : Result Answered Refusal → ℤ → Option Held → Option Held → Type 0
IsPut (Ok kept) said old new = ((said ≡ said_of kept.status) × (new ≡ Some (held.Answer kept)))
    ⊎ ((said ≡ pos 3) × (new ≡ old))
IsPut (Err why) said old new = (said ≡ said_of_refusal why) × (new ≡ old)

-- a call says this, and its handle held this before, and holds that now
pub record IsCall (IsRight : Answered → Type 0) (MayBeMade : Type 0) (said : ℤ)
    (old new : Option Held) : Type 0 where
  -- after 0 and 1 the handle holds what the call is for, and 0 says that nothing is at fault
  pub opened : IsOpening said → HoldsAnswer IsRight said new
  -- after anything else it holds what it held
  pub kept : (IsOpening said → ⊥) → new ≡ old
  -- a call that opened an answer may be made so
  pub proper : IsOpening said → MayBeMade
  -- 6 says that it may not
  pub improper : said ≡ pos 6 → MayBeMade → ⊥
  -- the call says 0, 1, 3 or 6
  pub known : IsOpening said ⊎ ((said ≡ pos 3) ⊎ (said ≡ pos 6))

-- the status with which the program would exit, of what is held; 6 where nothing is
abbrev pub status_said : Option Held → ℤ
status_said (Some (held.Answer kept)) = pos (exit_code kept.status)
status_said None = pos 6

-- what the program would write on standard output, of what is held
abbrev pub output_held : Held → List ℕ
output_held (held.Answer kept) = string_bytes kept.printed.output

-- what the program would write on standard error, of what is held
abbrev pub errors_held : Held → List ℕ
errors_held (held.Answer kept) = string_bytes kept.printed.errors
