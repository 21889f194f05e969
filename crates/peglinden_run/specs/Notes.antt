-- Answers with notes in front of what is reported.
use Rattle.std.specs.Prelude.{◌≡◌, ◌++◌, ℕ, Bool, true, false, List, [], string_bytes}
use Rattle.peglinden_run.specs.declared.answer.Answer.{Answer}

-- notes, where something is at fault, and else nothing
abbrev pub noted : Bool → List ℕ → List ℕ
noted true notes = notes
noted false notes = []

-- the answer is this bare one with notes in front of what that has on standard error, where something is at
-- fault
pub record IsNoted (notes : List ℕ) (bare answer : Answer) : Type 0 where
  pub output : string_bytes answer.printed.output ≡ string_bytes bare.printed.output
  pub errors : string_bytes answer.printed.errors
      ≡ noted bare.has_faults notes ++ string_bytes bare.printed.errors
  pub any : answer.has_faults ≡ bare.has_faults
