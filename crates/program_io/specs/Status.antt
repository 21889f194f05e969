-- How a run ends.
use Rattle.std.specs.Prelude.{ℕ}
use Rattle.program_io.specs.declared.status.Status.{Status}
use Rattle.program_io.specs.declared.status.Status.TheVariants as s

-- the exit status
abbrev pub exit_code : Status → ℕ
exit_code s.Done = 0
exit_code s.Faults = 1
exit_code s.Refused = 2
exit_code s.Exhausted = 3
exit_code s.NotWritten = 4
