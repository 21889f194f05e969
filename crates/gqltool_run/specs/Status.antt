-- How a run ends.
use Rattle.program_io.specs.declared.file_error.FileError.{FileError}
use Rattle.program_io.specs.declared.file_error.FileError.TheVariants as i
use Rattle.program_io.specs.declared.status.Status.{Status}
use Rattle.program_io.specs.declared.status.Status.TheVariants as s
use Rattle.gqltool_run.specs.declared.failure.Failure.{Failure}
use Rattle.gqltool_run.specs.declared.failure.Failure.TheVariants as f
use Rattle.apollo_compiler.specs.declared.compile_error.CompileError.TheVariants as e
use Rattle.bench_notation.specs.declared.refusal.ReadError.{ReadError}
use Rattle.bench_notation.specs.declared.refusal.ReadError.TheVariants as r

-- all of the output is written
abbrev pub Writes : Status → Type 0
Writes s.Done = Unit {0}
Writes s.Faults = Unit {0}
Writes _ = ⊥

-- how a run ends that has nothing to write
abbrev pub status_of : Failure → Status
status_of f.Usage = s.Refused
status_of (f.NoCoordinate error) = s.Refused
status_of f.CannotRead = s.Refused
status_of (f.RefusedLine refused) = s.Refused
status_of f.NoDivision = s.Refused
status_of (f.Exhausted error) = s.Exhausted

-- why a run has nothing to write whose input was not read
abbrev pub failure_of_read : ReadError → Failure
failure_of_read (r.Refused line) = f.RefusedLine line
failure_of_read r.NoDivision = f.NoDivision
failure_of_read r.Memory = f.Exhausted e.Memory

-- why a run has nothing to write whose input could not be had
abbrev pub failure_of_input : FileError → Failure
failure_of_input (i.CannotRead error) = f.CannotRead
failure_of_input i.NotText = f.CannotRead
failure_of_input i.Memory = f.Exhausted e.Memory
