-- How a run ends whose request has no answer, and what it reports.
use Rattle.std.specs.Prelude.{ℕ, List, [], codes, string_bytes}
use Rattle.apollo_compiler.specs.declared.compile_error.CompileError.TheVariants as e
use Rattle.program_io.specs.declared.status.Status.{Status}
use Rattle.program_io.specs.declared.status.Status.TheVariants as s
use Rattle.peglinden_run.specs.declared.failure.Failure.{Failure}
use Rattle.peglinden_run.specs.declared.failure.Failure.TheVariants as f

-- how a run ends whose request has no answer
abbrev pub status_of : Failure → Status
status_of (f.Files printed) = s.Refused
status_of (f.NoCoordinate sentence) = s.Refused
status_of (f.Exhausted error) = s.Exhausted

-- what is written on standard output then
abbrev pub output_of : Failure → List ℕ
output_of (f.Files printed) = string_bytes printed.output
output_of (f.NoCoordinate sentence) = []
output_of (f.Exhausted error) = []

-- what is reported then
abbrev pub message_of : Failure → List ℕ
message_of (f.Files printed) = string_bytes printed.errors
message_of (f.NoCoordinate sentence) = string_bytes sentence
message_of (f.Exhausted e.Memory) = codes "error: out of memory\n"
message_of (f.Exhausted e.ExtensionIds) = codes "error: extension identities spent\n"
