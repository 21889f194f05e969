-- What is ready to be said.
use Rattle.std.specs.Prelude.{◌≡◌, ℕ, Bool, false, List, All, string_bytes}
use Rattle.program_io.specs.Files.{HoldsSome}
use Rattle.apollo_compiler.specs.declared.compiled.Compiled.{Compiled}
use Rattle.bench_notation.specs.Line.{IsLine, lines_of}
use Rattle.gqltool_run.specs.declared.prepared.Prepared.{Prepared}
use Rattle.gqltool_run.specs.declared.prepared.Prepared.TheVariants as prepared
use Rattle.gqltool_run.specs.declared.task.Task.{Task}
use Rattle.gqltool_run.specs.declared.task.Task.TheVariants as tasks
use Rattle.gqltool_run.specs.Commands.{IsAnswerOf, IsAnswerTo, IsPrintTo}
use Rattle.gqltool_run.specs.DocumentAnswers.{WithFaultLines, any_fault}
use Rattle.gqltool_run.specs.DocumentBuilding.{IsCompiledDivided}
use Rattle.gqltool_run.specs.Tasks.{AreWalkWords}
use Rattle.gqltool_run.specs.WalkCommand.{AreWalksText}

-- the text is what `walk` says of this, with faults or without
abbrev pub AreLinesOf : Compiled → List ℕ → Type 0
AreLinesOf compiled = WithFaultLines (AreWalksText compiled.document) compiled.schema_faults.items
    compiled.document_faults.items

-- whether the schema or the document has a fault
abbrev pub has_fault : Compiled → Bool
has_fault compiled = any_fault compiled.schema_faults.items compiled.document_faults.items

-- this is ready for what was asked and an input: the answer, or what `walk` says its answer of
abbrev pub IsReadyOf : Task → List ℕ → Prepared → Type 0
IsReadyOf task input (prepared.Answer answer) =
    IsAnswerOf task input (string_bytes answer.text) answer.has_faults
IsReadyOf task input (prepared.Walks compiled) = (task ≡ tasks.Walk) × IsCompiledDivided input compiled

-- this is ready for these words and an input, where `held` says which bytes that may hold
abbrev pub IsReadyTo : List (List ℕ) → (List ℕ → Type 0) → Prepared → Type 0
IsReadyTo words held (prepared.Answer answer) =
    HoldsSome held (λ input. IsAnswerTo words input (string_bytes answer.text) answer.has_faults)
    × (answer.has_faults ≡ false → IsPrintTo words (string_bytes answer.text))
IsReadyTo words held (prepared.Walks compiled) = AreWalkWords words
    × HoldsSome held (λ input. All IsLine (lines_of input) × IsCompiledDivided input compiled)
