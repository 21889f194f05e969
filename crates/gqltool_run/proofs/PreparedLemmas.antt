-- What is ready to be said, and the answer that `walk` makes of it.
use Rattle.std.proofs.Common.{◌≡◌, ℕ, Bool, false, List, All, subst}
use Rattle.program_io.specs.Files.{HoldsSome}
use Rattle.apollo_compiler.specs.declared.compiled.Compiled.{Compiled}
use Rattle.bench_notation.specs.Line.{IsLine, lines_of}
use Rattle.gqltool_run.specs.declared.prepared.Prepared.{Prepared}
use Rattle.gqltool_run.specs.declared.prepared.Prepared.TheVariants as prepared
use Rattle.gqltool_run.specs.declared.task.Task.{Task}
use Rattle.gqltool_run.specs.declared.task.Task.TheVariants as tasks
use Rattle.gqltool_run.specs.Commands.{IsAnswerTo, IsPrintTo}
use Rattle.gqltool_run.specs.DocumentBuilding.{IsCompiledDivided}
use Rattle.gqltool_run.specs.Prepared.{AreLinesOf, IsReadyOf, IsReadyTo, has_fault}
use Rattle.gqltool_run.specs.Tasks.{AreWalkWords, Ask}
use Rattle.gqltool_run.proofs.AnswerLemmas.{faultless-first, faultless_print}
use Rattle.gqltool_run.specs.WalkCommand.{AreWalksText}
use Rattle.gqltool_run.proofs.BuiltLemmas.{document-answer}

-- what is ready for lines that were read is ready for the input
pub ready_to : (words : List (List ℕ)) (held : List ℕ → Type 0) (task : Task) (text : List ℕ)
    (ready : Prepared) → Ask words task → held text → All IsLine (lines_of text) → IsReadyOf task text ready
    → IsReadyTo words held ready
ready_to words held task text (prepared.Answer answer) asked is lines given = (
  (text, (is, (lines, (task, (asked, given))))),
  λ none. (task, (asked, faultless_print task text _ answer.has_faults given none)),
)
ready_to words held task text (prepared.Walks compiled) asked is lines given =
    (subst (Ask words) given.0 asked, (text, (is, (lines, given.1))))

-- what `walk` says of what an input is compiled to is its answer
pub walks_answer : (words : List (List ℕ)) (held : List ℕ → Type 0) (compiled : Compiled) (text : List ℕ)
    (has_faults : Bool) → AreWalkWords words
    → HoldsSome held (λ input. All IsLine (lines_of input) × IsCompiledDivided input compiled)
    → AreLinesOf compiled text → has_faults ≡ has_fault compiled
    → HoldsSome held (λ input. IsAnswerTo words input text has_faults)
walks_answer words held compiled text has_faults asked is lines any =
    let answer = document-answer {Says = λ _ document. AreWalksText document} {others = λ _ _. 0} is.0
    compiled is.1.1.1 text has_faults lines any in
    (is.0, (is.1.0, (is.1.1.0, (tasks.Walk, (asked, answer)))))

-- and where nothing is at fault, it is the walks over a document
pub walks_print : (words : List (List ℕ)) (compiled : Compiled) (text : List ℕ) → AreWalkWords words
    → AreLinesOf compiled text → has_fault compiled ≡ false → IsPrintTo words text
walks_print words compiled text asked lines none =
    let says = faultless-first {Says = AreWalksText compiled.document} compiled.schema_faults.items
    compiled.document_faults.items text lines none in
    (tasks.Walk, (asked, (compiled.document, says)))
