use Rattle.std.proofs.Common.{◌≡◌, false, IfOk, Result, Ok, Err, string_bytes, sym, inr, ◌∙◌}
use Rattle.std.proofs.lemmas.Bool.{true≢false}
use Rattle.std.proofs.lemmas.Result.{IfErr-weaker, IfOk-weaker}
use Rattle.bench_notation.specs.Line.{texts_of}
use Rattle.apollo_compiler.specs.declared.compile_error.CompileError.TheVariants as spent
use Rattle.program_io.specs.Files.{HoldsSome}
use Rattle.gqltool_run.specs.declared.answer.Answer.{Answer}
use Rattle.gqltool_run.specs.declared.failure.Failure.{Failure}
use Rattle.gqltool_run.specs.declared.failure.Failure.TheVariants as failures
use Rattle.gqltool_run.specs.declared.task.Task.TheVariants as tasks
use Rattle.gqltool_run.specs.Commands.{IsAnswerTo, IsPrintTo}
use Rattle.gqltool_run.specs.Prepared.{AreLinesOf, has_fault}
use Rattle.gqltool_run.specs.Runs.{IsCauseTo}
use Rattle.gqltool_run.proofs.EndLemmas.{no_error}
use Rattle.gqltool_run.proofs.PreparedLemmas.{walks_answer, walks_print}
use Rattle.gqltool_run.proofs.answering.answer_to.Goals as goal

both_ok : {T E : Type 0} (P Q : T → Type 0) (r : Result T E) → IfOk r P → IfOk r Q → IfOk r (λ x. P x × Q x)
both_ok P Q (Ok x) p q = (p, q)
both_ok P Q (Err e) p q = tt

pub returns-in-Ok-Answer-clause-means : goal.returns-in-Ok-Answer-clause-means
returns-in-Ok-Answer-clause-means g c = (rw c.in-Ok-Answer.field-0-is at c.in-Ok-Answer.ensures.ready).0

pub returns-in-Ok-Answer-clause-prints : goal.returns-in-Ok-Answer-clause-prints
returns-in-Ok-Answer-clause-prints g c = (rw c.in-Ok-Answer.field-0-is at c.in-Ok-Answer.ensures.ready).1

pub returns-in-Ok-Answer-clause-usage : goal.returns-in-Ok-Answer-clause-usage
returns-in-Ok-Answer-clause-usage g c = λ none. absurd (no_error ((c.in-Ok-Answer.ensures.usage none).0))

pub returns-in-Ok-Answer-clause-no_coordinate : goal.returns-in-Ok-Answer-clause-no_coordinate
returns-in-Ok-Answer-clause-no_coordinate g c =
    λ refused. absurd (true≢false (sym ((c.in-Ok-Answer.ensures.no_coordinate refused).0)))

pub returns-in-Ok-Walks-clause-means : goal.returns-in-Ok-Walks-clause-means
returns-in-Ok-Walks-clause-means g c =
    let words = texts_of c.args.words.now in
    let held = g.R.Input.holds c.args.reader.now in
    let compiled = c.in-Ok-Walks.compiled in
    let ready = rw c.in-Ok-Walks.field-0-is at c.in-Ok-Walks.ensures.ready in
    IfOk-weaker c.whole_walk_answer.result (λ (answer : Answer). AreLinesOf compiled
    (string_bytes answer.text) × (answer.has_faults ≡ has_fault compiled)) (λ (answer : Answer). HoldsSome
    held (λ input. IsAnswerTo words input (string_bytes answer.text) answer.has_faults))
    (λ answer is. walks_answer words held compiled _ answer.has_faults ready.0 ready.1 is.0 is.1)
    (both_ok _ _ c.whole_walk_answer.result c.whole_walk_answer.ensures.text
    c.whole_walk_answer.ensures.faults)

pub returns-in-Ok-Walks-clause-prints : goal.returns-in-Ok-Walks-clause-prints
returns-in-Ok-Walks-clause-prints g c =
    let words = texts_of c.args.words.now in
    let compiled = c.in-Ok-Walks.compiled in
    let ready = rw c.in-Ok-Walks.field-0-is at c.in-Ok-Walks.ensures.ready in
    IfOk-weaker c.whole_walk_answer.result (λ (answer : Answer). AreLinesOf compiled
    (string_bytes answer.text) × (answer.has_faults ≡ has_fault compiled))
    (λ (answer : Answer). answer.has_faults ≡ false → IsPrintTo words (string_bytes answer.text))
    (λ answer is none. walks_print words compiled _ ready.0 is.0 (sym is.1 ∙ none)) (both_ok _ _
    c.whole_walk_answer.result c.whole_walk_answer.ensures.text c.whole_walk_answer.ensures.faults)

pub returns-in-Ok-Walks-clause-causes : goal.returns-in-Ok-Walks-clause-causes
returns-in-Ok-Walks-clause-causes g c =
    let words = texts_of c.args.words.now in
    let held = g.R.Input.holds c.args.reader.now in
    let may_fail = g.R.Input.may_fail c.args.reader.now in
    let ready = rw c.in-Ok-Walks.field-0-is at c.in-Ok-Walks.ensures.ready in
    IfErr-weaker c.whole_walk_answer.result (λ (failure : Failure). failure ≡ failures.Exhausted spent.Memory)
    (IsCauseTo words held may_fail) (λ failure is. rw is (inr (tasks.Walk, (ready.0, tt))))
    c.whole_walk_answer.ensures.memory

pub returns-in-Ok-Walks-clause-usage : goal.returns-in-Ok-Walks-clause-usage
returns-in-Ok-Walks-clause-usage g c = λ none. absurd (no_error ((c.in-Ok-Walks.ensures.usage none).0))

pub returns-in-Ok-Walks-clause-no_coordinate : goal.returns-in-Ok-Walks-clause-no_coordinate
returns-in-Ok-Walks-clause-no_coordinate g c =
    λ refused. absurd (true≢false (sym ((c.in-Ok-Walks.ensures.no_coordinate refused).0)))
