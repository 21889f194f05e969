use Rattle.std.proofs.Common.{All, inl, inr, sym, subst}
use Rattle.std.proofs.lemmas.Result.{IfErr-weaker, IfOk-weaker, err_from_is_err_and}
use Rattle.bench_notation.specs.Line.{IsLine, lines_of, texts_of}
use Rattle.gqltool_run.specs.Commands.{IsCauseOf}
use Rattle.gqltool_run.specs.Prepared.{IsReadyOf, IsReadyTo}
use Rattle.gqltool_run.specs.Runs.{IsCauseTo}
use Rattle.gqltool_run.proofs.AnswerLemmas.{asked_apart}
use Rattle.gqltool_run.proofs.EndLemmas.{both_ok, cause_over, input_cause}
use Rattle.gqltool_run.proofs.PreparedLemmas.{ready_to}
use Rattle.gqltool_run.proofs.answering.prepare.Goals as goal

pub returns-in_err-task-clause-causes : goal.returns-in_err-task-clause-causes
returns-in_err-task-clause-causes g c =
    let exit = err_from_is_err_and c.from_residual.result c.from_residual.ensures.1 in
    rw (exit.1, exit.2) (inl c.in_err-task.ensures.refused)

pub returns-in_err-input-clause-causes : goal.returns-in_err-input-clause-causes
returns-in_err-input-clause-causes g c =
    let exit = err_from_is_err_and c.from_residual-in_err-input.result
    c.from_residual-in_err-input.ensures.1 in
    let task = c.in_ok-task.task in
    let held = g.R.Input.holds c.args.reader.now in
    let cause = input_cause task held (g.R.Input.may_fail c.args.reader.now) c.in_err-input.field-0.0
    c.in_err-input.ensures.causes in
    rw (exit.1, exit.2) (inr (task, (c.in_ok-task.ensures.asked, cause)))

pub returns-clause-ready : goal.returns-clause-ready
returns-clause-ready g c =
    let words = texts_of c.args.words.now in
    let task = c.in_ok-task.task in
    let text = c.as_str.result.now in
    let held = g.R.Input.holds c.args.reader.now in
    let is = subst held (sym c.as_str.ensures.value) c.in_ok-input.ensures.text in
    let lines = All IsLine (lines_of text) in
    IfOk-weaker c.prepare_task.result (λ ready. lines × IsReadyOf task text ready) (IsReadyTo words held)
    (λ ready given. ready_to words held task text ready c.in_ok-task.ensures.asked is given.0 given.1)
    (both_ok lines _ c.prepare_task.result c.prepare_task.ensures.read c.prepare_task.ensures.ready)

pub returns-clause-causes : goal.returns-clause-causes
returns-clause-causes g c =
    let words = texts_of c.args.words.now in
    let task = c.in_ok-task.task in
    let text = c.as_str.result.now in
    let held = g.R.Input.holds c.args.reader.now in
    let may_fail = g.R.Input.may_fail c.args.reader.now in
    let is = subst held (sym c.as_str.ensures.value) c.in_ok-input.ensures.text in
    IfErr-weaker c.prepare_task.result (IsCauseOf task text) (IsCauseTo words held may_fail)
    (λ failure cause. inr
    (task, (c.in_ok-task.ensures.asked, cause_over task held may_fail text failure is cause)))
    c.prepare_task.ensures.causes

-- where something is asked, no text is refused
pub returns-in_err-input-clause-no_coordinate : goal.returns-in_err-input-clause-no_coordinate
returns-in_err-input-clause-no_coordinate g c = λ refused. absurd (asked_apart c.coordinates.ensures.said _
    c.in_ok-task.task c.in_ok-task.ensures.asked refused)

pub returns-clause-no_coordinate : goal.returns-clause-no_coordinate
returns-clause-no_coordinate g c = λ refused. absurd (asked_apart c.coordinates.ensures.said _
    c.in_ok-task.task c.in_ok-task.ensures.asked refused)
