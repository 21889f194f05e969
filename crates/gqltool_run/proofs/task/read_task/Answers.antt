use Rattle.bench_notation.specs.Line.{texts_of}
use Rattle.gqltool_run.proofs.AnswerLemmas.{asked_command}
use Rattle.gqltool_run.proofs.task.read_task.Goals as goal

pub returns-in-Some-clause-usage : goal.returns-in-Some-clause-usage
returns-in-Some-clause-usage c = λ none. absurd (asked_command (texts_of c.args.words.now) c.in-Some.task
    c.in-Some.ensures none)
