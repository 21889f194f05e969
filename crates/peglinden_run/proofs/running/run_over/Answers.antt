use Rattle.peglinden_run.proofs.RunLemmas.{cause_in_words, with_answer, without_answer}
use Rattle.peglinden_run.proofs.running.run_over.Goals as goal

pub returns-in-Ok-clause-ends : goal.returns-in-Ok-clause-ends
returns-in-Ok-clause-ends g c = with_answer _ _ _ _ _ _ _ c.in-Ok.answer c.end_with_answer.result
    c.in-Ok.ensures.means c.end_with_answer.ensures.written

pub returns-in-Err-clause-ends : goal.returns-in-Err-clause-ends
returns-in-Err-clause-ends g c = without_answer _ _ _ _ _ _ _ c.in-Err.failure c.end_with_failure.result
    c.in-Err.ensures.causes c.end_with_failure.ensures.written

pub returns-in-Err-clause-unanswered : goal.returns-in-Err-clause-unanswered
returns-in-Err-clause-unanswered g c = λ unanswered words. c.end_with_failure.ensures.unwritten
    (cause_in_words c.args.request.now _ _ c.in-Err.failure c.in-Err.ensures.causes words)
