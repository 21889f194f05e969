use Rattle.peglinden_c.proofs.CallLemmas.{comes_of_answer, comes_of_failure}
use Rattle.peglinden_c.proofs.answered.what_comes.Goals as goal

pub returns-in-Ok : goal.returns-in-Ok
returns-in-Ok c = comes_of_answer _ _ c.in-Ok.answer c.kept_answer.result c.in-Ok.ensures.means
    c.kept_answer.ensures

pub returns-in-Err : goal.returns-in-Err
returns-in-Err c = comes_of_failure _ _ c.in-Err.failure c.kept_refusal.result c.in-Err.ensures.causes
    c.kept_refusal.ensures
