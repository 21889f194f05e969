use Rattle.std.proofs.Common.{inl, inr}
use Rattle.peglinden_run.proofs.running.run_writing.Goals as goal

pub returns-in-Ok-clause-ends : goal.returns-in-Ok-clause-ends
returns-in-Ok-clause-ends g c =
    let means = rw c.as_slice-paths.ensures.value at c.in-Ok.ensures.means in
    inl (c.in-Ok.written, (means, c.end_with_answer.ensures.written))

pub returns-in-Err-clause-ends : goal.returns-in-Err-clause-ends
returns-in-Err-clause-ends g c =
    let causes = rw c.as_slice-paths.ensures.value at c.in-Err.ensures.causes in
    inr (c.in-Err.refused, (causes, c.end_with_failure.ensures.written))
