use Rattle.std.proofs.Common.{inl}
use Rattle.peglinden_run.proofs.running.run_task.Goals as goal

pub returns-clause-ends : goal.returns-clause-ends
returns-clause-ends g c = inl (record {
  names = c.in-Ok.names;
  are = c.in-Ok.ensures;
  named = c.in-Ok-named_task.named;
  is = c.in-Ok-named_task.ensures;
  ends = c.run_named.ensures.ends;
})
