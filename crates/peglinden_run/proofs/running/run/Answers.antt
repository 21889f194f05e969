use Rattle.std.proofs.Common.{inl, inr, refl}
use Rattle.peglinden_run.proofs.RunLemmas.{exhausted-not-done, help_written}
use Rattle.peglinden_run.proofs.running.run.Goals as goal

pub returns-in-Ok-clause-run : goal.returns-in-Ok-clause-run
returns-in-Ok-clause-run g c = inl (_, (c.in-Ok.ensures.asked, c.run_task.ensures.ends))

pub returns-in-Err-Help-clause-run : goal.returns-in-Err-Help-clause-run
returns-in-Err-Help-clause-run g c =
    let called = rw c.in-Err-Help.field-0-is at c.in-Err-Help.ensures.refused in
    inr (
      help_written _ _ _ _ c.end_with_help.result called c.end_with_help.ensures.written,
      refl,
      refl,
      c.end_with_help.ensures.quiet,
    )

pub returns-in-Err-Memory-clause-run : goal.returns-in-Err-Memory-clause-run
returns-in-Err-Memory-clause-run g c =
    let ends = c.end_without_memory.ensures.ends in
    inr (rw ends tt, refl, refl, exhausted-not-done c.end_without_memory.result ends)
