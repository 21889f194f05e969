use Rattle.peglinden_run.proofs.RunLemmas.{nothing-begun}
use Rattle.peglinden_run.proofs.running.write_note.Goals as goal

pub returns-else-not-is_empty-clause-written : goal.returns-else-not-is_empty-clause-written
returns-else-not-is_empty-clause-written g c = nothing-begun _ _
