use Rattle.peglinden_run.proofs.lines.unwritten_line.Goals as goal

pub returns : goal.returns
returns c = rw (← c.numbers-line.ensures.line, ← c.numbers-line.ensures.column) c.object_line.ensures
