use Rattle.peglinden_run.proofs.field_lines.usage_line.Goals as goal

pub returns : goal.returns
returns g c = rw (← c.name.ensures, ← c.operation_name-name.ensures) c.placed_line.ensures
