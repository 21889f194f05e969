use Rattle.std.proofs.Common.{rules}
use Rattle.apollo_executable.proofs.selection.SelectionSet.new_field.Goals as goal

pub returns-clause-ok : goal.returns-clause-ok
returns-clause-ok c = (c.in_ok-type_field.field-0.now, search rules, search rules)
