use Rattle.std.specs.Map.Iter.{deref}
use Rattle.apollo_component.proofs.Walks.{shows_in_order}
use Rattle.apollo_executable.proofs.fields.Fields.new.Goals as goal

pub returns-clause-runs : goal.returns-clause-runs
returns-clause-runs c = shows_in_order deref
