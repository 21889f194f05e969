use Rattle.apollo_component.proofs.Walks.{shows_in_order}
use Rattle.apollo_types.specs.SchemaRoots.{deref_root}
use Rattle.apollo_types.proofs.root_operations.RootOperations.new.Goals as goal

pub returns-clause-runs : goal.returns-clause-runs
returns-clause-runs c = shows_in_order deref_root
