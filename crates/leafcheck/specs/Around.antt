-- The path of what is around a selection set: GraphQL specification of October 2021, sections 2.3 to 2.8.
use Rattle.apollo_document.specs.SelectionFaults.{inside}
use Rattle.apollo_document.specs.declared.selection_path.SelectionPath.{SelectionPath}
use Rattle.leafcheck.specs.Roots.{operation_path, fragment_path}
use Rattle.leafcheck.specs.declared.around.Around as declared
use Rattle.leafcheck.specs.declared.around.Around.TheOpen.{Around-F}
use Rattle.leafcheck.specs.declared.around.Around.TheFolds.{fold-Around}

-- one level: the definition's own path, or one that is longer by the key of a field
abbrev pub path_step : Around-F SelectionPath → SelectionPath
path_step (Around-F.Operation operation) = operation_path operation.now
path_step (Around-F.Fragment fragment) = fragment_path fragment.now
path_step (Around-F.Field key outer) = inside outer.now key.now

-- the path
abbrev pub path_of : declared.Around → SelectionPath
path_of = fold-Around SelectionPath path_step
