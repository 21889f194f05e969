use Rattle.apollo_meaning.proofs.Prelude.{◌≡◌, ◌++◌, map, take, component}
use Rattle.apollo_folding.proofs.from_ast.folding.fold_directives.Given as goal

abbrev pub invariant-loop-directive : goal.invariant-loop-directive
invariant-loop-directive l = l.list.0 ≡ l.fn.list.0 ++ map (component l.origin)
    (take l.directive-index l.directives)
