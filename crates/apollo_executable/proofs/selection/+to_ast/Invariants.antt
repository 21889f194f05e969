use Rattle.std.proofs.Common.{◌≡◌, map}
use Rattle.apollo_executable.specs.Erasure.{erased}
use Rattle.apollo_executable.proofs.selection.+to_ast.Given as goal

abbrev pub invariant-SelectionSet::to_ast-loop-selection : goal.invariant-SelectionSet::to_ast-loop-selection
invariant-SelectionSet::to_ast-loop-selection l = l.written.items ≡ map erased (map (λ s. s.now) l.yielded)
