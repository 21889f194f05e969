use Rattle.std.proofs.Common.{◌≡◌, ◌++◌, map}
use Rattle.graphql_ast.specs.declared.definition.Definition.TheVariants as d
use Rattle.apollo_executable.specs.Erasure.{at_place, erased_operation, erased_fragment}
use Rattle.apollo_executable.specs.Operations.{all_operations}
use Rattle.apollo_executable.proofs.document.ExecutableDocument.to_ast.Given as goal

abbrev pub invariant-loop-operation : goal.invariant-loop-operation
invariant-loop-operation l = l.definitions.items
    ≡ map (λ n. d.OperationDefinition (at_place erased_operation n)) (map (λ n. n.now) l.yielded)

abbrev pub invariant-loop-fragment : goal.invariant-loop-fragment
invariant-loop-fragment l = l.definitions.items
    ≡ map (λ n. d.OperationDefinition (at_place erased_operation n)) (all_operations l.self.operations)
    ++ map (λ n. d.FragmentDefinition (at_place erased_fragment n)) (map (λ n. n.now) l.yielded)
