use Rattle.std.proofs.Common.{◌≡◌, List, ◌++◌, map}
use Rattle.apollo_component.specs.WriteOut.{SourcedPart, by_origin}
use Rattle.apollo_types.specs.Components.{of_root}
use Rattle.apollo_types.specs.SchemaRoots.{deref_root}
use Rattle.apollo_types.proofs.components.add_roots.Given as goal

abbrev pub invariant-loop-operation_type : goal.invariant-loop-operation_type
invariant-loop-operation_type l = (cs : List SourcedPart) → l.fn.parts ≡ by_origin cs
    → l.parts ≡ by_origin (cs ++ map of_root (map deref_root l.yielded))
