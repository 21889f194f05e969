use Rattle.std.proofs.Common.{◌≡◌, List, ◌++◌, map, take}
use Rattle.apollo_component.specs.WriteOut.{SourcedPart, sourced, by_origin}
use Rattle.apollo_component.proofs.parts_by_origin.PartsByOrigin.add_components.Given as goal

abbrev pub invariant-loop-component : goal.invariant-loop-component
invariant-loop-component g l = (cs : List SourcedPart) → l.fn.self ≡ by_origin cs
    → l.self ≡ by_origin (cs ++ map (sourced g.bound-1.part) (take l.component-index l.components))
