use Rattle.std.proofs.Common.{◌≡◌, List, ◌++◌, map, take}
use Rattle.apollo_component.specs.WriteOut.{SourcedPart, sourced_name, by_origin}
use Rattle.apollo_component.proofs.parts_by_origin.PartsByOrigin.add_names.Given as goal

abbrev pub invariant-loop-name : goal.invariant-loop-name
invariant-loop-name l = (cs : List SourcedPart) → l.fn.self ≡ by_origin cs
    → l.self ≡ by_origin (cs ++ map sourced_name (take l.name-index l.names))
