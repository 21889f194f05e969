use Rattle.std.proofs.Common.{◌++◌, map, ap, ◌∙◌}
use Rattle.std.proofs.lemmas.Map.Iter.{iter_end}
use Rattle.apollo_component.specs.WriteOut.{by_origin}
use Rattle.apollo_types.specs.Components.{of_root}
use Rattle.apollo_types.specs.SchemaRoots.{deref_root}
use Rattle.apollo_types.proofs.components.add_roots.Goals as goal

pub returns : goal.returns
returns c = λ cs was.
    let l = c.loop-operation_type in
    let all = iter_end deref_root _ _ _ _ _ _ c.into_iter-operation_type-iterator.ensures.into_iter_gives
    l.yielded_by c.in-None.is c.next.ensures.steps in
    l.invariant cs was ∙ ap (λ rs. by_origin (cs ++ map of_root rs)) all.0
