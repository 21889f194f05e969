use Rattle.std.proofs.Common.{ap, ◌∙◌}
use Rattle.std.proofs.lemmas.Map.Iter.{iter_end}
use Rattle.std.specs.Map.Iter.{deref}
use Rattle.apollo_component.specs.WriteOut.{identities}
use Rattle.apollo_types.proofs.write_out.identities_of.Goals as goal

pub returns : goal.returns
returns c =
    let l = c.loop-origin in
    let all = iter_end deref _ _ _ _ _ _ c.into_iter-origin-iterator.ensures.into_iter_gives l.yielded_by
    c.in-None.is c.next.ensures.steps in
    l.invariant ∙ ap identities all.0
