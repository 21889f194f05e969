use Rattle.std.proofs.Common.{◌≡◌, map}
use Rattle.std.specs.Map.Iter.{deref}
use Rattle.apollo_component.specs.WriteOut.{identities}
use Rattle.apollo_types.proofs.write_out.identities_of.Given as goal

abbrev pub invariant-loop-origin : goal.invariant-loop-origin
invariant-loop-origin l = l.ids ≡ identities (map deref l.yielded)
