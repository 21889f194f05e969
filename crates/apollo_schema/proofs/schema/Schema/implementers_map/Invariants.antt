use Rattle.apollo_meaning.proofs.Prelude.{◌≡◌, map}
use Rattle.std.specs.Map.Iter.{deref_pair}
use Rattle.apollo_schema.specs.Implementers.{implementers_map}
use Rattle.apollo_schema.proofs.schema.Schema.implementers_map.Given as goal

abbrev pub invariant-loop-name : goal.invariant-loop-name
invariant-loop-name l = l.map ≡ implementers_map (map deref_pair l.yielded)
