use Rattle.std.proofs.Common.{◌≡◌, map}
use Rattle.std.specs.Map.Iter.{deref_pair}
use Rattle.apollo_field_usage.specs.Usage.{usage_of}
use Rattle.apollo_field_usage.proofs.counting.field_usage.Given as goal

-- there is a usage for each entry so far
abbrev pub invariant-loop-coordinate : goal.invariant-loop-coordinate
invariant-loop-coordinate l = l.usages.items ≡ map usage_of (map deref_pair l.yielded)
