-- The other set has each key so far.
use Rattle.std.proofs.Common.{◌≡◌, true, take}
use Rattle.std.specs.List.{list_all}
use Rattle.graphql_nodes.specs.KeySets.{has_key}
use Rattle.graphql_nodes.proofs.collections.key_set.KeySet.has_its_keys_in.Given as goal

abbrev pub invariant-loop-place : goal.invariant-loop-place
invariant-loop-place g l = list_all (λ k. has_key (g.T.PartialEq.eq k) l.other) (take l.place l.self) ≡ true
