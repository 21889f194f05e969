-- Where a set keeps its keys.
use Rattle.std.specs.Prelude.{List}
use Rattle.graphql_nodes.specs.declared.collections.key_set.Held.{Held}
use Rattle.graphql_nodes.specs.declared.collections.key_set.Held.TheVariants as t

-- the keys that are held, in order
abbrev pub held_keys : {K : Type 0} → Held K → List K
held_keys (t.Few few) = few
held_keys (t.Many set) = set.value.keys
