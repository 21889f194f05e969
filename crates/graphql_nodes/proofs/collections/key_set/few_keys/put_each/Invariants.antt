-- The keys that are left, put in turn, make what all make, and have room.
use Rattle.std.proofs.Common.{◌≡◌, ◌≤◌, length}
use Rattle.std.specs.Vec.Iter.{into_iter_items}
use Rattle.indexmap.specs.IndexSet.{spare}
use Rattle.graphql_nodes.specs.KeySets.{insert_all}
use Rattle.graphql_nodes.proofs.collections.key_set.few_keys.put_each.Given as goal

abbrev pub invariant-loop-key : goal.invariant-loop-key
invariant-loop-key g l = (goal.iterator-loop-key g).can_next l.key-iterator
    × (goal.iterator-loop-key g).is_finite l.key-iterator
    × (insert_all g.T.PartialEq.eq l.set.keys (into_iter_items l.key-iterator)
    ≡ insert_all g.T.PartialEq.eq l.initial.set.keys l.fn.keys.items)
    × (length (into_iter_items l.key-iterator) ≤ spare l.set)
