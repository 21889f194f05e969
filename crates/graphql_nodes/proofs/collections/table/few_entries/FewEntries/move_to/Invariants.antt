use Rattle.std.proofs.Common.{◌≡◌, ◌≤◌, length}
use Rattle.std.specs.List.{zip}
use Rattle.std.specs.Vec.Iter.{into_iter_items, into_iter_len}
use Rattle.indexmap.specs.IndexMap.{insert_all, spare}
use Rattle.graphql_nodes.proofs.collections.table.few_entries.FewEntries.move_to.Given as goal

-- what is left, inserted in turn, makes all entries, and there is room for it
abbrev pub invariant-loop-key : goal.invariant-loop-key
invariant-loop-key g l =
    (insert_all g.K.PartialEq.eq l.map.entries (zip (into_iter_items l.keys) (into_iter_items l.values))
    ≡ l.fn.self)
    × (length (into_iter_items l.values) ≡ length (into_iter_items l.keys))
    × (into_iter_len l.keys ≤ spare l.map)

abbrev pub decreases-loop-key : goal.decreases-loop-key
decreases-loop-key g l = into_iter_len l.keys
