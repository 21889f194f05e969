-- The other table has an equal value at each key so far.
use Rattle.std.proofs.Common.{◌≡◌, true, take}
use Rattle.std.specs.List.{list_all}
use Rattle.std.specs.Option.{option_eq}
use Rattle.graphql_nodes.specs.Tables.{keys_of, lookup}
use Rattle.graphql_nodes.proofs.collections.table.Table.has_its_values_in.Given as goal

abbrev pub invariant-loop-place : goal.invariant-loop-place
invariant-loop-place g l = list_all (λ k. option_eq g.V.PartialEq.eq (lookup (g.K.PartialEq.eq k) l.self)
    (lookup (g.K.PartialEq.eq k) l.other)) (keys_of (take l.place l.self)) ≡ true
