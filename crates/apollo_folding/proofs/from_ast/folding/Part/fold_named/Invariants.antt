use Rattle.apollo_meaning.proofs.Prelude.{map, take, NodeView, component, distinct_entries, collisions}
use Rattle.graphql_nodes.specs.Tables.{keys_of}
use Rattle.apollo_meaning.specs.Faults.TypeFaults.{named_entries}
use Rattle.apollo_folding.specs.Joins.{Lengthens, FindsIn}
use Rattle.apollo_folding.proofs.from_ast.folding.Part.fold_named.Given as goal

abbrev pub invariant-loop-node : goal.invariant-loop-node
invariant-loop-node g l =
    let so_far = take l.node-index l.nodes in
    record {
      added : Lengthens distinct_entries l.fn.table
          (map (λ (n : NodeView g.row.T.Denot). (g.T.Named.name_of n.value, component l.self.origin n))
          so_far) l.table;
      faults : FindsIn distinct_entries l.fn.table (λ es. collisions l.collection l.self.of.now.name.now
          (keys_of es) (named_entries g.T.Named.name_of so_far)) l.fn.faults l.faults;
    }
