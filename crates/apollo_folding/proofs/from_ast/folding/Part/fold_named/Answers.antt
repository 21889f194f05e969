use Rattle.apollo_meaning.proofs.Prelude.{arith, component, distinct_entries, keys_of}
use Rattle.apollo_meaning.proofs.Faults.KeptLemmas.{keys-of-nodes}
use Rattle.apollo_folding.proofs.TurnLemmas.{added-turn, faults-turn}
use Rattle.apollo_folding.proofs.from_ast.folding.Part.fold_named.Goals as goal

pub loop-node-preserved : goal.loop-node-preserved
loop-node-preserved g c =
    let name = g.T.Named.name_of in
    let origin = c.args.self.now.origin in
    let was = c.loop-node.invariant in
    let now = c.in_ok-fold_entry.ensures in
    record {
      added = added-turn distinct_entries (λ n. (name n.value, component origin n)) _ _ _ (omega arith)
          c.node-item.is _ _ was.added _ now.added;
      faults = faults-turn distinct_entries (λ n. (name n.value, component origin n)) _ _ _ (omega arith)
          c.node-item.is _ _ was.added c.args.collection c.args.self.now.of.now.name.now
          (λ n. (name n.value, n.location)) keys_of (keys-of-nodes name origin) _ _ _ was.faults now.faults;
    }
