use Rattle.apollo_meaning.proofs.Prelude.{map, arith, component_name, distinct_names}
use Rattle.apollo_meaning.proofs.Faults.KeptLemmas.{names-of-names}
use Rattle.apollo_folding.proofs.TurnLemmas.{added-turn, faults-turn}
use Rattle.apollo_folding.proofs.from_ast.folding.Part.fold_names.Goals as goal

pub loop-name-preserved : goal.loop-name-preserved
loop-name-preserved c =
    let origin = c.args.self.now.origin in
    let was = c.loop-name.invariant in
    let now = c.in_ok-fold_name.ensures in
    record {
      added = added-turn distinct_names (component_name origin) _ _ _ (omega arith) c.name-item.is _ _
          was.added _ now.added;
      faults = faults-turn distinct_names (component_name origin) _ _ _ (omega arith) c.name-item.is _ _
          was.added c.args.collection c.args.self.now.of.now.name.now (λ n. (n, n.location))
          (map (λ k. k.name)) (names-of-names origin) _ _ _ was.faults now.faults;
    }
