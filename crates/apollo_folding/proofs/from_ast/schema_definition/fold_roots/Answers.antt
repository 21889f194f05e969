use Rattle.apollo_meaning.proofs.Prelude.{◌++◌, map, take, sym, ap, ◌∙◌, append_assoc, arith, take_all}
use Rattle.apollo_meaning.proofs.Prelude.{component_name}
use Rattle.apollo_types.specs.SchemaRoots.{root_of}
use Rattle.apollo_folding.specs.RootTables.{root_with_origin, first_named, with_roots, put_root, held_fault}
use Rattle.apollo_folding.specs.RootTables.{held_faults}
use Rattle.apollo_meaning.proofs.Faults.KeptLemmas.{map-turn}
use Rattle.apollo_folding.proofs.RootLemmas.{put-first, root_of-first, held_faults-turn}
use Rattle.apollo_folding.proofs.from_ast.schema_definition.fold_roots.Goals as goal

pub loop-root-preserved : goal.loop-root-preserved
loop-root-preserved c =
    let o = c.args.origin in
    let f = root_with_origin o in
    let xs = c.args.roots.now in
    let i = c.loop-root.root-index in
    let x = c.root-item.result in
    let op = x.value.0 in
    let name = component_name o x.value.1 in
    let before = c.args.faults.now in
    let was = c.loop-root.invariant in
    record {
      named = λ base rs h. c.in_ok-fold_root.ensures.named ∙ ap (put_root op name) (was.named base rs h)
          ∙ put-first base (rs ++ map f (take i xs)) op name
          ∙ ap (with_roots base) (sym (map-turn f rs xs i x (omega arith) c.root-item.is));
      faults = λ base rs h.
          let so_far = held_faults rs o (take i xs) in
          let held = rs ++ map f (take i xs) in
          c.in_ok-fold_root.ensures.faults
          ∙ (λ j. was.faults base rs h j ++ held_fault (root_of (was.named base rs h j) op) x)
          ∙ ap (λ k. (before ++ so_far) ++ held_fault k x) (root_of-first base held op)
          ∙ append_assoc before so_far (held_fault (first_named op held) x)
          ∙ ap (λ l. before ++ l) (sym (held_faults-turn rs o xs i x (omega arith) c.root-item.is));
    }

pub returns : goal.returns
returns c = record {
  named = rw (take_all c.loop-root.root-index c.args.roots.now (omega arith)) at c.loop-root.invariant.named;
  faults = rw (take_all c.loop-root.root-index c.args.roots.now (omega arith))
      at c.loop-root.invariant.faults;
}
