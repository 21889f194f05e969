use Rattle.apollo_meaning.proofs.Prelude.{map, take, component_name, distinct_names, collisions, name_entries}
use Rattle.apollo_folding.specs.Joins.{Lengthens, FindsIn}
use Rattle.apollo_folding.proofs.from_ast.folding.Part.fold_names.Given as goal

abbrev pub invariant-loop-name : goal.invariant-loop-name
invariant-loop-name l =
    let so_far = take l.name-index l.names in
    record {
      added : Lengthens distinct_names l.fn.set (map (component_name l.self.origin) so_far) l.set;
      faults : FindsIn distinct_names l.fn.set (λ ks. collisions l.collection l.self.of.now.name.now
          (map (λ k. k.name) ks) (name_entries so_far)) l.fn.faults l.faults;
    }
