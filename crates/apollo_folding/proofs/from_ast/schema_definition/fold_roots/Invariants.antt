use Rattle.apollo_meaning.proofs.Prelude.{◌≡◌, List, ◌++◌, map, take, SchemaDefinition}
use Rattle.apollo_folding.specs.RootTables.{NamedRoot, root_with_origin, with_roots, held_faults}
use Rattle.apollo_folding.proofs.from_ast.schema_definition.fold_roots.Given as goal

abbrev pub invariant-loop-root : goal.invariant-loop-root
invariant-loop-root l = record {
  named : (base : SchemaDefinition) (rs : List NamedRoot) → l.fn.definition ≡ with_roots base rs
      → l.definition ≡ with_roots base (rs ++ map (root_with_origin l.origin) (take l.root-index l.roots));
  faults : (base : SchemaDefinition) (rs : List NamedRoot) → l.fn.definition ≡ with_roots base rs
      → l.faults ≡ l.fn.faults ++ held_faults rs l.origin (take l.root-index l.roots);
}
