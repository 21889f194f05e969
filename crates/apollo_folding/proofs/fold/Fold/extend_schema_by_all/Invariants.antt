use Rattle.apollo_meaning.proofs.Prelude.{◌≡◌, ◌+◌, List, ◌++◌, map, length, take, next_number, source_at}
use Rattle.apollo_meaning.proofs.Prelude.{SchemaPart, schema_extension_part, SourcedSchema, schema_from}
use Rattle.apollo_meaning.proofs.Prelude.{schema_numbered, schema_joining_faults}
use Rattle.apollo_folding.proofs.fold.Fold.extend_schema_by_all.Given as goal

abbrev pub invariant-loop-extension : goal.invariant-loop-extension
invariant-loop-extension l =
    let so_far = map schema_extension_part (take l.extension-index l.extensions) in
    record {
      folded : (head : SchemaPart) (done : List SourcedSchema) → l.fn.node ≡ schema_from head done
          → l.node ≡ schema_from head (done ++ schema_numbered (next_number l.fn.self.ids) so_far);
      faults : (head : SchemaPart) (done : List SourcedSchema) → l.fn.node ≡ schema_from head done
          → l.self.faults ≡ l.fn.self.faults ++ schema_joining_faults (map (λ s. s.1) done) so_far;
      next : l.self ≡ record l.fn.self {
        ids = source_at (next_number l.fn.self.ids + length (take l.extension-index l.extensions));
        faults = l.self.faults;
      };
    }
