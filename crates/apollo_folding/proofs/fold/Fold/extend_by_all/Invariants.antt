use Rattle.apollo_meaning.proofs.Prelude.{◌≡◌, ◌+◌, List, ◌++◌, map, length, take, next_number, source_at}
use Rattle.apollo_meaning.proofs.Prelude.{TypePart, kind_of, extended_parts, of_kind, Sourced, type_from}
use Rattle.apollo_meaning.proofs.Prelude.{extension_part, numbered, joining_faults, type_kind}
use Rattle.apollo_folding.proofs.fold.Fold.extend_by_all.Given as goal

abbrev pub invariant-loop-extension : goal.invariant-loop-extension
invariant-loop-extension l =
    let so_far = extended_parts (take l.extension-index l.extensions) in
    record {
      folded : (head : TypePart) (done : List Sourced) → l.fn.ty ≡ type_from head done → l.ty ≡ type_from head
          (done ++ map extension_part (numbered (next_number l.fn.self.ids) (of_kind (kind_of head) so_far)));
      faults : (head : TypePart) (done : List Sourced) → l.fn.ty ≡ type_from head done
          → l.self.faults ≡ l.fn.self.faults ++ joining_faults head (map (λ s. s.1) done) so_far;
      kind : type_kind l.ty ≡ type_kind l.fn.ty;
      next : l.self.ids ≡ source_at (next_number l.fn.self.ids + length (of_kind (type_kind l.fn.ty) so_far));
      rest : l.self ≡ record l.fn.self { ids = l.self.ids; faults = l.self.faults };
    }
