use Rattle.apollo_meaning.proofs.Prelude.{◌≡◌, ℕ, ◌+◌, [], ◌∷◌, ◌++◌, map, length, take, ap, ◌∙◌}
use Rattle.apollo_meaning.proofs.Prelude.{arith, length-append, TypeKind, TypePart, next_number}
use Rattle.apollo_meaning.proofs.Prelude.{source_at, extended_parts, kind_of, of_kind, type_from}
use Rattle.apollo_meaning.proofs.Prelude.{extension_part, numbered, joining_faults, type_kind}
use Rattle.apollo_meaning.proofs.Order.FoldingLemmas.{of_kind-turn, of_kind-past}
use Rattle.apollo_meaning.proofs.Order.FoldingLemmas.{type_kind-from}
use Rattle.apollo_folding.proofs.JoiningLemmas.{found-turn, joined-turn, joining-turn}
use Rattle.apollo_folding.proofs.RefusalLemmas.{RefusedAs-through}
use Rattle.apollo_component.specs.Extensions.{extension_id}
use Rattle.apollo_component.specs.declared.extension.ComponentOrigin.TheVariants.{Extension}
use Rattle.apollo_folding.proofs.fold.Fold.extend_by_all.Goals as goal

pub loop-extension-preserved : goal.loop-extension-preserved
loop-extension-preserved c =
    let xs = c.args.extensions.now in
    let i = c.loop-extension.extension-index in
    let x = c.extension-item.result in
    let start = next_number c.args.self.now.ids in
    let k = type_kind c.args.ty.now in
    let origin = λ (e : ℕ × TypePart). Extension (extension_id e.0 e.1.location) in
    let before = λ (k : TypeKind). of_kind k (extended_parts (take i xs)) in
    let these = λ (k : TypeKind). of_kind k (extended_parts (x ∷ [])) in
    let was = c.loop-extension.invariant in
    let now = c.in_ok-extend_by.ensures in
    let at : next_number c.loop-extension.self.ids ≡ start + length (before k) = ap next_number was.next in
    let turn = λ (k : TypeKind). of_kind-turn k xs i x (omega arith) c.extension-item.is in
    record {
      folded = λ head done h.
          let kinds : k ≡ kind_of head = ap type_kind h ∙ type_kind-from head done in
          now.folded head (done ++ map extension_part (numbered start (before (kind_of head))))
          (was.folded head done h)
          ∙ joined-turn origin done start (before (kind_of head)) (type_from head) _ (these (kind_of head)) _
          (at ∙ ap (λ k. start + length (before k)) kinds) (turn (kind_of head));
      faults = λ head done h.
          now.faults head (done ++ map extension_part (numbered start (before (kind_of head))))
          (was.folded head done h)
          ∙ found-turn origin done start (before (kind_of head)) (λ parts. joining_faults head parts
          (extended_parts (x ∷ []))) _ _ _ _ (was.faults head done h)
          (joining-turn head (map (λ s. s.1) done) xs i x (omega arith) c.extension-item.is);
      kind = now.kind ∙ was.kind;
      next =
          let kinds : type_kind c.loop-extension.ty ≡ k = was.kind in
          let sum : next_number c.loop-extension.self.ids + length (these k)
          ≡ start + length (of_kind k (extended_parts (take (i + 1) xs))) =
          omega (arith, at, ap length (turn k), length-append (before k) (these k)) in
          now.next ∙ ap (λ k. source_at (next_number c.loop-extension.self.ids + length (these k))) kinds
          ∙ ap source_at sum;
      rest =
          let next = c.extend_by.new.self in
          now.rest ∙ (λ j. record (was.rest j) { ids = next.ids; faults = next.faults });
    }

pub returns-in_err-extend_by-clause-refused : goal.returns-in_err-extend_by-clause-refused
returns-in_err-extend_by-clause-refused c =
    let xs = c.args.extensions.now in
    let i = c.loop-extension.extension-index in
    let x = c.extension-item.result in
    let k = type_kind c.args.ty.now in
    let was = c.loop-extension.invariant in
    let at : next_number c.loop-extension.self.ids ≡ next_number c.args.self.now.ids
    + length (of_kind k (extended_parts (take i xs))) = ap next_number was.next in
    let kinds : length (of_kind (type_kind c.loop-extension.ty) (extended_parts (x ∷ []))) ≡ length (of_kind k
    (extended_parts (x ∷ []))) = ap (λ k. length (of_kind k (extended_parts (x ∷ [])))) was.kind in
    let past = of_kind-past k xs i x (omega arith) c.extension-item.is in
    RefusedAs-through c.from_residual.result c.in_err-extend_by.field-0.0 c.from_residual.ensures.1
    (λ full. omega (arith, past, at, kinds, full)) c.in_err-extend_by.ensures.refused
