use Rattle.apollo_meaning.proofs.Prelude.{◌≡◌, Bool, [], ◌∷◌, ◌++◌, sym, ap, ◌∙◌, append_assoc, flat_map}
use Rattle.apollo_meaning.proofs.Prelude.{TypeKind, TypePart, extended_parts, part_faults, joining_faults}
use Rattle.apollo_meaning.proofs.Prelude.{arith}
use Rattle.apollo_component.specs.declared.extension.ComponentOrigin.TheVariants as origins
use Rattle.apollo_meaning.specs.Faults.TypeFaults.{collections_of, dropped_from}
use Rattle.apollo_meaning.proofs.Order.FoldingLemmas.{type_from-ignorable}
use Rattle.apollo_folding.specs.DeclaredParts.{part_seen}
use Rattle.apollo_folding.specs.declared.fold.Fold.{Fold}
use Rattle.apollo_folding.proofs.fold.Fold.begin_type.Goals as goal

-- whether a definition is ignorable changes none of its faults
part_faults-ignorable : (p : TypePart) (b : Bool)
    → part_faults [] p ≡ part_faults [] (record p { ignorable = b })
part_faults-ignorable p b = by p.kind
  where
    by : (k : TypeKind)
        → flat_map (dropped_from [] p) (collections_of k)
        ≡ flat_map (dropped_from [] (record p { ignorable = b })) (collections_of k)
    by k = grind arith

pub returns-clause-faults : goal.returns-clause-faults
returns-clause-faults c = λ b.
    let p = part_seen c.args.head.now in
    let q : TypePart = record p { ignorable = b } in
    let es = extended_parts c.args.extensions.now in
    let made = c.in_ok-ty.ensures.made ∙ sym (type_from-ignorable p b []) in
    let own = ap (λ (f : Fold). f.faults) c.in_ok-ty.ensures.faults
    ∙ ap (λ l. c.args.self.now.faults ++ l) (part_faults-ignorable p b) in
    c.in_ok-extend_by_all.ensures.faults q ((origins.Definition, q) ∷ []) made
    ∙ ap (λ l. l ++ joining_faults q (q ∷ []) es) own ∙ append_assoc c.args.self.now.faults
    (part_faults [] q) (joining_faults q (q ∷ []) es)
