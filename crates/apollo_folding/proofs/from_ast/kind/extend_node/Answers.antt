use Rattle.apollo_meaning.proofs.Prelude.{rules, ◌≡◌, [], ◌∷◌, ◌++◌, map, sym, ap, ◌∙◌, if◌then◌else◌}
use Rattle.apollo_meaning.proofs.Prelude.{kind_of, same_kind, of_kind, type_from, part_faults}
use Rattle.apollo_component.specs.declared.extension.ComponentOrigin.TheVariants as origins
use Rattle.apollo_meaning.specs.Faults.TypeFaults.{kind_mismatch}
use Rattle.apollo_meaning.proofs.Order.FoldingLemmas.{same_kind-refl}
use Rattle.apollo_folding.specs.DeclaredParts.{part_as}
use Rattle.apollo_folding.specs.Joins.{with_numbers}
use Rattle.apollo_folding.proofs.JoiningLemmas.{joining-one}
use Rattle.apollo_folding.proofs.KindLemmas.{IsOf-value, IsOf-grown}
use Rattle.apollo_folding.proofs.from_ast.kind.extend_node.Goals as goal

pub returns-clause-folded : goal.returns-clause-folded
returns-clause-folded g c = λ head done was.
    let e = part_as g.K.Kind.kind c.args.extension.now in
    let before = c.args.node.now in
    let is = g.met.K.Kind.makes head done before was in
    let alike = ap (λ k. same_kind k (kind_of e)) is.same ∙ same_kind-refl (kind_of e) in
    let node = c.make_mut.follows.lender c.fold.new.self in
    let location : node.location ≡ before.location = search rules in
    let value : node.value ≡ c.fold.new.self = search rules in
    let drawn : with_numbers c.args.fold.now.ids (e ∷ []) ≡ (origins.Extension c.in_ok-id.id, e) ∷ [] =
    ap (λ id. (origins.Extension id, e) ∷ []) (sym c.in_ok-id.ensures.drawn.0) in
    let joining : with_numbers c.args.fold.now.ids (of_kind (kind_of head) (e ∷ []))
    ≡ (origins.Extension c.in_ok-id.id, e) ∷ [] =
    ap (λ b. with_numbers c.args.fold.now.ids (if b then e ∷ [] else [])) alike ∙ drawn in
    IsOf-grown is node ((origins.Extension c.in_ok-id.id, e) ∷ []) location (λ made. value
    ∙ c.in_ok-fold.ensures.folded head done (c.in_ok-ty.ensures.value ∙ made))
    ∙ ap (λ more. type_from head (done ++ more)) (sym joining)

pub returns-clause-faults : goal.returns-clause-faults
returns-clause-faults g c = λ head done was.
    let e = part_as g.K.Kind.kind c.args.extension.now in
    let before = c.args.node.now in
    let parts = map (λ s. s.1) done in
    let is = g.met.K.Kind.makes head done before was in
    let alike = ap (λ k. same_kind k (kind_of e)) is.same ∙ same_kind-refl (kind_of e) in
    let joining = joining-one head parts e ∙ ap (λ b. if b then part_faults parts e else kind_mismatch head e
    ∷ []) alike in
    c.in_ok-fold.ensures.faults head done (c.in_ok-ty.ensures.value ∙ IsOf-value is)
    ∙ ap (λ l. c.args.fold.now.faults ++ l) (sym joining)
