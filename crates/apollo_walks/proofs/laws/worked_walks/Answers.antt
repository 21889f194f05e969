use Rattle.std.proofs.Common.{ℕ, inl, inr, refl, List, [], ◌∷◌}
use Rattle.apollo_walks.specs.Selections.{none, field, Names, with_name}
use Rattle.apollo_walks.specs.WalkOrder.{Order, of_none, of_inline, of_field, of_passed, of_fragment}
use Rattle.apollo_walks.specs.WorkedWalk.{worked_fragments}
use Rattle.apollo_walks.proofs.laws.worked_walks.Goals as goal

of_leaf : {before : Names} {f : List ℕ} → Order worked_fragments before (field f none none) (f ∷ []) []
of_leaf = of_field (of_inline of_none of_none)

pub returns-clause-outside : goal.returns-clause-outside
unfolding with_name
returns-clause-outside c =
    let second = of_passed (inl refl) (of_inline of_leaf (of_passed (inr refl) of_none)) in
    of_fragment refl refl
    (of_inline (of_fragment refl refl (of_inline second (of_field (of_inline of_leaf of_none)))) of_none)

pub returns-clause-inside : goal.returns-clause-inside
unfolding with_name
returns-clause-inside c =
    let first = of_passed (inl refl) (of_field (of_inline of_leaf of_none)) in
    let second = of_fragment refl refl (of_inline first (of_inline of_leaf (of_passed (inr refl) of_none))) in
    of_fragment refl refl (of_inline second (of_field (of_inline of_leaf of_none)))
