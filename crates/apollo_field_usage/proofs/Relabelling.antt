-- A walk over fields that carry more is the walk over the fields: what is added to them changes nothing.
use Rattle.std.proofs.Common.{◌≡◌, inl, inr, ℕ, List, [], ◌∷◌, map, option_map, refl, ap, ◌∙◌, arith}
use Rattle.std.proofs.lemmas.List.{map-append}
use Rattle.apollo_walks.specs.Selections.{Selections, none, field, spread, inline, Fragments, Names}
use Rattle.apollo_walks.specs.Selections.{fragment_of}
use Rattle.apollo_walks.specs.WalkOrder.{Order, of_none, of_inline, of_field, of_passed, of_fragment}

module _ {F G : Type 0} (f : F → G) where
  -- selections with what f gives of each field
  abbrev pub relabelled : Selections F → Selections G
  relabelled none = none
  relabelled (field x below rest) = field (f x) (relabelled below) (relabelled rest)
  relabelled (spread n rest) = spread n (relabelled rest)
  relabelled (inline inner rest) = inline (relabelled inner) (relabelled rest)

  -- fragments so
  abbrev pub all_relabelled : Fragments F → Fragments G
  all_relabelled fragments = map (λ e. (e.0, relabelled e.1)) fragments

  fragment-relabelled : (fragments : Fragments F) (n : List ℕ)
      → fragment_of (all_relabelled fragments) n ≡ option_map relabelled (fragment_of fragments n)
  fragment-relabelled [] n = refl
  fragment-relabelled (e ∷ es) n = grind (arith, fragment-relabelled es n)

  pub order-relabelled : (fragments : Fragments F) {before : Names} {s : Selections F} {fs : List F}
      {ns : List (List ℕ)} → Order fragments before s fs ns
      → Order (all_relabelled fragments) before (relabelled s) (map f fs) ns
  order-relabelled fragments of_none = of_none
  order-relabelled fragments (of_inline {first = first} {others = others} a b) =
      rw (map-append f first others) (of_inline (order-relabelled fragments a) (order-relabelled fragments b))
  order-relabelled fragments (of_field a) = of_field (order-relabelled fragments a)
  order-relabelled fragments (of_passed (inl opened) a) =
      of_passed (inl opened) (order-relabelled fragments a)
  order-relabelled fragments (of_passed {n = n} (inr missing) a) =
      of_passed (inr (fragment-relabelled fragments n ∙ ap (option_map relabelled) missing))
      (order-relabelled fragments a)
  order-relabelled fragments (of_fragment {n = n} closed found a) =
      of_fragment closed (fragment-relabelled fragments n ∙ ap (option_map relabelled) found)
      (order-relabelled fragments a)
