-- What is seen of options, tables, and what stands after a first element, through functions of elements.
use Rattle.apollo_canonical.proofs.Prelude.{Bool, List, NameView, NodeView, Option, [], after_first, arith}
use Rattle.apollo_canonical.proofs.Prelude.{bare_entry, bare_name, bare_node, by_text, lookup, lookup_key, map}
use Rattle.apollo_canonical.proofs.Prelude.{option_map, refl, same_text, ℕ, ◌∷◌, ◌≡◌}
use Rattle.apollo_executable.specs.Listed.{listed}

pub map-listed : {A B : Type 0} (f : A → B) (o : Option A) → map f (listed o) ≡ listed (option_map f o)
map-listed f o = grind arith

pub one-listed : {A : Type 0} (o p : Option A) → listed o ≡ listed p → o ≡ p
one-listed o p e = grind (arith, e)

-- what stands after the first that passes
pub after_first-map : {X Y : Type 0} (p : Y → Bool) (f : X → Y) (xs : List X)
    → after_first p (map f xs) ≡ map f (after_first (λ x. p (f x)) xs)
after_first-map p f [] = refl
after_first-map p f (x ∷ xs) = grind (arith, after_first-map p f xs)

-- what is found of tables, and under which name
module _ {V B : Type 0} (f : V → B) where
  pub lookup-bare : (text : List ℕ) (es : List (NameView × NodeView V))
      → option_map (bare_node f) (lookup (by_text text) es) ≡ lookup (by_text text) (map (bare_entry f) es)
  lookup-bare text [] = refl
  lookup-bare text (e ∷ es) = grind (arith, lookup-bare text es)

  pub key-bare : (name : NameView) (es : List (NameView × NodeView V))
      → option_map bare_name (lookup_key (same_text name) es) ≡ lookup_key (same_text (bare_name name))
      (map (bare_entry f) es)
  key-bare name [] = refl
  key-bare name (e ∷ es) = grind (arith, key-bare name es)
