-- What is found at one more item.
use Rattle.apollo_meaning.proofs.Prelude.{arith, ◌≡◌, ℕ, ◌+◌, List, [], ◌∷◌, ◌++◌, map, Some, None, filter}
use Rattle.apollo_meaning.proofs.Prelude.{refl, TypePart, kind_of, key_of, ListItem, Defined, Extended}
use Rattle.apollo_meaning.proofs.Prelude.{Folding, OfType, OfSchema, same, first, extensions_of, of_kind}
use Rattle.apollo_meaning.proofs.Prelude.{Sourced, extensions_with_origin, parts, part_faults}
use Rattle.apollo_meaning.proofs.Prelude.{further_definition, joining_faults, found_at, folded}
use Rattle.apollo_meaning.proofs.Types.TypeLemmas.{type_foldings}
use Rattle.apollo_folding.proofs.JoiningLemmas.{joining-one}
use Rattle.apollo_meaning.proofs.Items.PartLemmas.{of_name}

-- the folded extensions of a name, their origins forgotten
extensions_with_origin-parts : (n : List ℕ) (start : ℕ) (fs : List Folding)
    → map (λ (s : Sourced). s.1) (extensions_with_origin n start fs) ≡ filter (λ p. same n (key_of p))
    (type_foldings fs)
extensions_with_origin-parts n start [] = refl
extensions_with_origin-parts n start (OfSchema s ∷ fs) = extensions_with_origin-parts n _ fs
extensions_with_origin-parts n start (OfType p ∷ fs) =
    grind (arith, extensions_with_origin-parts n (start + 1) fs)

-- the parts of a name are its definition and the extensions of its kind
pub parts-forget : (start : ℕ) (xs : List ListItem) (n : List ℕ) (d : TypePart) → first xs n ≡ Some d
    → map (λ (s : Sourced). s.1) (parts start (folded xs) n d) ≡ d ∷ of_kind (kind_of d) (extensions_of xs n)
parts-forget start xs n d some = rw (extensions_with_origin-parts n start (folded xs), of_name xs n d some)

module _ (xs : List ListItem) (p : TypePart) where
  pub found_at-new : first xs (key_of p) ≡ None
      → found_at xs (Defined p) ≡ part_faults [] p ++ joining_faults p (p ∷ []) (extensions_of xs (key_of p))
  found_at-new none = rw none

  pub found_at-again : (d : TypePart) → first xs (key_of p) ≡ Some d
      → found_at xs (Defined p) ≡ further_definition d p
  found_at-again d some = rw some

  pub found_at-early : first xs (key_of p) ≡ None → found_at xs (Extended p) ≡ []
  found_at-early none = rw none

  pub found_at-late : (d : TypePart) → first xs (key_of p) ≡ Some d
      → found_at xs (Extended p) ≡ joining_faults d (d ∷ of_kind (kind_of d) (extensions_of xs (key_of p)))
      (p ∷ [])
  found_at-late d some = rw (some, joining-one)
