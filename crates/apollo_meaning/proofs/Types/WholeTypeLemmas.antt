-- The components that are dropped from a type of a list, by places, are those that are dropped from its
-- parts, joined.
use Rattle.apollo_meaning.proofs as meaning
use meaning.Prelude.{◌≡◌, Bool, true, false, cond, ◌&&◌, List, [], ◌∷◌, ◌++◌, take, Some, filter, refl, sym}
use meaning.Prelude.{ap, ◌∙◌, arith, filter_map, flat_map, each_after, each_after-start, TypePart, kind_of}
use meaning.Prelude.{key_of, same_kind, ListItem, extended_part, same, extensions_of, of_kind, types, Placed}
use meaning.Prelude.{extension_places, first_place, Fault, part_faults, same-true, is_folded, joined_faults}
use Rattle.apollo_component.proofs.Lists.Kept.{flat_map-filter}
use meaning.Order.PlaceLemmas.{placed-after}
use Rattle.apollo_meaning.specs.Faults.ListFaults.{faults_of_extension, found_of_type}

module _ (d : TypePart) where
  -- an extension of the name and of the kind of this definition
  abbrev joins : TypePart → Bool
  joins p = same (key_of d) (key_of p) && same_kind (kind_of d) (kind_of p)

  -- what is dropped from it, where it joins the definition and the extensions before it
  abbrev faults_with : List ListItem → Placed TypePart → List Fault
  faults_with xs e = part_faults (d ∷ of_kind (kind_of d) (extensions_of (take e.0 xs) (key_of d))) e.1

  -- those of a name, and of them those of a kind
  of_name_and_kind : (ps : List TypePart)
      → of_kind (kind_of d) (filter (λ p. same (key_of d) (key_of p)) ps) ≡ filter joins ps
  of_name_and_kind [] = refl
  of_name_and_kind (p ∷ ps) = grind (arith, of_name_and_kind ps)

  by_place : (xs : List ListItem)
      → flat_map (faults_with xs) (filter (λ e. joins e.1) (extension_places types xs))
      ≡ each_after (λ before. part_faults (d ∷ before)) [] (of_kind (kind_of d) (extensions_of xs (key_of d)))
  by_place xs = (λ i. flat_map
      (λ e. part_faults (d ∷ of_name_and_kind (filter_map extended_part (take e.0 xs)) i) e.1)
      (filter (λ e. joins e.1) (extension_places types xs))) ∙ placed-after extended_part joins _ [] xs
      ∙ ap (each_after (λ before. part_faults (d ∷ before)) []) (sym (of_name_and_kind _))

-- where it is the first definition of its name
module _ (xs : List ListItem) (d : Placed TypePart) (is : first_place types xs (key_of d.1) ≡ Some d) where
  -- what an extension of the name drops, if it is folded
  joining : (e : Placed TypePart) (b : Bool) → same (key_of d.1) (key_of e.1) ≡ b
      → cond (same (key_of d.1) (key_of e.1) && is_folded xs e) (faults_of_extension xs e) []
      ≡ cond (joins d.1 e.1) (faults_with d.1 xs e) []
  joining e true named =
      let there : first_place types xs (key_of e.1) ≡ Some d =
      ap (first_place types xs) (sym (same-true _ _ named)) ∙ is in
      rw (named, there, sym (same-true _ (key_of e.1) named)) (grind arith)
  joining e false named = rw named

  pub found-joined : found_of_type xs d.1
      ≡ joined_faults (d.1 ∷ of_kind (kind_of d.1) (extensions_of xs (key_of d.1)))
  found-joined =
      let places = extension_places types xs in
      let rest : flat_map (faults_of_extension xs) (filter (λ e. same (key_of d.1) (key_of e.1)
      && is_folded xs e) places) ≡ flat_map (faults_with d.1 xs) (filter (λ e. joins d.1 e.1) places) =
      flat_map-filter _ _ places ∙ (λ i. flat_map (λ e. joining e _ refl i) places)
      ∙ sym (flat_map-filter _ _ places) in
      ap (λ l. part_faults [] d.1 ++ l) (rest ∙ by_place d.1 xs
      ∙ sym (each_after-start part_faults _ (of_kind (kind_of d.1) (extensions_of xs (key_of d.1)))))
