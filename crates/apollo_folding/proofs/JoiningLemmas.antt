-- What is wrong with extensions that join a type, one after another.
use Rattle.apollo_meaning.proofs.Prelude.{◌≡◌, ℕ, ◌+◌, ◌<◌, get_or, take, List, [], ◌∷◌, ◌++◌, length, map}
use Rattle.apollo_meaning.proofs.Prelude.{refl, ap, ◌∙◌, append_assoc, append-nil, map-append, filter-append}
use Rattle.apollo_meaning.proofs.Prelude.{Definition, each_after-append, each_after-start, TypePart, kind_of}
use Rattle.apollo_meaning.proofs.Prelude.{extended_parts, of_kind, Fault}
use Rattle.apollo_meaning.proofs.Prelude.{joining_faults, ComponentOrigin, enumerate_from, enumerate_from-append, map-map}
use Rattle.apollo_meaning.specs.Faults.TypeFaults.{joining_fault}
use Rattle.apollo_meaning.proofs.Order.FoldingLemmas.{extended_parts-turn}

module _ (d : TypePart) where
  -- more extensions join the parts and the extensions before them
  joining-append : (parts es fs : List TypePart)
      → joining_faults d parts (es ++ fs) ≡ joining_faults d parts es
      ++ joining_faults d (parts ++ of_kind (kind_of d) es) fs
  joining-append parts es fs =
      simp (each_after-append, each_after-start join es fs, filter-append, append_assoc)
    where
      join : List TypePart → TypePart → List Fault
      join before = joining_fault d (parts ++ of_kind (kind_of d) before)

  -- one extension alone
  pub joining-one : (parts : List TypePart) (e : TypePart)
      → joining_faults d parts (e ∷ []) ≡ joining_fault d parts e
  joining-one parts e = rw (append-nil, append-nil)

  -- one more definition of a list
  pub joining-turn : (parts : List TypePart) (xs : List Definition) (i : ℕ) (x : Definition) → i < length xs
      → x ≡ get_or xs i x
      → joining_faults d parts (extended_parts (take (i + 1) xs))
      ≡ joining_faults d parts (extended_parts (take i xs)) ++ joining_faults d (parts ++ of_kind (kind_of d)
      (extended_parts (take i xs))) (extended_parts (x ∷ []))
  joining-turn parts xs i x lt is = ap (joining_faults d parts) (extended_parts-turn xs i x lt is)
      ∙ joining-append parts (extended_parts (take i xs)) (extended_parts (x ∷ []))

-- numbers leave the extensions as they are
unnumbered : {P : Type 0} (n : ℕ) (es : List P) → map (λ e. e.1) (enumerate_from n es) ≡ es
unnumbered n [] = refl
unnumbered n (e ∷ es) = rw (unnumbered (n + 1) es)

-- extensions that join parts with numbers from a first one on: of a type, or of the schema
module _ {P : Type 0} (origin : ℕ × P → ComponentOrigin) (done : List (ComponentOrigin × P)) (start : ℕ)
    (before : List P) where
  abbrev joined_by : ℕ → List P → List (ComponentOrigin × P)
  joined_by n es = map (λ e. (origin e, e.1)) (enumerate_from n es)

  -- those of the next turn have the next numbers
  pub joined-turn : {T : Type 0} (made : List (ComponentOrigin × P) → T) (next : ℕ) (these after : List P)
      → next ≡ start + length before → after ≡ before ++ these
      → made ((done ++ joined_by start before) ++ joined_by next these) ≡ made (done ++ joined_by start after)
  joined-turn made next these after at turn =
      ap made (rw (at, turn, enumerate_from-append, map-append, append_assoc))

  -- and are found with the parts and those before them
  pub found-turn : (found : List P → List Fault) (first now so_far all : List Fault) → now ≡ first ++ so_far
      → all ≡ so_far ++ found (map (λ s. s.1) done ++ before)
      → now ++ found (map (λ s. s.1) (done ++ joined_by start before)) ≡ first ++ all
  found-turn found first now so_far all was turn =
      rw (was, turn, map-append, map-map, unnumbered start before, append_assoc)
