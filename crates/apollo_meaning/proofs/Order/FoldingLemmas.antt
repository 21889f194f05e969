-- Extensions that are folded one after another.
use Rattle.apollo_meaning.proofs.Prelude.{◌≡◌, get_or, Bool, List, ◌++◌, length, true, refl, of_kind, Sourced}
use Rattle.apollo_meaning.proofs.Prelude.{ℕ, ◌+◌, ◌<◌, ◌≤◌, [], ◌∷◌, sym, ap, ◌∙◌, take}
use Rattle.apollo_meaning.proofs.Prelude.{map-append, take_more, Definition, type_of_kind, drop, TypeKind}
use Rattle.apollo_meaning.proofs.Prelude.{TypePart, same_kind, type_from, type_kind, length-append}
use Rattle.apollo_meaning.proofs.Prelude.{arith, filter-append, extended_parts}
use Rattle.apollo_meaning.proofs.Prelude.{take-append-drop, filter_map-append, kind_of}
use Rattle.graphql_nodes.specs.declared.type_kind.TypeKind.TheVariants as kinds
use Rattle.apollo_component.specs.declared.extension.ComponentOrigin.TheVariants as origins
use Rattle.apollo_types.specs.TypeWriteOut.{type_description, type_name, type_location}

pub extended_parts-append : (xs ys : List Definition)
    → extended_parts (xs ++ ys) ≡ extended_parts xs ++ extended_parts ys
extended_parts-append xs ys = rw (map-append, filter_map-append)

-- one more definition of a list
pub extended_parts-turn : (xs : List Definition) (i : ℕ) (x : Definition) → i < length xs → x ≡ get_or xs i x
    → extended_parts (take (i + 1) xs) ≡ extended_parts (take i xs) ++ extended_parts (x ∷ [])
extended_parts-turn xs i x lt is = ap extended_parts (take_more xs i x lt
    ∙ ap (λ y. take i xs ++ y ∷ []) (sym is)) ∙ extended_parts-append (take i xs) _

-- the extensions of a kind among one more definition
module _ (k : TypeKind) (xs : List Definition) (i : ℕ) (x : Definition) (lt : i < length xs) (is : x
    ≡ get_or xs i x) where
  abbrev of_this : List Definition → List TypePart
  of_this ds = of_kind k (extended_parts ds)

  pub of_kind-turn : of_kind k (extended_parts (take (i + 1) xs)) ≡ of_kind k (extended_parts (take i xs))
      ++ of_kind k (extended_parts (x ∷ []))
  of_kind-turn = rw (extended_parts-turn xs i x lt is, filter-append)

  -- those so far and this one are no more than all
  pub of_kind-past : length (of_kind k (extended_parts (take i xs)))
      + length (of_kind k (extended_parts (x ∷ []))) ≤ length (of_kind k (extended_parts xs))
  of_kind-past =
      let whole : of_this xs ≡ of_this (take (i + 1) xs) ++ of_this (drop (i + 1) xs) =
      ap of_this (sym (take-append-drop (i + 1) xs)) ∙ rw (extended_parts-append, filter-append) in omega (
        arith,
        ap length of_kind-turn,
        length-append (of_this (take i xs)) (of_this (x ∷ [])),
        ap length whole,
        length-append (of_this (take (i + 1) xs)) (of_this (drop (i + 1) xs)),
      )

pub same_kind-refl : (k : TypeKind) → same_kind k k ≡ true
same_kind-refl k = grind arith

-- what the type of parts has of the head
module _ (head : TypePart) (done : List Sourced) where
  of_head : (k : TypeKind)
      → (type_kind (type_of_kind k head done) ≡ k) × (type_description (type_of_kind k head done)
      ≡ head.description) × (type_name (type_of_kind k head done) ≡ head.name)
      × (type_location (type_of_kind k head done) ≡ head.location)
  of_head kinds.Scalar = (refl, refl, refl, refl)
  of_head _ = (refl, refl, refl, refl)

  pub type_kind-from : type_kind (type_from head done) ≡ kind_of head
  type_kind-from = (of_head head.kind).0

  pub type_description-from : type_description (type_from head done) ≡ head.description
  type_description-from = (of_head head.kind).1

  pub type_name-from : type_name (type_from head done) ≡ head.name
  type_name-from = (of_head head.kind).2

  pub type_location-from : type_location (type_from head done) ≡ head.location
  type_location-from = (of_head head.kind).3

-- whether a definition is ignorable changes no type
pub type_from-ignorable : (p : TypePart) (b : Bool) (es : List Sourced)
    → type_from (record p { ignorable = b }) ((origins.Definition, record p { ignorable = b }) ∷ es)
    ≡ type_from p ((origins.Definition, p) ∷ es)
type_from-ignorable p b es = grind arith
