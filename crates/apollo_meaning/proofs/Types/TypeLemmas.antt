-- The type of a name with one more item, and the extensions that are folded into it.
use Rattle.apollo_meaning.proofs as meaning
use meaning.Prelude.{arith, ◌≡◌, ℕ, ◌+◌, Bool, true, false, cond, List, [], ◌∷◌, ◌++◌, length, map, Option}
use meaning.Prelude.{Some, None, filter, refl, ap, subst, ◌∙◌, filter_map, option_map_or, option_or}
use meaning.Prelude.{append-nil, filter-append, filter_map-append, or-none, snoc_ind, TypeKind, TypePart}
use meaning.Prelude.{kind_of, key_of, ListItem, Defined, Extended, Folding, OfType, OfSchema, extended_part}
use meaning.Prelude.{same, first, extensions_of, of_kind, types_folded_at, schemas_folded_at, folded_at}
use meaning.Prelude.{folded, type_from, extension_part, numbered, extensions_with_origin, parts, same-true}
use meaning.Prelude.{AllByRecursion, each-filter, each-weaken, filter-all, filter_map-made, filter_map-unmade}
use Rattle.apollo_component.proofs.Lists.Kept.{map-empty}
use meaning.Items.ItemLemmas.{first-push_definition, extensions_with_origin-append, first-push_undefined}
use meaning.Items.ItemLemmas.{extensions_of-push_unextended, folded-push, extensions_of-push_extension}
use Rattle.std.proofs.lemmas.List.Elements.{filter_passes, recursion_from_All}
use Rattle.apollo_component.specs.declared.extension.ComponentOrigin.TheVariants as origins
use Rattle.apollo_component.proofs.Lists.Each.{filter-fails}
use Rattle.apollo_meaning.specs.Types.Meaning.{type_of}

-- each part has the name
abbrev pub Own : List ℕ → List TypePart → Type 0
Own n = AllByRecursion (λ p. same n (key_of p) ≡ true)

-- no part has the name
abbrev pub Apart : List ℕ → List TypePart → Type 0
Apart n = AllByRecursion (λ p. same n (key_of p) ≡ false)

-- the parts that have the name
abbrev with_name : List ℕ → List TypePart → List TypePart
with_name n = filter (λ p. same n (key_of p))

pub Own-named : (n : List ℕ) (ps : List TypePart) → Own n (filter (λ p. same n (key_of p)) ps)
Own-named n ps = recursion_from_All _ _ (filter_passes _ ps)

pub Own-of_kind : (n : List ℕ) (k : TypeKind) (ps : List TypePart) → Own n ps → Own n (of_kind k ps)
Own-of_kind n k ps own = each-weaken _ _ (λ p both. both.0) _ (each-filter _ _ ps own)

pub Apart-own : (n m : List ℕ) (ps : List TypePart) → same n m ≡ false → Own m ps → Apart n ps
Apart-own n m ps apart = each-weaken _ _ (λ p e. subst (λ (q : List ℕ). same n q ≡ false) (same-true m _ e)
    apart) ps

-- the extensions of types among those that are folded
abbrev pub type_folding : Folding → Option TypePart
type_folding (OfType p) = Some p
type_folding (OfSchema s) = None

abbrev pub type_foldings : List Folding → List TypePart
type_foldings fs = filter_map type_folding fs

type_foldings-at : (xs : List ListItem) (x : ListItem) → type_foldings (folded_at xs x) ≡ types_folded_at xs x
type_foldings-at xs x = filter_map-append type_folding (map OfType (types_folded_at xs x)) _
    ∙ (λ i. filter_map-made type_folding OfType (λ p. refl) (types_folded_at xs x) i
    ++ filter_map-unmade type_folding OfSchema (λ s. refl) (schemas_folded_at xs x) i) ∙ append-nil _

type_foldings-push : (xs : List ListItem) (x : ListItem)
    → type_foldings (folded (xs ++ x ∷ [])) ≡ type_foldings (folded xs) ++ types_folded_at xs x
type_foldings-push xs x = rw (folded-push xs x, filter_map-append, type_foldings-at xs x)

-- what is folded at the first definition of a name, and at a later one; at an extension without definition,
-- and at one with
module _ (xs : List ListItem) (p : TypePart) where
  pub types_folded_at-new : first xs (key_of p) ≡ None
      → types_folded_at xs (Defined p) ≡ of_kind (kind_of p) (extensions_of xs (key_of p))
  types_folded_at-new none = rw none

  pub types_folded_at-again : (d : TypePart) → first xs (key_of p) ≡ Some d
      → types_folded_at xs (Defined p) ≡ []
  types_folded_at-again d some = rw some

  pub types_folded_at-early : first xs (key_of p) ≡ None → types_folded_at xs (Extended p) ≡ []
  types_folded_at-early none = rw none

  pub types_folded_at-late : (d : TypePart) → first xs (key_of p) ≡ Some d
      → types_folded_at xs (Extended p) ≡ of_kind (kind_of d) (p ∷ [])
  types_folded_at-late d some = rw some

-- of a name those are folded that have the kind of its first definition, and none before that
module _ (n : List ℕ) where
  abbrev joined : List TypePart → Option TypePart → List TypePart
  joined es o = option_map_or (λ d. of_kind (kind_of d) es) o []

  at-extension : (xs : List ListItem) (p : TypePart) (b : Bool) → same n (key_of p) ≡ b
      → joined (extensions_of xs n) (first xs n) ++ with_name n (types_folded_at xs (Extended p))
      ≡ joined (extensions_of xs n ++ cond b (p ∷ []) []) (first xs n)
  at-extension xs p b e = grind (
    arith,
    e,
    same-true n (key_of p),
    append-nil (joined (extensions_of xs n) (first xs n)),
    append-nil (extensions_of xs n),
    filter-append,
  )

  at-definition : (xs : List ListItem) (p : TypePart) (b : Bool) → same n (key_of p) ≡ b
      → joined (extensions_of xs n) (first xs n) ++ with_name n (types_folded_at xs (Defined p))
      ≡ joined (extensions_of xs n) (option_or (first xs n) (cond b (Some p) None))
  at-definition xs p true e = grind (
    arith,
    e,
    same-true n _ e,
    filter-all _ _ (Own-of_kind n (kind_of p) (extensions_of xs n) (Own-named n _)),
    append-nil (joined (extensions_of xs n) (first xs n)),
  )
  at-definition xs p false e =
      let es = of_kind (kind_of p) (extensions_of xs (key_of p)) in
      let none = filter-fails _ _ (λ q g. g) es (Apart-own n (key_of p) es e (Own-of_kind (key_of p)
      (kind_of p) (extensions_of xs (key_of p)) (Own-named _ (filter_map extended_part xs)))) in
      grind (arith, e, none, append-nil (joined (extensions_of xs n) (first xs n)), or-none (first xs n))

  pub foldings-of_name : (xs : List ListItem)
      → with_name n (type_foldings (folded xs)) ≡ joined (extensions_of xs n) (first xs n)
  foldings-of_name = snoc_ind _ refl (λ xs x before. rw (type_foldings-push xs x, filter-append, before)
      (step xs x))
    where
      step : (xs : List ListItem) (x : ListItem)
          → joined (extensions_of xs n) (first xs n) ++ with_name n (types_folded_at xs x)
          ≡ joined (extensions_of (xs ++ x ∷ []) n) (first (xs ++ x ∷ []) n)
      step xs (Defined p) = rw (first-push_definition xs p n, extensions_of-push_unextended xs _ refl n)
          (at-definition xs p _ refl)
      step xs (Extended p) = rw (first-push_undefined xs _ refl n, extensions_of-push_extension xs p n)
          (at-extension xs p _ refl)
      step xs x = rw (append-nil, first-push_undefined xs x refl n, extensions_of-push_unextended xs x refl n)

-- the folded extensions of a name, with their origins forgotten
pub extensions_with_origin-forget : (n : List ℕ) (start : ℕ) (fs : List Folding)
    → map (λ s. s.1) (extensions_with_origin n start fs) ≡ with_name n (type_foldings fs)
extensions_with_origin-forget n start [] = refl
extensions_with_origin-forget n start (OfSchema s ∷ fs) = extensions_with_origin-forget n _ fs
extensions_with_origin-forget n start (OfType p ∷ fs) =
    grind (arith, extensions_with_origin-forget n (start + 1) fs)

-- where no part has the name, none is folded
extensions_with_origin-none : (n : List ℕ) (start : ℕ) (fs : List Folding)
    → with_name n (type_foldings fs) ≡ [] → extensions_with_origin n start fs ≡ []
extensions_with_origin-none n start fs none = map-empty _ _ (extensions_with_origin-forget n start fs ∙ none)

extensions_with_origin-own : (n : List ℕ) (start : ℕ) (ps : List TypePart) → Own n ps
    → extensions_with_origin n start (map OfType ps) ≡ map extension_part (numbered start ps)
extensions_with_origin-own n start [] own = refl
extensions_with_origin-own n start (p ∷ ps) own =
    rw own.0 (ap (λ l. extension_part (start, p) ∷ l) (extensions_with_origin-own n (start + 1) ps own.1))

-- what is folded at an item that concerns the name
extensions_with_origin-at : (n : List ℕ) (start : ℕ) (xs : List ListItem) (x : ListItem)
    → Own n (types_folded_at xs x)
    → extensions_with_origin n start (folded_at xs x)
    ≡ map extension_part (numbered start (types_folded_at xs x))
extensions_with_origin-at n start xs x own =
    let next = start + length (map OfType (types_folded_at xs x)) in
    let unmade = filter_map-unmade type_folding OfSchema (λ s. refl) (schemas_folded_at xs x) in
    extensions_with_origin-append n start (map OfType (types_folded_at xs x)) _
    ∙ (λ i. extensions_with_origin-own n start _ own i ++ extensions_with_origin-none n next
    (map OfSchema (schemas_folded_at xs x)) (ap (with_name n) unmade) i) ∙ append-nil _

module _ (start : ℕ) (xs : List ListItem) (x : ListItem) (n : List ℕ) where
  abbrev next : ℕ
  next = start + length (folded xs)

  extensions_with_origin-push : extensions_with_origin n start (folded (xs ++ x ∷ []))
      ≡ extensions_with_origin n start (folded xs) ++ extensions_with_origin n next (folded_at xs x)
  extensions_with_origin-push = rw (folded-push xs x) (extensions_with_origin-append n start (folded xs) _)

  -- an item that does not concern the name leaves its type
  pub type_of-same : first (xs ++ x ∷ []) n ≡ first xs n → Apart n (types_folded_at xs x)
      → type_of start (folded (xs ++ x ∷ [])) (xs ++ x ∷ []) n ≡ type_of start (folded xs) xs n
  type_of-same one apart =
      let none : with_name n _ ≡ [] = ap (with_name n) (type_foldings-at xs x) ∙ filter-fails _ _ (λ p e. e) _
      apart in
      let same_ones : extensions_with_origin n start (folded (xs ++ x ∷ [])) ≡ extensions_with_origin n start
      (folded xs) = extensions_with_origin-push
      ∙ rw (extensions_with_origin-none n next _ none, append-nil) in
      rw (one, same_ones)

  -- and one that does adds what is folded there
  pub type_of-more : (d : TypePart) → first (xs ++ x ∷ []) n ≡ Some d → Own n (types_folded_at xs x)
      → type_of start (folded (xs ++ x ∷ [])) (xs ++ x ∷ []) n
      ≡ Some (type_from d (parts start (folded xs) n d ++ map extension_part
      (numbered next (types_folded_at xs x))))
  type_of-more d one own = rw (one, extensions_with_origin-push, extensions_with_origin-at n next xs x own)

  -- at the first definition there is nothing before it
  pub type_of-new : (d : TypePart) → first xs n ≡ None → first (xs ++ x ∷ []) n ≡ Some d
      → Own n (types_folded_at xs x)
      → type_of start (folded (xs ++ x ∷ [])) (xs ++ x ∷ []) n ≡ Some (type_from d ((origins.Definition, d)
      ∷ map extension_part (numbered next (types_folded_at xs x))))
  type_of-new d none one own =
      let before = extensions_with_origin-none n start (folded xs) (foldings-of_name n xs
      ∙ ap (joined n (extensions_of xs n)) none) in
      type_of-more d one own ∙ rw before
