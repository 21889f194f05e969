-- The names and the waiting extensions of a list with one more item.
use Rattle.apollo_meaning.proofs as meaning
use meaning.Prelude.{arith, ◌≡◌, ℕ, true, false, cond, List, [], ◌∷◌, ◌++◌, Some, None, is_some, refl, sym}
use meaning.Prelude.{◌∙◌, IsEquivalence, on_equiv, nat_list_eq_equiv, append-nil, map-append, same_key}
use meaning.Prelude.{is_some-lookup, first_of_each-push_new, first_of_each-push_old, TypePart, key_of}
use meaning.Prelude.{ListItem, Defined, Extended, defined_part, extended_part, same, first, extensions_of}
use meaning.Prelude.{type_names, orphans_of, same-true, same-is, or-none}
use meaning.Items.ItemLemmas.{definitions-push_definition, definitions-push_undefined, first-push_definition}
use meaning.Items.ItemLemmas.{first-push_undefined, extensions_of-push_extension}
use meaning.Items.ItemLemmas.{extensions_of-push_unextended}
use Rattle.apollo_meaning.specs.Items.Named.{definitions}

by_key : IsEquivalence (same_key {V = TypePart} same)
by_key = on_equiv (λ e. e.0) nat_list_eq_equiv

module _ (xs : List ListItem) (p : TypePart) where
  pub type_names-new : is_some (first xs (key_of p)) ≡ false
      → type_names (xs ++ Defined p ∷ []) ≡ type_names xs ++ p.name ∷ []
  type_names-new none = rw (
    definitions-push_definition xs p,
    first_of_each-push_new (same_key same) by_key (definitions xs)
        (key_of p, p) (sym (is_some-lookup _ (definitions xs)) ∙ none),
    map-append,
  )

  pub type_names-again : is_some (first xs (key_of p)) ≡ true
      → type_names (xs ++ Defined p ∷ []) ≡ type_names xs
  type_names-again there = rw (
    definitions-push_definition xs p,
    first_of_each-push_old (same_key same) by_key (definitions xs)
        (key_of p, p) (sym (is_some-lookup _ (definitions xs)) ∙ there),
  )

  -- a second definition leaves each name's first
  pub first-again : (n : List ℕ) (d : TypePart) → first xs (key_of p) ≡ Some d
      → first (xs ++ Defined p ∷ []) n ≡ first xs n
  first-again n d some =
      grind (arith, first-push_definition xs p n, same-true n (key_of p), or-none (first xs n))

  -- a first definition leaves each other name's
  pub first-other : (n : List ℕ) → same n (key_of p) ≡ false → first (xs ++ Defined p ∷ []) n ≡ first xs n
  first-other n e = rw (first-push_definition xs p n, e, or-none)

  pub first-own : first xs (key_of p) ≡ None → first (xs ++ Defined p ∷ []) (key_of p) ≡ Some p
  first-own none = rw (first-push_definition xs p _, none, same-is _ _ refl)

-- waiting extensions depend on the first definition and on the extensions
orphans_of-same : (xs ys : List ListItem) (n : List ℕ) → first ys n ≡ first xs n
    → extensions_of ys n ≡ extensions_of xs n → orphans_of ys n ≡ orphans_of xs n
orphans_of-same xs ys n f e = rw (f, e)

pub orphans_of-defined : (xs : List ListItem) (n : List ℕ) (d : TypePart) → first xs n ≡ Some d
    → orphans_of xs n ≡ []
orphans_of-defined xs n d f = rw f

pub orphans_of-undefined : (xs : List ListItem) (n : List ℕ) → first xs n ≡ None
    → orphans_of xs n ≡ extensions_of xs n
orphans_of-undefined xs n f = rw f

module _ (xs : List ListItem) (p : TypePart) where
  pub orphans_of-new : (n : List ℕ) → first xs (key_of p) ≡ None
      → orphans_of (xs ++ Defined p ∷ []) n ≡ cond (same n (key_of p)) [] (orphans_of xs n)
  orphans_of-new n none = grind (
    arith,
    orphans_of-defined (xs ++ Defined p ∷ []) n p,
    first-own xs p none,
    same-true n (key_of p),
    orphans_of-same xs (xs ++ Defined p ∷ []) n,
    first-other xs p n,
    extensions_of-push_unextended xs (Defined p) refl n,
  )

  pub orphans_of-again : (n : List ℕ) (d : TypePart) → first xs (key_of p) ≡ Some d
      → orphans_of (xs ++ Defined p ∷ []) n ≡ orphans_of xs n
  orphans_of-again n d some = orphans_of-same xs (xs ++ Defined p ∷ []) n (first-again xs p n d some)
      (extensions_of-push_unextended xs _ refl n)

  -- an extension of another name
  extensions_of-other : (n : List ℕ) → same n (key_of p) ≡ false
      → extensions_of (xs ++ Extended p ∷ []) n ≡ extensions_of xs n
  extensions_of-other n e = rw (extensions_of-push_extension xs p n, e, append-nil)

  pub orphans_of-late : (n : List ℕ) (d : TypePart) → first xs (key_of p) ≡ Some d
      → orphans_of (xs ++ Extended p ∷ []) n ≡ orphans_of xs n
  orphans_of-late n d some = grind (
    arith,
    first-push_undefined xs (Extended p) refl n,
    same-true n (key_of p),
    orphans_of-defined xs n d,
    orphans_of-defined (xs ++ Extended p ∷ []) n d,
    orphans_of-same xs (xs ++ Extended p ∷ []) n,
    extensions_of-other n,
  )

  pub orphans_of-early : (n : List ℕ) → first xs (key_of p) ≡ None
      → orphans_of (xs ++ Extended p ∷ []) n ≡ cond (same n (key_of p)) (orphans_of xs n
      ++ p ∷ []) (orphans_of xs n)
  orphans_of-early n none = grind (
    arith,
    first-push_undefined xs (Extended p) refl n,
    same-true n (key_of p),
    orphans_of-undefined xs n,
    orphans_of-undefined (xs ++ Extended p ∷ []) n,
    orphans_of-same xs (xs ++ Extended p ∷ []) n,
    extensions_of-other n,
    extensions_of-push_extension xs p n,
  )

-- an item that defines no type leaves names, and one that extends none either leaves what waits
module _ (xs : List ListItem) (x : ListItem) (none : defined_part x ≡ None) where
  pub type_names-undefined : type_names (xs ++ x ∷ []) ≡ type_names xs
  type_names-undefined = rw (definitions-push_undefined xs x none)

  pub orphans_of-neither : extended_part x ≡ None → (n : List ℕ)
      → orphans_of (xs ++ x ∷ []) n ≡ orphans_of xs n
  orphans_of-neither unextended n = orphans_of-same xs (xs ++ x ∷ []) n (first-push_undefined xs x none n)
      (extensions_of-push_unextended xs x unextended n)
