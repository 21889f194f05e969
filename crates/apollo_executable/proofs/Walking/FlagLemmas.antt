-- The names of the fragments whose places are marked.
use Rattle.std.proofs.Common.{◌≡◌, ◌↔◌, ℕ, Bool, true, false, ◌||◌, cond, is_some, List, [], ◌∷◌, map, filter}
use Rattle.std.proofs.Common.{Option, None, Some, refl, ap, ◌∙◌, arith, get_or, eq-eqb}
use Rattle.std.specs.Prelude.{nat_eq, position, slice_index_or}
use Rattle.std.specs.Option.{option_map, option_map_or}
use Rattle.std.proofs.lemmas.Bool.{eqb-true}
use Rattle.std.proofs.lemmas.List.Quantifiers.{position-Some}
use Rattle.graphql_nodes.specs.NameView.{NameView}
use Rattle.graphql_nodes.specs.NodeView.{NodeView}
use Rattle.graphql_nodes.specs.SameText.{same, by_text}
use Rattle.graphql_nodes.specs.Tables.{keys_of, lookup}
use Rattle.graphql_nodes.proofs.Texts.{same-true, same-is}
use Rattle.apollo_walks.specs.Selections.{Names, no_names, with_name, fragment_of}
use Rattle.apollo_walks.specs.Reachable.{Among, Reachable}
use Rattle.apollo_executable.specs.Walks.Plain.{Plain, plain, fragments_of}
use Rattle.apollo_executable.specs.Walks.Left.{marked_names, opened_names}
use Rattle.apollo_executable.specs.declared.operation.Fragment.{Fragment}
use Rattle.apollo_executable.specs.declared.document.ExecutableDocument.{ExecutableDocument}

-- ---- fragments under their keys

fragment_of-entries : (deep : Bool) (es : List (NameView × NodeView Fragment)) (n : List ℕ)
    → fragment_of (map (λ e. (e.0.text, plain deep e.1.value.selection_set.selections)) es) n
    ≡ option_map (λ f. plain deep f.value.selection_set.selections) (lookup (by_text n) es)
fragment_of-entries deep [] n = refl
fragment_of-entries deep (e ∷ es) n = grind (arith, fragment_of-entries deep es n)

module _ (deep : Bool) (d : ExecutableDocument) (n : List ℕ) where
  pub fragment-found : (f : NodeView Fragment) → lookup (by_text n) d.fragments ≡ Some f
      → fragment_of (fragments_of deep d) n ≡ Some (plain deep f.value.selection_set.selections)
  unfolding fragments_of
  fragment-found f is = rw is at (fragment_of-entries deep d.fragments n)

  pub fragment-missing : lookup (by_text n) d.fragments ≡ None → fragment_of (fragments_of deep d) n ≡ None
  unfolding fragments_of
  fragment-missing is = rw is at (fragment_of-entries deep d.fragments n)

-- ---- marks

nameless : NameView
nameless = record { text = []; location = None }

abbrev at_place : List Bool → Option ℕ → Bool
at_place flags place = option_map_or (λ i. slice_index_or flags i false) place false

-- the key at the place of a name
name-at : (keys : List NameView) (n : List ℕ) (i : ℕ) → position (by_text n) keys ≡ Some i
    → n ≡ (get_or keys i nameless).text
name-at keys n i is = same-true n _ (position-Some _ keys i nameless is).1

module _ (keys : List NameView) (fs gs : List Bool) (n : List ℕ) (i : ℕ) where
  is_named : position (by_text n) keys ≡ Some i
      → ((k : ℕ) → slice_index_or gs k false ≡ cond (nat_eq i k) true (slice_index_or fs k false))
      → (m : List ℕ) (place : Option ℕ) → position (by_text m) keys ≡ place → (b : Bool) → same n m ≡ b
      → at_place gs place ≡ (b || at_place fs place)
  is_named there at m None is b alike = grind (arith, same-true n m)
  is_named there at m (Some j) is b alike = grind (
    arith,
    at j,
    same-true n m,
    eqb-true i j,
    eq-eqb i j,
    name-at keys n i there,
    name-at keys m j is,
    same-is n m,
  )

pub marked_names-mark : (d : ExecutableDocument) (fs gs : List Bool) (n : List ℕ) (i : ℕ)
    → position (by_text n) (keys_of d.fragments) ≡ Some i
    → ((k : ℕ) → slice_index_or gs k false ≡ cond (nat_eq i k) true (slice_index_or fs k false))
    → marked_names d gs ≡ with_name n (marked_names d fs)
unfolding marked_names with_name
marked_names-mark d fs gs n i place at = λ j m. is_named _ fs gs n i place at m _ refl _ refl j

-- the same places are marked
pub marked_names-same : (d : ExecutableDocument) (fs gs : List Bool)
    → ((k : ℕ) → slice_index_or gs k false ≡ slice_index_or fs k false)
    → marked_names d gs ≡ marked_names d fs
unfolding marked_names
marked_names-same d fs gs same_marks = ap {B = Names} (λ (mark : ℕ → Bool) (n : List ℕ). option_map_or mark
    (position (by_text n) (keys_of d.fragments)) false) (λ j k. same_marks k j)

pub marked_names-at : (d : ExecutableDocument) (fs : List Bool) (n : List ℕ) (i : ℕ) (b : Bool)
    → position (by_text n) (keys_of d.fragments) ≡ Some i → slice_index_or fs i false ≡ b
    → marked_names d fs n ≡ b
unfolding marked_names
marked_names-at d fs n i b place is = ap (at_place fs) place ∙ is

pub marked_names-empty : (d : ExecutableDocument) (fs : List Bool) → fs ≡ [] → marked_names d fs ≡ no_names
unfolding marked_names
marked_names-empty d fs is = ap (marked_names d) is
    ∙ (λ j n. no_flag (position (by_text n) (keys_of d.fragments)) j)
  where
    no_flag : (place : Option ℕ) → at_place [] place ≡ false
    no_flag place = grind arith

-- ---- the names as a list

filter-none : {A : Type 0} (xs : List A) → filter (λ _. false) xs ≡ []
filter-none [] = refl
filter-none (x ∷ xs) = filter-none xs

pub opened_names-empty : (d : ExecutableDocument) (names : Names) → names ≡ no_names
    → opened_names d names ≡ []
opened_names-empty d names is = ap (opened_names d) is ∙ filter-none (map (λ k. k.text) (keys_of d.fragments))

Among-filter : {A : Type 0} (p : A → Bool) (a : A) (xs : List A) → Among a (filter p xs) → p a ≡ true
Among-filter p a [] h = absurd h
Among-filter p a (x ∷ xs) h = grind (arith, h, Among-filter p a xs)

-- a name that is opened and has a fragment is one of the keys
key-opened : (es : List (NameView × NodeView Fragment)) (names : Names) (n : List ℕ) → names n ≡ true
    → is_some (lookup (by_text n) es) ≡ true → Among n (filter names (map (λ k. k.text) (keys_of es)))
key-opened [] names n held found = absurd (cc)
key-opened (e ∷ es) names n held found =
    grind (arith, held, found, same-true n e.0.text, key-opened es names n held)

-- the names that are opened at the end of a whole walk are those that it leads to
pub opened_names-reached : (deep : Bool) (d : ExecutableDocument) (s : Plain) (names : Names)
    → ((n : List ℕ) → (names n ≡ true) ↔ Reachable (fragments_of deep d) s n)
    → ((n : List ℕ) → Reachable (fragments_of deep d) s n → (set : Plain)
    × (fragment_of (fragments_of deep d) n ≡ Some set)) → (n : List ℕ)
    → Among n (opened_names d names) ↔ Reachable (fragments_of deep d) s n
unfolding fragments_of
opened_names-reached deep d s names opens defined n = (
  λ h. (opens n).0 (Among-filter names n (map (λ k. k.text) (keys_of d.fragments)) h),
  λ r. let there : is_some (lookup (by_text n) d.fragments) ≡ true =
      grind (arith, fragment_of-entries deep d.fragments n, (defined n r).1) in
      key-opened d.fragments names n ((opens n).1 r) there,
)
