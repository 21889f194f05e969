-- Which selections are below a path, by the places at which some were dropped.
use Rattle.std.proofs.Common.{◌≡◌, ◌≢◌, ◌⊎◌, ◌↔◌, ◌++◌, ◌+◌, ◌-◌, ◌<◌, ◌≤◌, ℕ, zero, suc, Bool, List, [], ◌∷◌}
use Rattle.std.proofs.Common.{Any}
use Rattle.std.proofs.Common.{IsPermutation, IsSomeAnd, IsTrue, Option, None, Some, arith, ap, get_or, inl}
use Rattle.std.proofs.Common.{inr, length, map}
use Rattle.std.proofs.Common.{length-take, refl, subst, sym, take, take-take, ⊎_elim}
use Rattle.std.specs.List.{cons_option, list_any}
use Rattle.std.specs.Option.{option_map}
use Rattle.std.proofs.lemmas.List.{length-map, map-append, take_more}
use Rattle.std.proofs.lemmas.List.Elements.{filter_map-append}
use Rattle.std.proofs.lemmas.List.Folds.{Any-from_list_any, list_any-from_Any}
use Rattle.std.proofs.lemmas.List.Sorted.{Contains-permutation, IsPermutation-sym}
use Rattle.apollo_document.specs.Typable.{Fault}
use Rattle.apollo_document.specs.declared.build_error.BuildError.{BuildError}
use Rattle.apollo_document.specs.declared.build_error.BuildError.TheVariants as e
use Rattle.apollo_document.specs.declared.selection_path.ExecutableDefinitionName.{ExecutableDefinitionName}
use Rattle.apollo_document.specs.declared.selection_path.SelectionPath.{SelectionPath}
use Rattle.graphql_nodes.specs.Comparing.{bare_name}
use Rattle.graphql_nodes.specs.NameView.{NameView}
use Rattle.leafcheck.specs.LostPlaces.{around, lost_at, lost_places, path_at, without_last}
use Rattle.leafcheck.specs.LostSubselections.{BeginsWith, GoesOn, HasLost, IsOfBelow}
use Rattle.leafcheck.specs.PathOrder.{begins_with}
use Rattle.leafcheck.specs.declared.places.Place.{Place}
use Rattle.leafcheck.proofs.PathOrderLemmas.{begins_with-Begins}

-- the fact holds of the first element or of another
abbrev AnyOf : {A : Type 0} → (A → Type 0) → List A → Type 0
AnyOf P [] = ⊥
AnyOf P (x ∷ xs) = P x ⊎ AnyOf P xs

module _ {A : Type 0} (P : A → Type 0) where
  any_from : (xs : List A) → AnyOf P xs → Any P xs
  any_from [] any = absurd any
  any_from (x ∷ xs) (inl here) = (0, x, omega arith, refl, here)
  any_from (x ∷ xs) (inr there) =
      let rest = any_from xs there in
      (suc rest.0, rest.1, omega (arith, rest.2), rest.3, rest.4)

  any_at : (xs : List A) (k : ℕ) (x : A) → k < length xs → get_or xs k x ≡ x → P x → AnyOf P xs
  any_at [] k x below is holds = absurd (omega arith)
  any_at (y ∷ xs) zero x below is holds = inl (subst P (sym is) holds)
  any_at (y ∷ xs) (suc k) x below is holds = inr (any_at xs k x (omega arith) is holds)

  -- and so it holds of some element
  pub any_of : (xs : List A) → Any P xs ↔ AnyOf P xs
  any_of xs = (λ any. any_at xs any.0 any.1 any.2 any.3 any.4, any_from xs)

  -- of elements in another order
  moved : (xs ys : List A) → IsPermutation xs ys → Any P xs → Any P ys
  moved xs ys moves any =
      let there = Contains-permutation xs ys any.1 moves (any.0, any.2, any.3) in
      (there.0, any.1, there.1, there.2, any.4)

  of_option : (option : Option A) (xs : List A)
      → AnyOf P (cons_option option xs) ↔ (IsSomeAnd option P ⊎ AnyOf P xs)
  of_option None xs = (inr, ⊎_elim (λ no. absurd no) (λ any. any))
  of_option (Some x) xs = (λ any. any, λ any. any)

-- what passes a test is something of which a fact holds that the test says
any_tested : {A : Type 0} (test : A → Bool) (P : A → Type 0) → ((x : A) → IsTrue (test x) ↔ P x)
    → (xs : List A) → IsTrue (list_any test xs) ↔ Any P xs
any_tested test P says xs = (
  λ passes.
      let any = Any-from_list_any test xs passes in
      (any.0, any.1, any.2, any.3, (says any.1).0 any.4),
  λ any. list_any-from_Any test xs (any.0, any.1, any.2, any.3, (says any.1).1 any.4),
)

-- of what a function gives
of_map : {A B : Type 0} (P : B → Type 0) (f : A → B) (xs : List A)
    → AnyOf (λ x. P (f x)) xs ↔ AnyOf P (map f xs)
of_map P f [] = (λ any. any, λ any. any)
of_map P f (x ∷ xs) =
    let rest = of_map P f xs in
    (⊎_elim inl (λ any. inr (rest.0 any)), ⊎_elim inl (λ any. inr (rest.1 any)))

-- a path without its last key, by how many keys there are
pub around-none : (root : ExecutableDefinitionName) (keys : List NameView) → length keys ≡ 0
    → without_last root keys ≡ None
around-none root [] none = refl
around-none root (key ∷ keys) none = absurd (omega arith)

pub around-some : (root : ExecutableDefinitionName) (keys : List NameView) → length keys ≢ 0
    → without_last root keys ≡ Some (record { root = root; nested_fields = take (length keys - 1) keys })
around-some root [] some = absurd (some refl)
around-some root (key ∷ keys) some =
    let fewer : length keys ≡ length (key ∷ keys) - 1 = omega arith in
    ap (λ (n : ℕ). Some (record { root = root; nested_fields = take n (key ∷ keys) })) fewer

-- of the first keys not more begin with others than there are
fits : (m : ℕ) (xs keys : List NameView) → map bare_name (take (length keys) (take m xs)) ≡ map bare_name keys
    → length keys ≤ m
fits m xs keys is = omega (
  arith,
  ap length is,
  length-map (take (length keys) (take m xs)) bare_name,
  length-map keys bare_name,
  length-take (length keys) (take m xs),
  length-take m xs,
)

-- a path goes on behind another where it begins with that without its last key
keys_go_on : (outer : SelectionPath) (root : ExecutableDefinitionName) (keys : List NameView)
    → IsSomeAnd (without_last root keys) (λ place. BeginsWith place outer)
    ↔ GoesOn (record { root = root; nested_fields = keys }) outer
keys_go_on outer root [] = (λ never. absurd never, λ goes. absurd (omega (arith, goes.1)))
keys_go_on outer root (key ∷ keys) =
    let n = length outer.nested_fields in
    let whole = key ∷ keys in (
      λ begins.
          let few = fits (length keys) whole outer.nested_fields begins.1 in
          ((begins.0, rw (take-take n (length keys) whole few) at begins.1), omega (arith, few)),
      λ goes.
          let few : n ≤ length keys = omega (arith, goes.1) in
          (goes.0.0, rw (take-take n (length keys) whole few) goes.0.1),
    )

goes_on : (outer path : SelectionPath) → IsSomeAnd (around path) (λ place. BeginsWith place outer)
    ↔ GoesOn path outer
goes_on outer path = keys_go_on outer path.root path.nested_fields

-- an error is of a selection below the field of a path, where the place that it names begins with the path
of_below : (outer : SelectionPath) (error : BuildError)
    → IsSomeAnd (lost_at error) (λ place. BeginsWith place outer) ↔ IsOfBelow outer error
of_below outer (e.UndefinedTypeInInlineFragmentTypeCondition ty path) = (λ is. is, λ is. is)
of_below outer (e.SubselectionOnScalarType ty path) = goes_on outer path
of_below outer (e.SubselectionOnEnumType ty path) = goes_on outer path
of_below outer (e.UndefinedField ty field path) = goes_on outer path
of_below outer error = (λ no. no, λ no. no)

of_faults : (outer : SelectionPath) (faults : List Fault)
    → AnyOf (λ place. BeginsWith place outer) (lost_places faults)
    ↔ AnyOf (λ (fault : Fault). IsOfBelow outer fault.1) faults
of_faults outer [] = (λ any. any, λ any. any)
of_faults outer (fault ∷ faults) =
    let first = of_below outer fault.1 in
    let rest = of_faults outer faults in
    let apart = of_option (λ place. BeginsWith place outer) (lost_at fault.1) (lost_places faults) in (
      λ any. ⊎_elim (λ is. inl (first.0 is)) (λ is. inr (rest.0 is)) (apart.0 any),
      λ any. apart.1 (⊎_elim (λ is. inl (first.1 is)) (λ is. inr (rest.1 is)) any),
    )

-- the place of one fault more
place_alone : (found : Option Place)
    → map path_at (cons_option found []) ≡ cons_option (option_map path_at found) []
place_alone None = refl
place_alone (Some place) = refl

pub places_more : (faults : List Fault) (i : ℕ) (fault : Fault) (old new : List Place) (found : Option Place)
    → i < length faults → fault ≡ get_or faults i fault → map path_at old ≡ lost_places (take i faults)
    → option_map path_at found ≡ lost_at fault.1 → new ≡ old ++ cons_option found []
    → map path_at new ≡ lost_places (take (i + 1) faults)
places_more faults i fault old new found below is was here adds =
    rw (
      adds,
      map-append,
      place_alone found,
      was,
      here,
      take_more faults i fault below,
      ← is,
      filter_map-append,
    ) refl

-- the places of faults, in any order, say what the faults say
pub places_say : (faults : List Fault) (found sorted : List Place) (outer : SelectionPath)
    → map path_at found ≡ lost_places faults → IsPermutation found sorted
    → IsTrue (list_any (λ (place : Place). begins_with (path_at place) outer) sorted) ↔ HasLost outer faults
places_say faults found sorted outer are moves =
    let begins : SelectionPath → Bool = λ place. begins_with place outer in
    let Begins : SelectionPath → Type 0 = λ place. BeginsWith place outer in
    let Lent : Place → Type 0 = λ place. Begins (path_at place) in
    let Below : Fault → Type 0 = λ fault. IsOfBelow outer fault.1 in
    let mapped = of_map Begins path_at found in
    let said = of_faults outer faults in
    let tested = any_tested (λ (place : Place). begins (path_at place)) Lent
    (λ place. begins_with-Begins (path_at place) outer) sorted in (
      λ any. (any_of Below faults).1 (said.0 (subst (AnyOf Begins) are (mapped.0 ((any_of Lent found).0
          (moved Lent sorted found (IsPermutation-sym found sorted moves) (tested.0 any)))))),
      λ any. tested.1 (moved Lent found sorted moves ((any_of Lent found).1 (mapped.1 (subst (AnyOf Begins)
          (sym are) (said.1 ((any_of Below faults).0 any)))))),
    )
