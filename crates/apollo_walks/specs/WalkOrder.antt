-- The order of a walk, in which each field comes before those below it, and a fragment where it is spread
-- first.
--
-- **Order of walks.** `Order` relates the names that are opened before, selections, the fields that these
-- give, and the names that they open. Both the fields and these names come one after the other. No selection
-- gives no field. A field gives itself, then what is below it, then the rest. An inline fragment gives its
-- selections, then the rest. A spread of a name that no fragment has, or that is opened, gives the rest. Any
-- other one opens its name and gives the fragment's selections, then the rest.
use Rattle.std.specs.Prelude.{◌≡◌, ◌⊎◌, ℕ, true, false, List, [], ◌∷◌, ◌++◌, None, Some}
use Rattle.apollo_walks.specs.Selections.{Selections, none, field, spread, inline, Fragments, Names}
use Rattle.apollo_walks.specs.Selections.{with_name, with_names, fragment_of}

-- where these names are opened, the selections give these fields, one after the other, and open those names,
-- one after the other
pub data Order {F : Type 0} (fragments : Fragments F) : Names → Selections F → List F → List (List ℕ)
    → Type 0 where
  -- no selection gives no field
  of_none : {before : Names} → Order fragments before none [] []
  -- an inline fragment gives its selections, then the rest
  of_inline : {before : Names} {inner rest : Selections F} {first others : List F} {opened more : List
      (List ℕ)}
      → Order fragments before inner first opened
      → Order fragments (with_names opened before) rest others more
      → Order fragments before (inline inner rest) (first ++ others) (opened ++ more)
  -- a field gives itself, then what is below it, then the rest: the last two as an inline fragment does
  of_field : {before : Names} {f : F} {below rest : Selections F} {fields : List F} {opened : List (List ℕ)}
      → Order fragments before (inline below rest) fields opened
      → Order fragments before (field f below rest) (f ∷ fields) opened
  -- a spread of a name that is opened, or that has no fragment, gives the rest
  of_passed : {before : Names} {n : List ℕ} {rest : Selections F} {fields : List F} {opened : List (List ℕ)}
      → (before n ≡ true) ⊎ (fragment_of fragments n ≡ None) → Order fragments before rest fields opened
      → Order fragments before (spread n rest) fields opened
  -- any other spread opens the name, then gives its fragment, then the rest: the last two as an inline
  -- fragment does
  of_fragment : {before : Names} {n : List ℕ} {set rest : Selections F} {fields : List F} {opened : List
      (List ℕ)}
      → before n ≡ false → fragment_of fragments n ≡ Some set
      → Order fragments (with_name n before) (inline set rest) fields opened
      → Order fragments before (spread n rest) fields (n ∷ opened)
