-- A name put into a set of names: it goes last, unless it is there.
use Rattle.apollo_meaning.proofs.Prelude.{arith, ◌≡◌, false, [], ◌∷◌, ◌++◌, List, Option, Some, None, is_some}
use Rattle.apollo_meaning.proofs.Prelude.{map, if◌then◌else◌, find, list_any}
use Rattle.apollo_meaning.proofs.Prelude.{same_text, ComponentName, same_component_name}
use Rattle.apollo_meaning.proofs.Prelude.{distinct_names, append-nil, NameView, Fault, Entry}
use Rattle.apollo_meaning.proofs.Prelude.{collision}
use Rattle.apollo_meaning.specs.Faults.Collisions.{collision_at}
use Rattle.apollo_meaning.specs.declared.collision.Collection.{Collection}
use Rattle.apollo_component.proofs.LaterLemmas.{found-any}
use Rattle.apollo_component.proofs.Lists.Cases.{find-none}
use Rattle.apollo_meaning.proofs.Faults.KeptLemmas.{component_name_laws, found-name, kept-old, kept-put}

-- what isn't there is none
pub none-of : {X : Type 0} (o : Option X) → is_some o ≡ false → o ≡ None
none-of o h = grind arith

module _ (ks : List ComponentName) (x : ComponentName) where
  pub name-put : (if list_any (same_component_name x) (distinct_names ks) then distinct_names ks else
      distinct_names ks ++ x ∷ []) ≡ distinct_names (ks ++ x ∷ [])
  name-put = grind (
    arith,
    kept-put same_component_name component_name_laws ks x,
    kept-old same_component_name component_name_laws ks x,
    found-any (same_component_name x) (distinct_names ks),
  )

  pub name-nowhere : list_any (same_component_name x) (distinct_names ks) ≡ false
      → find (same_text x.name) (map (λ k. k.name) ks) ≡ None
  name-nowhere absent = rw (found-name x ks, find-none (same_component_name x) (distinct_names ks) absent)

-- what is found at a component, by whether these names before it have its own
module _ (before : List Fault) (c : Collection) (ty : NameView) (names : List NameView) (e : Entry) where
  pub found-there : (kept : NameView) → find (same_text e.0) names ≡ Some kept
      → before ++ (e.1, collision c kept ty) ∷ [] ≡ before ++ collision_at c ty names e
  found-there kept there = rw there

  pub found-nowhere : find (same_text e.0) names ≡ None → before ≡ before ++ collision_at c ty names e
  found-nowhere none = rw (none, append-nil)
