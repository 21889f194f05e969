-- Components that a name before them keeps out, and those that are kept.
use Rattle.apollo_meaning.proofs as meaning
use meaning.Prelude.{arith, ◌≡◌, ◌+◌, ◌<◌, ◌∷◌, map, sym, ◌∙◌, ℕ, option_map, lookup_key, name_entries}
use meaning.Prelude.{collision_at, list_any-map, Bool, if◌then◌else◌, IsEquivalence, distinct_names}
use meaning.Prelude.{lookup_key-find, List, ◌++◌, take, get_or, Some, None, find, Fault, Entry, [], on_equiv}
use meaning.Prelude.{Component, name_laws, component, found-any, find-made, length, is_some, ap, keys_of}
use meaning.Prelude.{map-map, NameView, NodeView, same_key, append_assoc, take_more, insert_entry}
use meaning.Prelude.{first_of_each, ComponentName, list_any, map-append, same_text, Collection, collisions}
use meaning.Prelude.{entry_laws, each_after-push, component_name, ComponentOrigin, insert_entry-last}
use meaning.Prelude.{first_of_each-push_new, first_of_each-push_old, same_component_name}
use meaning.Prelude.{list_any-first_of_each, find-first_of_each, keys_of-first_of_each}

pub component_name_laws : IsEquivalence same_component_name
component_name_laws = on_equiv (λ c. c.name) name_laws

module _ {X : Type 0} (same : X → X → Bool) (laws : IsEquivalence same) (xs : List X) (x : X) where
  -- one that is found is not added
  pub kept-old : (y : X) → find (same x) (first_of_each same xs) ≡ Some y
      → first_of_each same xs ≡ first_of_each same (xs ++ x ∷ [])
  kept-old y found = sym (first_of_each-push_old same laws xs x
      (grind (arith, found-any (same x) xs, find-first_of_each same laws x xs, found)))

  -- one that is not found goes last
  pub kept-put : find (same x) (first_of_each same xs) ≡ None
      → (if list_any (same x) (first_of_each same xs) then first_of_each same xs else first_of_each same xs
      ++ x ∷ []) ≡ first_of_each same (xs ++ x ∷ [])
  kept-put none = grind (
    arith,
    none,
    found-any (same x) (first_of_each same xs),
    list_any-first_of_each same laws x xs,
    first_of_each-push_new same laws xs x,
  )

-- the name that is found among names that are left is the first among all
pub found-name : (k : ComponentName) (ks : List ComponentName)
    → find (same_text k.name) (map (λ k. k.name) ks) ≡ option_map (λ k. k.name) (find (same_component_name k)
    (distinct_names ks))
found-name k ks = find-made _ _ ks ∙ ap (option_map (λ (k : ComponentName). k.name))
    (sym (find-first_of_each same_component_name component_name_laws k ks))

-- the first entry of each name
abbrev kept : {V : Type 0} → List (NameView × V) → List (NameView × V)
kept = first_of_each (same_key same_text)

-- a name that is found among those of entries is looked up among the ones that are left
pub found-key : {V : Type 0} (n : NameView) (es : List (NameView × V))
    → find (same_text n) (keys_of es) ≡ lookup_key (same_text n) (first_of_each (same_key same_text) es)
found-key n es = sym (lookup_key-find _ (kept es) ∙ ap (find (same_text n)) (keys_of-first_of_each same_text
    es) ∙ find-first_of_each same_text name_laws n _)

-- a name is found where some entry has it
key-any : {V : Type 0} (n : NameView) (es : List (NameView × V))
    → is_some (find (same_text n) (keys_of es)) ≡ list_any (λ e. same_text n e.0) es
key-any n es = found-any _ (keys_of es) ∙ list_any-map _ _ es

module _ {V : Type 0} (es : List (NameView × V)) (n : NameView) (v : V) where
  -- an entry whose name is found is not added
  pub entry-old : (old : NameView) → lookup_key (same_text n) (kept es) ≡ Some old
      → kept es ≡ kept (es ++ (n, v) ∷ [])
  entry-old old found =
      sym (first_of_each-push_old _ entry_laws es (n, v) (grind (arith, key-any n es, found-key n es, found)))

  -- an entry whose name is not found goes last
  pub entry-put : lookup_key (same_text n) (kept es) ≡ None
      → insert_entry same_text (kept es) n v ≡ kept (es ++ (n, v) ∷ [])
  entry-put none = grind (
    arith,
    none,
    key-any n es,
    found-key n es,
    insert_entry-last same_text (kept es) n v,
    list_any-first_of_each _ entry_laws (n, v) es,
    first_of_each-push_new _ entry_laws es (n, v),
  )

-- one more element of the front of a list
pub map-turn : {X Y : Type 0} (f : X → Y) (done : List Y) (xs : List X) (i : ℕ) (x : X) → i < length xs
    → x ≡ get_or xs i x → done ++ map f (take (i + 1) xs) ≡ (done ++ map f (take i xs)) ++ f x ∷ []
map-turn f done xs i x lt is = rw (take_more xs i x lt, sym is, map-append) (sym (append_assoc done _ _))

-- the faults after one more component of a list
pub collisions-turn : {X : Type 0} (c : Collection) (ty : NameView) (errors start : List Fault)
    (before all : List NameView) (entry : X → Entry) (xs : List X) (i : ℕ) (x : X) → i < length xs
    → x ≡ get_or xs i x → all ≡ before ++ map (λ e. e.0) (map entry (take i xs))
    → errors ≡ start ++ collisions c ty before (map entry (take i xs))
    → errors ++ collision_at c ty all (entry x) ≡ start ++ collisions c ty before
    (map entry (take (i + 1) xs))
collisions-turn c ty errors start before all entry xs i x lt is names was =
    let so_far = map entry (take i xs) in
    let at = λ (done : List Entry). collision_at c ty (before ++ map _ done) in
    (λ k. was k ++ collision_at c ty (names k) (entry x)) ∙ append_assoc start _ _
    ∙ ap (λ l. start ++ l) (sym (each_after-push at [] so_far _)
    ∙ ap (collisions c ty before) (sym (map-turn entry [] xs i x lt is)))

-- the names of components with this origin are those of what they come from
pub names-of-names : (o : ComponentOrigin) (ks : List ComponentName) (ns : List NameView)
    → map (λ k. k.name) (ks ++ map (component_name o) ns) ≡ map (λ k. k.name) ks
    ++ map (λ e. e.0) (name_entries ns)
names-of-names o ks ns = rw (map-append, map-map, map-map)

pub keys-of-nodes : {T : Type 0} (name : T → NameView) (o : ComponentOrigin)
    (es : List (NameView × Component T)) (ns : List (NodeView T))
    → keys_of (es ++ map (λ n. (name n.value, component o n)) ns) ≡ keys_of es ++ map (λ (e : Entry). e.0)
    (map (λ n. (name n.value, n.location)) ns)
keys-of-nodes name o es ns = rw (map-append, map-map, map-map)
