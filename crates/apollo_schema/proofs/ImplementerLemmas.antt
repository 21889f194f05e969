-- What `implementers_map` makes of types, one after another.
use Rattle.apollo_meaning.proofs as meaning
use meaning.Prelude.{arith, ◌≡◌, ℕ, Bool, true, false, cond, not, ◌||◌, ◌&&◌, List, [], ◌∷◌, ◌++◌, Some, None}
use meaning.Prelude.{map, filter, refl, sym, ap, ◌∙◌, append_assoc, list_any, flat_map, lookup, keys_of}
use meaning.Prelude.{set_value, append-nil, map-append, filter-append, list_any-append, flat_map-append}
use meaning.Prelude.{NameView, same_text, same-true, same-flip, first_of_each, ComponentName}
use meaning.Prelude.{first_of_each-push_old, list_any-first_of_each, name_laws, is_object, ExtendedType}
use Rattle.std.specs.Prelude.{unwrap_or}
use Rattle.std.proofs.lemmas.Bool.{or_parts}
use Rattle.indexmap.specs.IndexSet.{insert_key}
use Rattle.graphql_nodes.proofs.Texts.{same-refl}
use Rattle.apollo_component.proofs.Tabled.{tabled, first_of_each-distinct, first_of_each-insert}
use Rattle.apollo_component.proofs.Tabled.{tabled-insert, lookup-tabled, insert_entry-found}
use Rattle.apollo_types.specs.TypeKinds.{is_interface}
use Rattle.apollo_schema.specs.Lookups.{Types, declared_interfaces, is_listed, declares}
use Rattle.apollo_schema.specs.Implementers.{names_declared, implementers_of, implementers_map}
use Rattle.apollo_schema.specs.Noted.{no_implementers, with_implementer, noted, noted_under}
use Rattle.apollo_schema.specs.declared.implementers.Implementers.{Implementers}

abbrev names_of : List ComponentName → List NameView
names_of cs = map (λ c. c.name) cs

-- a name is listed where it is one of the names
pub listed-names : (i : NameView) (cs : List ComponentName)
    → list_any (same_text i) (map (λ c. c.name) cs) ≡ is_listed i cs
listed-names i [] = refl
listed-names i (c ∷ cs) = rw (listed-names i cs)

or_true : (b : Bool) → (b || true) ≡ true
or_true b = grind arith

or_false : (b : Bool) → (b || false) ≡ b
or_false b = grind arith

listed-push : (i : NameView) (cs : List ComponentName) (c : ComponentName)
    → is_listed i (cs ++ c ∷ []) ≡ (is_listed i cs || same_text i c.name)
listed-push i [] c = grind arith
listed-push i (d ∷ cs) c = grind (arith, listed-push i cs c)

-- where no type declares an interface, none of any kind does
pub none-declares : (kind : ExtendedType → Bool) (types : Types) (i : NameView)
    → list_any (same_text i) (flat_map (λ e. names_declared e.1) types) ≡ false
    → filter (λ e. kind e.1 && declares i e.1) types ≡ []
none-declares kind [] i none = refl
none-declares kind (e ∷ types) i none = grind (
  arith,
  none-declares kind types i,
  listed-names i (declared_interfaces e.1),
  list_any-append (same_text i) (names_declared e.1) (flat_map (λ e. names_declared e.1) types),
)

-- all names of interfaces that types declare
abbrev raw : Types → List NameView
raw types = flat_map (λ e. names_declared e.1) types

-- the keys of the types of one kind that declare an interface
abbrev keys_declaring : (ExtendedType → Bool) → Types → NameView → List NameView
keys_declaring kind types i = keys_of (filter (λ e. kind e.1 && declares i e.1) types)

-- one name, or none
abbrev one_if : Bool → NameView → List NameView
one_if b k = cond b (k ∷ []) []

-- the implementers of an interface among types and one more, of which these interfaces were noted
abbrev value : Types → Bool → NameView → List ComponentName → NameView → Implementers
value types is_object_type k cs i = record {
  objects = first_of_each same_text (keys_declaring is_object types i
      ++ one_if (is_object_type && is_listed i cs) k);
  interfaces = first_of_each same_text (keys_declaring is_interface types i ++ one_if (not is_object_type
      && is_listed i cs) k);
}

abbrev grown : Types → Bool → NameView → List ComponentName → List (NameView × Implementers)
grown types is_object_type k cs =
    tabled (value types is_object_type k cs) (first_of_each same_text (raw types ++ names_of cs))

-- a name that is noted once more stays
put : (ks : List NameView) (listed : Bool) (k : NameView)
    → insert_key same_text (first_of_each same_text (ks ++ one_if listed k)) k
    ≡ first_of_each same_text (ks ++ k ∷ [])
put ks false k = simp (append-nil, first_of_each-insert same_text name_laws)
put ks true k = simp (
  ← first_of_each-insert same_text name_laws,
  first_of_each-push_old same_text name_laws _ k there,
)
  where
    there : list_any (same_text k) (ks ++ k ∷ []) ≡ true
    there = simp (list_any-append, same-refl, or_true)

module _ (types : Types) (k : NameView) where
  -- the same text gives the same implementers
  value-text : (o : Bool) (cs : List ComponentName) (c i : NameView) → same_text c i ≡ true
      → value types o k cs i ≡ value types o k cs c
  value-text o cs c i e = ap (λ (t : List ℕ). value types o k cs (record { text = t; location = None }))
      (sym (same-true c.text i.text e))

  -- another interface noted changes no other
  value-other : (o : Bool) (cs : List ComponentName) (c : ComponentName) (i : NameView)
      → same_text c.name i ≡ false → value types o k cs i ≡ value types o k (cs ++ c ∷ []) i
  value-other o cs c i e = simp (listed-push, same-flip, or_false)

  -- the name noted under the interface
  value-own : (o : Bool) (cs : List ComponentName) (c : ComponentName)
      → with_implementer o k (value types o k cs c.name) ≡ value types o k (cs ++ c ∷ []) c.name
  value-own o cs c = grind (arith, listed-push c.name cs c, same-refl c.name.text, put)

  -- nothing was noted under a name that no type declares
  value-none : (o : Bool) (cs : List ComponentName) (i : NameView)
      → list_any (same_text i) (raw types ++ names_of cs) ≡ false → value types o k cs i ≡ no_implementers
  value-none o cs i none =
      let parts = or_parts _ _ (sym (list_any-append (same_text i) (raw types) (names_of cs)) ∙ none) in
      let os = none-declares is_object types i parts.0 in
      let is = none-declares is_interface types i parts.0 in
      let listed = sym (listed-names i cs) ∙ parts.1 in
      grind (arith, os, is, listed)

  -- one more interface noted
  grown-push : (o : Bool) (cs : List ComponentName) (c : ComponentName)
      → noted o k (grown types o k cs) c ≡ grown types o k (cs ++ c ∷ [])
  grown-push o cs c = rw (
    was,
    value-own o cs c,
    tabled-insert same_text name_laws (value types o k cs)
        (value types o k (cs ++ c ∷ [])) c.name (value-other o cs c) (value-text o (cs ++ c ∷ []) c.name) _
        (first_of_each-distinct same_text before),
    sym after,
    first_of_each-insert same_text name_laws before c.name,
  )
    where
      before : List NameView
      before = raw types ++ names_of cs

      after : before ++ c.name ∷ [] ≡ raw types ++ names_of (cs ++ c ∷ [])
      after = simp (append_assoc, map-append)

      was : unwrap_or (lookup (same_text c.name) (grown types o k cs)) no_implementers
          ≡ value types o k cs c.name
      was = grind (
        arith,
        lookup-tabled same_text name_laws (value types o k cs) c.name
            (value-text o cs c.name) (first_of_each same_text before),
        value-none o cs c.name,
        list_any-first_of_each same_text name_laws c.name before,
      )

  -- more interfaces noted, one after another
  grown-more : (o : Bool) (cs more : List ComponentName)
      → noted_under o k (grown types o k cs) more ≡ grown types o k (cs ++ more)
  grown-more o cs [] = rw append-nil
  grown-more o cs (c ∷ more) = simp (grown-push o cs c, grown-more o (cs ++ c ∷ []) more, append_assoc)

  -- none is noted yet
  grown-start : (o : Bool) → implementers_map types ≡ grown types o k []
  grown-start true = simp append-nil
  grown-start false = simp append-nil

  -- all are: the types with one more
  grown-end : (o : Bool) (ty : ExtendedType)
      → ((i : NameView) → (is_object ty && declares i ty) ≡ (o && declares i ty))
      → ((i : NameView) → (is_interface ty && declares i ty) ≡ (not o && declares i ty))
      → grown types o k (declared_interfaces ty) ≡ implementers_map (types ++ (k, ty) ∷ [])
  grown-end o ty objects interfaces = (λ j. tabled (λ i. by i j) (first_of_each same_text (names j)))
    where
      names : raw types ++ names_of (declared_interfaces ty) ≡ raw (types ++ (k, ty) ∷ [])
      names = simp (append-nil, flat_map-append)

      key-of-one : (b : Bool) → one_if b k ≡ keys_of (cond b ((k, ty) ∷ []) [])
      key-of-one b = grind arith

      keys : (kind : ExtendedType → Bool) (i : NameView)
          → keys_declaring kind types i ++ one_if (kind ty && declares i ty) k
          ≡ keys_declaring kind (types ++ (k, ty) ∷ []) i
      keys kind i = simp (key-of-one, map-append, filter-append)

      by : (i : NameView)
          → value types o k (declared_interfaces ty) i ≡ implementers_of (types ++ (k, ty) ∷ []) i
      by i = simp (← objects i, ← interfaces i, keys is_object i, keys is_interface i)

  -- a type noted under each interface that it declares
  pub implementers_map-push : (ty : ExtendedType)
      → noted_under (is_object ty) k (implementers_map types) (declared_interfaces ty)
      ≡ implementers_map (types ++ (k, ty) ∷ [])
  implementers_map-push ty = ap (λ m. noted_under (is_object ty) k m (declared_interfaces ty)) (grown-start _)
      ∙ grown-more _ [] (declared_interfaces ty) ∙ grown-end _ ty (λ i. refl) (interface ty)
    where
      interface : (ty : ExtendedType) (i : NameView)
          → (is_interface ty && declares i ty) ≡ (not (is_object ty) && declares i ty)
      interface ty i = grind arith

-- a name noted where the interface's implementers stand
pub noted-found : (o : Bool) (k : NameView) (map : List (NameView × Implementers)) (i : ComponentName)
    (m : Implementers) → lookup (same_text i.name) map ≡ Some m
    → set_value (same_text i.name) map (with_implementer o k m) ≡ noted o k map i
noted-found o k map i m there =
    simp (insert_entry-found same_text map i.name m (with_implementer o k m) there, there)
