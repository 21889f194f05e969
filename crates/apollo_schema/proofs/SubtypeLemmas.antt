-- A type is a subtype of an interface where it is among the interface's implementers.
use Rattle.apollo_meaning.proofs.Prelude.{arith, ◌≡◌, Bool, true, false, cond, ◌||◌, ◌&&◌, List, [], ◌∷◌}
use Rattle.apollo_meaning.proofs.Prelude.{Option, Some, None, is_some, filter, refl, sym, ap, ◌∙◌, list_any}
use Rattle.apollo_meaning.proofs.Prelude.{flat_map, lookup, keys_of, option_map_or, list_any-append, NameView}
use Rattle.apollo_meaning.proofs.Prelude.{same_text, same-true, first_of_each, is_some-lookup}
use Rattle.apollo_meaning.proofs.Prelude.{list_any-first_of_each, name_laws, is_object, ExtendedType}
use Rattle.std.proofs.lemmas.Map.Entries.{lookup-filter-values, option_filter}
use Rattle.graphql_nodes.specs.KeySets.{has_key}
use Rattle.graphql_nodes.specs.Tables.{HasUniqueKeys}
use Rattle.apollo_types.specs.TypeKinds.{as_interface, is_interface}
use Rattle.apollo_schema.specs.Lookups.{Types, type_at, node_if, declares, declared_interfaces}
use Rattle.apollo_schema.specs.Lookups.{is_subtype, is_subtype_of}
use Rattle.apollo_schema.specs.Implementers.{names_declared, implementers_of, is_among, is_implementer}
use Rattle.apollo_component.proofs.Tabled.{lookup-tabled}
use Rattle.apollo_schema.proofs.ImplementerLemmas.{listed-names}

-- where no type declares an interface, the type of a name doesn't
undeclared : (types : Types) (test : NameView → Bool) (i : NameView)
    → list_any (same_text i) (flat_map (λ e. names_declared e.1) types) ≡ false
    → option_map_or (declares i) (lookup test types) false ≡ false
undeclared [] test i none = refl
undeclared (e ∷ types) test i none = grind (
  arith,
  undeclared types test i,
  listed-names i (declared_interfaces e.1),
  list_any-append (same_text i) (names_declared e.1) (flat_map (λ e. names_declared e.1) types),
)

-- a name is a key of a type that passes a test where its type does
has-key : (pass : ExtendedType → Bool) (types : Types) → HasUniqueKeys same_text types → (t : NameView)
    → has_key (same_text t) (first_of_each same_text (keys_of (filter (λ e. pass e.1) types)))
    ≡ is_some (option_filter pass (type_at types t))
has-key pass types unique t = list_any-first_of_each same_text name_laws t _ ∙ any-keys _
    ∙ sym (is_some-lookup _ (filter (λ e. pass e.1) types))
    ∙ ap is_some (lookup-filter-values name_laws pass t types unique)
  where
    any-keys : (es : Types) → list_any (same_text t) (keys_of es) ≡ list_any (λ e. same_text t e.0) es
    any-keys [] = refl
    any-keys (e ∷ es) = rw (any-keys es)

-- a type that declares an interface is an object or interface type
passes-either : (i : NameView) (found : Option ExtendedType)
    → (is_some (option_filter (λ ty. is_object ty && declares i ty) found)
    || is_some (option_filter (λ ty. is_interface ty && declares i ty) found)) ≡ option_map_or (declares i)
    found false
passes-either i None = refl
passes-either i (Some ty) = grind arith

-- a name is an implementer of an interface where its type declares that
implementer-declares : (types : Types) → HasUniqueKeys same_text types → (i t : NameView)
    → is_implementer types i t ≡ option_map_or (declares i) (type_at types t) false
implementer-declares types unique i t = ap (is_among t) (lookup-tabled same_text name_laws _ i one _)
    ∙ by (list_any (same_text i) names) refl
  where
    names : List NameView
    names = flat_map (λ e. names_declared e.1) types

    one : (k : NameView) → same_text i k ≡ true → implementers_of types k ≡ implementers_of types i
    one k e = ap (λ text. implementers_of types (record { text = text; location = None }))
        (sym (same-true i.text k.text e))

    declared : list_any (same_text i) (first_of_each same_text names) ≡ list_any (same_text i) names
    declared = list_any-first_of_each same_text name_laws i names

    by : (b : Bool) → list_any (same_text i) names ≡ b
        → is_among t (cond (list_any (same_text i) (first_of_each same_text names))
        (Some (implementers_of types i)) None) ≡ option_map_or (declares i) (type_at types t) false
    by true e = grind (
      arith,
      e,
      declared,
      has-key (λ ty. is_object ty && declares i ty) types unique t,
      has-key (λ ty. is_interface ty && declares i ty) types unique t,
      passes-either i (type_at types t),
    )
    by false e = grind (arith, e, declared, undeclared types (same_text t) i)

-- and there it is a subtype
pub subtype-implementer : (types : Types) → HasUniqueKeys same_text types → (i t : NameView)
    → is_some (node_if as_interface (type_at types i)) ≡ true
    → is_subtype types i t ≡ is_implementer types i t
subtype-implementer types unique i t interface = simp (by, implementer-declares)
  where
    by : (found : Option ExtendedType) → is_some (node_if as_interface found) ≡ true
        → is_subtype_of found types i t ≡ option_map_or (declares i) (type_at types t) false
    by None h = cc
    by (Some ty) h = grind arith
