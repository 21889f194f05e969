-- Components that are dropped from what was made of parts are those that are dropped where a part joins them.
use Rattle.apollo_meaning.proofs.Prelude.{◌≡◌, List, [], ◌∷◌, ◌++◌, ◌∙◌, sym, ap, map, refl, append_assoc}
use Rattle.apollo_meaning.proofs.Prelude.{append-nil, flat_map, keys_of, map-append, NameView, TypePart}
use Rattle.apollo_meaning.proofs.Prelude.{Sourced, Fault, collisions}
use Rattle.apollo_meaning.specs.declared.collision.Collection.{Collection}
use Rattle.graphql_ast.specs.Parts.{Sort, Names, Fields, Values, InputFields}
use Rattle.apollo_meaning.specs.Items.Parts.{held_parts}
use Rattle.apollo_meaning.specs.Faults.TypeFaults.{held_sort, entries_of, names_in, dropped_from}
use Rattle.apollo_meaning.proofs.Faults.KeptLemmas.{names-of-names, keys-of-nodes}
pub use Rattle.apollo_meaning.specs.Types.Components.{names_of, fields_of, values_of, input_fields_of}

-- where what is made of each part has the names of a sort, what is made of all has those of all
joined : {X : Type 0} (s : Sort) (made : Sourced → List X) (name : X → NameView)
    → ((p : Sourced) → map name (made p) ≡ map (λ e. e.0) (entries_of s p.1)) → (done : List Sourced)
    → map name (flat_map made done) ≡ names_in s (map (λ p. p.1) done)
joined s made name one [] = refl
joined s made name one (p ∷ done) = rw (map-append, one p, joined s made name one done)

module _ (done : List Sourced) where
  pub names-joined : map (λ k. k.name) (flat_map names_of done) ≡ names_in Names (map (λ s. s.1) done)
  names-joined = joined Names names_of (λ k. k.name) (λ s. names-of-names s.0 [] (held_parts s.1).names) done

  pub fields-joined : keys_of (flat_map fields_of done) ≡ names_in Fields (map (λ s. s.1) done)
  fields-joined = joined Fields fields_of (λ e. e.0) (λ s. keys-of-nodes (λ f. f.name) s.0 []
      (held_parts s.1).fields) done

  pub values-joined : keys_of (flat_map values_of done) ≡ names_in Values (map (λ s. s.1) done)
  values-joined = joined Values values_of (λ e. e.0) (λ s. keys-of-nodes (λ v. v.value) s.0 []
      (held_parts s.1).values) done

  pub input_fields-joined : keys_of (flat_map input_fields_of done)
      ≡ names_in InputFields (map (λ s. s.1) done)
  input_fields-joined = joined InputFields input_fields_of (λ e. e.0) (λ s. keys-of-nodes (λ f. f.name) s.0 []
      (held_parts s.1).input_fields) done

-- what is found in a collection with the names of these parts, before other faults and as the last
module _ (c : Collection) (done : List Sourced) (p : TypePart) (before after : List Fault)
    (names : List NameView) (are : names ≡ names_in (held_sort c) (map (λ s. s.1) done)) (found : after
    ≡ before ++ collisions c p.name names (entries_of (held_sort c) p)) where
  abbrev dropped : List Fault
  dropped = dropped_from (map (λ s. s.1) done) p c

  found-before : (rest : List Fault) → after ++ rest ≡ before ++ (dropped ++ rest)
  found-before rest = rw (found, are) (append_assoc before dropped rest)

  pub found-last : after ≡ before ++ (dropped ++ [])
  found-last = rw (found, are, append-nil)

-- and in the interfaces and fields that a type is made of, one after the other
pub found-both : (c d : Collection) → held_sort c ≡ Names → held_sort d ≡ Fields → (done : List Sourced)
    (p : TypePart) (before between after : List Fault)
    → between ≡ before ++ collisions c p.name (map (λ k. k.name) (flat_map names_of done))
    (entries_of (held_sort c) p)
    → after ≡ between ++ collisions d p.name (keys_of (flat_map fields_of done)) (entries_of (held_sort d) p)
    → after ≡ before ++ (dropped_from (map (λ s. s.1) done) p c ++ (dropped_from (map (λ s. s.1) done) p d
    ++ []))
found-both c d listed declared done p before between after found then =
    let named : Sort → List NameView = λ s. names_in s (map (λ q. q.1) done) in
    found-last d done p between after _ (fields-joined done ∙ ap named (sym declared)) then
    ∙ found-before c done p before between _ (names-joined done ∙ ap named (sym listed)) found _
