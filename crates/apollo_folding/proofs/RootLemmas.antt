-- The roots of a schema definition and its extensions, one after another.
use Rattle.apollo_meaning.proofs.Prelude.{arith, ◌≡◌, ℕ, ◌+◌, ◌<◌, cond, get_or, take}
use Rattle.apollo_meaning.proofs.Prelude.{List, [], ◌∷◌, ◌++◌, Option, None, Some, length, map, refl, sym}
use Rattle.apollo_meaning.proofs.Prelude.{◌∙◌, find, flat_map, option_map, option_map_or}
use Rattle.apollo_meaning.proofs.Prelude.{option_or, append-nil, map-append, take_more, flat_map-append}
use Rattle.apollo_meaning.proofs.Prelude.{map-map, NameView, OperationType, Query, Mutation, Subscription}
use Rattle.apollo_meaning.proofs.Prelude.{each_after, each_after-push, each_after-start, ComponentName}
use Rattle.apollo_meaning.proofs.Prelude.{SchemaDefinition, or-none, Fault, SchemaPart}
use Rattle.apollo_meaning.proofs.Prelude.{Root, roots_in, SourcedSchema, schema_definition_of, schema_faults}
use Rattle.graphql_nodes.specs.OperationTexts.{operation_text}
use Rattle.apollo_component.specs.declared.extension.ComponentOrigin.{ComponentOrigin}
use Rattle.apollo_types.specs.SchemaRoots.{root_of}
use Rattle.apollo_meaning.specs.declared.build_error.BuildError.TheVariants as errors
use Rattle.apollo_meaning.specs.Schema.Definition.{same_operation, schema_directives_of, roots_of}
use Rattle.apollo_meaning.specs.Faults.RootFaults.{root_fault, root_faults}
use Rattle.apollo_folding.specs.RootTables.{NamedRoot, root_with_origin, first_named, with_roots, put_root}
use Rattle.apollo_folding.specs.RootTables.{held_fault, held_faults}

-- one more root
first-push : (op : OperationType) (rs : List NamedRoot) (r : NamedRoot)
    → first_named op (rs ++ r ∷ []) ≡ option_or (first_named op rs) (cond (same_operation op r.0) (Some r.1)
    None)
first-push op [] r = grind arith
first-push op (x ∷ rs) r = grind (arith, first-push op rs r)

-- a root is put where its operation has none
pub put-first : (d : SchemaDefinition) (rs : List NamedRoot) (op : OperationType) (c : ComponentName)
    → put_root op c (with_roots d rs) ≡ with_roots d (rs ++ (op, c) ∷ [])
put-first d rs Query c = simp (first-push, or-none)
put-first d rs Mutation c = simp (first-push, or-none)
put-first d rs Subscription c = simp (first-push, or-none)

pub root_of-first : (d : SchemaDefinition) (rs : List NamedRoot) (op : OperationType)
    → root_of (with_roots d rs) op ≡ first_named op rs
root_of-first d rs op = grind arith

-- one more root is folded
pub held_faults-turn : (rs : List NamedRoot) (o : ComponentOrigin) (xs : List Root) (i : ℕ) (x : Root)
    → i < length xs → x ≡ get_or xs i x
    → held_faults rs o (take (i + 1) xs) ≡ held_faults rs o (take i xs)
    ++ held_fault (first_named x.value.0 (rs ++ map (root_with_origin o) (take i xs))) x
held_faults-turn rs o xs i x lt is = rw (take_more xs i x lt, sym is, each_after-push)

-- names of roots, without their origins
abbrev Named : Type 0
Named = OperationType × NameView

abbrev name_of : NamedRoot → Named
name_of r = (r.0, r.1.name)

abbrev first_name : OperationType → List Named → Option NameView
first_name op ns = option_map (λ n. n.1) (find (λ n. same_operation op n.0) ns)

abbrev name_fault : Root → Option NameView → List Fault
name_fault r o = option_map_or
    (λ n. (r.location, errors.DuplicateRootOperation n.location (operation_text r.value.0)) ∷ []) o []

name-first : (op : OperationType) (rs : List NamedRoot)
    → option_map (λ c. c.name) (first_named op rs) ≡ first_name op (map name_of rs)
name-first op [] = refl
name-first op (r ∷ rs) = grind (arith, name-first op rs)

held-name : (o : Option ComponentName) (x : Root) → held_fault o x ≡ name_fault x (option_map (λ c. c.name) o)
held-name o x = grind arith

root-name : (before : List Root) (x : Root)
    → root_fault before x ≡ name_fault x (first_name x.value.0 (map (λ k. k.value) before))
root-name [] x = refl
root-name (k ∷ ks) x = grind (arith, root-name ks x)

-- where the roots before are the same, so are the faults
held-root_faults : (o : ComponentOrigin) (rs : List NamedRoot) (before xs : List Root)
    → map name_of rs ≡ map (λ k. k.value) before → held_faults rs o xs ≡ root_faults before xs
held-root_faults o rs before xs same = (λ i. each_after (λ done x. one done x i) [] xs)
    ∙ sym (each_after-start root_fault before xs)
  where
    more : (done : List Root)
        → map name_of (rs ++ map (root_with_origin o) done) ≡ map (λ k. k.value) (before ++ done)
    more done = rw (map-append, map-append, map-map, same)

    one : (done : List Root) (x : Root)
        → held_fault (first_named x.value.0 (rs ++ map (root_with_origin o) done)) x
        ≡ root_fault (before ++ done) x
    one done x = rw (held-name, name-first, more done, root-name)

-- the roots that parts name are those that they hold
pub roots-joined : (done : List SourcedSchema)
    → map name_of (flat_map roots_of done) ≡ map (λ k. k.value) (roots_in (map (λ s. s.1) done))
roots-joined [] = refl
roots-joined (s ∷ done) = rw (map-append, map-append, map-map, roots-joined done)

-- the faults of a part that joins parts
pub held-schema_faults : (done : List SourcedSchema) (o : ComponentOrigin) (part : SchemaPart)
    → held_faults (flat_map roots_of done) o part.parts.roots ≡ schema_faults (map (λ s. s.1) done) part
held-schema_faults done o part = held-root_faults o _ _ _ (roots-joined done)

-- what parts and one more have, joined
module _ {X : Type 0} (of : SourcedSchema → List X) (done : List SourcedSchema) (s : SourcedSchema) where
  one_more : flat_map of (done ++ s ∷ []) ≡ flat_map of done ++ of s
  one_more = rw (flat_map-append, append-nil (of s))

-- the schema definition with the directives and roots of parts and of one more is that of all
pub schema-push : (d : SchemaDefinition) (head : SchemaPart) (done : List SourcedSchema) (s : SourcedSchema)
    → d.description ≡ head.description
    → d.directives.0 ≡ flat_map schema_directives_of done ++ schema_directives_of s
    → with_roots d (flat_map roots_of done ++ roots_of s) ≡ schema_definition_of head (done ++ s ∷ [])
schema-push d head done s description directives =
    grind (arith, one_more schema_directives_of done s, one_more roots_of done s)
