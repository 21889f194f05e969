-- Types of variables and of locations, compared step by step.
use Rattle.std.proofs.Common.{rules, ◌≡◌, ◌≢◌, true, false}
use Rattle.graphql_nodes.specs.SameText.{same_text}
use Rattle.graphql_ast.specs.TypeReferences.{inner_name, is_list, is_required, item_type, made_nullable}
use Rattle.graphql_ast.specs.TypesCompatible.{are_types_compatible}
use Rattle.graphql_ast.specs.declared.type_reference.Type.{«Type» as TypeReference, roll-Type, out-Type}
use Rattle.graphql_ast.specs.declared.type_reference.Type.{the_lemmas}
use Rattle.graphql_ast.specs.declared.type_reference.Type.TheViews.{roll-out-Type}
use Rattle.graphql_ast.specs.declared.type_reference.Type.TheOpen.{Type-F}

-- what holds of all opened types holds of all types
opened : (P : TypeReference → TypeReference → Type 0)
    → ((z y : Type-F TypeReference) → P (roll-Type z) (roll-Type y)) → (v l : TypeReference) → P v l
opened P each v l = rw (roll-out-Type v, roll-out-Type l) at (each (out-Type v) (out-Type l))

abbrev NullableAtNonNull : TypeReference → TypeReference → Type 0
NullableAtNonNull v l = is_required l ≡ true → is_required v ≡ false
    → are_types_compatible v l ≡ false

pub nullable_at_non_null : (v l : TypeReference) → NullableAtNonNull v l
nullable_at_non_null = opened NullableAtNonNull steps where
  steps : (z y : Type-F TypeReference) → NullableAtNonNull (roll-Type z) (roll-Type y)
  steps (Type-F.Named m) (Type-F.Named n) = search (rules, the_lemmas)
  steps z y = search (rules, the_lemmas)

abbrev BothNonNull : TypeReference → TypeReference → Type 0
BothNonNull v l = is_required l ≡ true → is_required v ≡ true
    → are_types_compatible v l
    ≡ are_types_compatible (made_nullable v) (made_nullable l)

pub both_non_null : (v l : TypeReference) → BothNonNull v l
both_non_null = opened BothNonNull steps where
  steps : (z y : Type-F TypeReference) → BothNonNull (roll-Type z) (roll-Type y)
  steps (Type-F.Named m) (Type-F.Named n) = search (rules, the_lemmas)
  steps z y = search (rules, the_lemmas)

abbrev NonNullAtNullable : TypeReference → TypeReference → Type 0
NonNullAtNullable v l = is_required l ≡ false → is_required v ≡ true
    → are_types_compatible v l ≡ are_types_compatible (made_nullable v) l

pub non_null_at_nullable : (v l : TypeReference) → NonNullAtNullable v l
non_null_at_nullable = opened NonNullAtNullable steps where
  steps : (z y : Type-F TypeReference) → NonNullAtNullable (roll-Type z) (roll-Type y)
  steps (Type-F.Named m) (Type-F.Named n) = search (rules, the_lemmas)
  steps z y = search (rules, the_lemmas)

abbrev Lists : TypeReference → TypeReference → Type 0
Lists v l = is_required l ≡ false → is_required v ≡ false → is_list l ≡ true
    → is_list v ≡ true
    → are_types_compatible v l ≡ are_types_compatible (item_type v) (item_type l)

pub lists : (v l : TypeReference) → Lists v l
lists = opened Lists steps where
  steps : (z y : Type-F TypeReference) → Lists (roll-Type z) (roll-Type y)
  steps (Type-F.Named m) (Type-F.Named n) = search (rules, the_lemmas)
  steps z y = search (rules, the_lemmas)

abbrev OneList : TypeReference → TypeReference → Type 0
OneList v l = is_required l ≡ false → is_required v ≡ false
    → is_list l ≢ is_list v → are_types_compatible v l ≡ false

pub one_list : (v l : TypeReference) → OneList v l
one_list = opened OneList steps where
  steps : (z y : Type-F TypeReference) → OneList (roll-Type z) (roll-Type y)
  steps (Type-F.Named m) (Type-F.Named n) = search (rules, the_lemmas)
  steps z y = search (rules, the_lemmas)

abbrev Names : TypeReference → TypeReference → Type 0
Names v l = is_required l ≡ false → is_required v ≡ false → is_list l ≡ false
    → is_list v ≡ false
    → are_types_compatible v l ≡ same_text (inner_name v) (inner_name l)

pub names : (v l : TypeReference) → Names v l
names = opened Names steps where
  steps : (z y : Type-F TypeReference) → Names (roll-Type z) (roll-Type y)
  steps (Type-F.Named m) (Type-F.Named n) = search (rules, the_lemmas)
  steps z y = search (rules, the_lemmas)
