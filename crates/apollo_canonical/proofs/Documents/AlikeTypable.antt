-- What is typable in a type, and what is wrong with the rest, don't see locations.
use Rattle.apollo_document.specs.Typable.{Fault}
use Rattle.apollo_canonical.proofs.Prelude.{Bool, BuildError, Err, FieldDefinition, List, NameView, NodeView}
use Rattle.apollo_canonical.proofs.Prelude.{None, Ok, Option, Result, Schema, SelectionPath, Some, SourceSpan}
use Rattle.apollo_canonical.proofs.Prelude.{Wrong, [], ap, arith, bare_build_error, bare_field_definition}
use Rattle.apollo_canonical.proofs.Prelude.{bare_name, bare_node, bare_path, below_or_wrong, child_of}
use Rattle.apollo_canonical.proofs.Prelude.{defined_as, false, has_type, if_there, if_typable, leaf_fault}
use Rattle.apollo_canonical.proofs.Prelude.{lookup_key, map, option_map, option_map_or, refl, same_text}
use Rattle.apollo_canonical.proofs.Prelude.{subst, sym, true, typable_field, typable_fragment, undefined}
use Rattle.apollo_canonical.proofs.Prelude.{unless_leaf, with_subselections, ◌∙◌, ◌∷◌, ◌≡◌}
use Rattle.apollo_component.specs.declared.component.Component.{Component}
use Rattle.apollo_types.specs.declared.extended_type.ExtendedType.{ExtendedType}
use Rattle.apollo_types.specs.declared.extended_type.ExtendedType.TheVariants.{Enum, Scalar}
use Rattle.apollo_schema.specs.Lookups.{field_at, field_of_type, type_at}
use Rattle.apollo_document.specs.declared.build_error.BuildError.TheVariants as e

-- what a fault says, without locations
abbrev pub said : Fault → BuildError
said f = bare_build_error f.1

-- two names are one, but for their locations
abbrev pub AreOneName : NameView → NameView → Type 0
AreOneName a b = bare_name a ≡ bare_name b

-- two paths are one, but for locations
abbrev pub AreOnePath : SelectionPath → SelectionPath → Type 0
AreOnePath p q = bare_path p ≡ bare_path q

-- two definitions are one, but for locations, and so are the types that subselections are from
abbrev pub AreOneDefinition : NodeView FieldDefinition → NodeView FieldDefinition → Type 0
AreOneDefinition c d = (bare_node bare_field_definition c ≡ bare_node bare_field_definition d)
    × AreOneName (child_of c) (child_of d)

-- the same is said of what is wrong, but for locations
abbrev pub SayOne : Wrong → Wrong → Type 0
SayOne v w = (l k : Option SourceSpan) (p q : SelectionPath) → AreOnePath p q → map said (v l p)
    ≡ map said (w k q)

-- both are typable, and P holds of what they are typed by, or the same is wrong with both
abbrev pub AreJudgedAlike : {A : Type 0} → (A → A → Type 0) → Result A Wrong → Result A Wrong → Type 0
AreJudgedAlike P (Ok a) (Ok b) = P a b
AreJudgedAlike P (Err v) (Err w) = SayOne v w
AreJudgedAlike P _ _ = ⊥

-- ---- fields

undefined-alike : (name : NameView) (key : Option NameView)
    → SayOne (undefined (bare_name name) key) (undefined name key)
undefined-alike name (Some key) l k p q along = simp along
undefined-alike name None l k p q along = refl

-- a definition that the schema gives, or what is wrong with its subselections, is one with itself
leaf-alike : (d : NodeView FieldDefinition) (bare : Bool) (type : Option ExtendedType)
    → let judged = unless_leaf bare d (leaf_fault (child_of d) type) in
    AreJudgedAlike AreOneDefinition judged judged
leaf-alike d false (Some (Scalar n)) = λ l k p q along i. e.SubselectionOnScalarType (bare_name (child_of d))
    (along i) ∷ []
leaf-alike d false (Some (Enum n)) = λ l k p q along i. e.SubselectionOnEnumType (bare_name (child_of d))
    (along i) ∷ []
leaf-alike d bare type = (refl, refl)

module _ (s : Schema) where
  -- the definition of a field, by the key that its type has and by what is found of its name
  judged : Bool → NameView → Option NameView → Option (Component FieldDefinition)
      → Result (NodeView FieldDefinition) Wrong
  judged bare name key found = with_subselections s bare (defined_as name key found)

  judged-alike : (bare : Bool) (name : NameView) (key : Option NameView)
      (found : Option (Component FieldDefinition))
      → AreJudgedAlike AreOneDefinition (judged bare (bare_name name) key found) (judged bare name key found)
  unfolding judged
  judged-alike bare name key (Some c) = leaf-alike c.node bare _
  judged-alike bare name key None = undefined-alike name key

  -- the field of a name in a type
  field-bare : (ty name : NameView) (type : Option ExtendedType)
      → option_map_or (field_of_type s ty name) type None
      ≡ option_map_or (field_of_type s (bare_name ty) (bare_name name)) type None
  field-bare ty name type = grind arith

  field-found : (a b name : NameView) → AreOneName a b → field_at s a (bare_name name) ≡ field_at s b name
  field-found a b name one = field-bare a _ (type_at s.types a) ∙ (λ i. field_at s (one i) (bare_name name))
      ∙ sym (field-bare b name _)

pub field-judged : (s : Option Schema) (a b name : NameView) (bare also : Bool) → bare ≡ also → AreOneName a b
    → AreJudgedAlike AreOneDefinition (typable_field s a (bare_name name) bare) (typable_field s b name also)
unfolding judged
field-judged None a b name bare also e one = (refl, refl)
field-judged (Some s) a b name bare also e one =
    let found = field-found s a b name one in
    subst (λ (x : Bool × Option NameView × Option (Component FieldDefinition)). AreJudgedAlike
    AreOneDefinition (typable_field (Some s) a (bare_name name) bare) (judged s x.0 name x.1 x.2))
    (λ i. (e i, lookup_key (same_text (one i)) s.types, found i)) (judged-alike s bare name _ _)

-- ---- inline fragments

pub type-there : (s : Option Schema) (a : NameView) → has_type s (bare_name a) ≡ has_type s a
type-there s a = grind arith

there-alike : (there : Bool) (c : NameView)
    → AreJudgedAlike AreOneName (if_there there (bare_name c)) (if_there there c)
there-alike true c = refl
there-alike false c = λ l k p q along i. e.UndefinedTypeInInlineFragmentTypeCondition (bare_name c) (along i)
    ∷ []

pub fragment-judged : (s : Option Schema) (a b : NameView) (c : Option NameView) → AreOneName a b
    → AreJudgedAlike AreOneName (typable_fragment s a (option_map bare_name c)) (typable_fragment s b c)
fragment-judged s a b None one = one
fragment-judged s a b (Some c) one =
    subst (λ (there : Bool). AreJudgedAlike AreOneName (if_there there (bare_name c))
    (if_there (has_type s c) c)) (sym (type-there s c)) (there-alike _ c)

-- ---- what is made of them

module _ {A : Type 0} (P : A → A → Type 0) where
  pub typed-alike : {B C : Type 0} (seen also : B → C) (f g : A → B) (r t : Result A Wrong)
      → AreJudgedAlike P r t → ((x y : A) → P x y → seen (f x) ≡ also (g y))
      → option_map seen (if_typable f r) ≡ option_map also (if_typable g t)
  typed-alike seen also f g (Ok x) (Ok y) h made = ap Some (made x y h)
  typed-alike seen also f g (Err v) (Err w) h made = refl
  typed-alike seen also f g r t h made = absurd h

  pub faults-alike : (f g : A → List Fault) (l k : Option SourceSpan) (p q : SelectionPath)
      (r t : Result A Wrong) → AreJudgedAlike P r t → AreOnePath p q
      → ((x y : A) → P x y → map said (f x) ≡ map said (g y))
      → map said (below_or_wrong f l p r) ≡ map said (below_or_wrong g k q t)
  faults-alike f g l k p q (Ok x) (Ok y) h along below = below x y h
  faults-alike f g l k p q (Err v) (Err w) h along below = h l k p q along
  faults-alike f g l k p q r t h along below = absurd h
