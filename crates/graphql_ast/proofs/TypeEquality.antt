-- Equality of type references.
use Rattle.std.proofs.Common.{rules, ◌≡◌, Bool, false, nat_eq}
use lib.Pointwise.{pointwise}
use denote.Hole.Compared.{compared_is}
use Rattle.graphql_nodes.specs.NameView.{NameView}
use Rattle.graphql_nodes.specs.Comparing.{bare_name}
use Rattle.graphql_ast.specs.Bare.{bare_type, type_step}
use Rattle.graphql_ast.specs.declared.type_reference.Type.TheBlock as block
use Rattle.graphql_ast.specs.declared.type_reference.Type.{«Type» as TypeReference, roll-Type, out-Type}
use Rattle.graphql_ast.specs.declared.type_reference.Type.{fold-roll-Type, ind-Type, the_lemmas}
use Rattle.graphql_ast.specs.declared.type_reference.Type.TheViews.{out-roll-Type, roll-out-Type}
use Rattle.graphql_ast.specs.declared.type_reference.Type.TheFolds.{map-Type}
use Rattle.graphql_ast.specs.declared.type_reference.Type.TheOpen.{Type-F}
use Rattle.graphql_ast.specs.contracts.type_reference.TypePartialEq.TheImpl as impl
use Rattle.graphql_ast.specs.contracts.type_reference.TypePartialEq.TheImpl.Laws as laws
use Rattle.graphql_nodes.proofs.Comparisons.{At, Compared, Compares, inside, met, name_at}

-- what `==` answers
unfoldable pub type_eq : TypeReference → TypeReference → Bool
type_eq = impl.ghosts.eq

abbrev name_eq : NameView → NameView → Bool
name_eq a b = pointwise nat_eq a.text b.text

-- one level of `==`
abbrev layer_eq : Type-F TypeReference → Type-F TypeReference → Bool
layer_eq (Type-F.Named m) (Type-F.Named n) = name_eq m n
layer_eq (Type-F.NonNullNamed m) (Type-F.NonNullNamed n) = name_eq m n
layer_eq (Type-F.List x) (Type-F.List y) = type_eq x y
layer_eq (Type-F.NonNullList x) (Type-F.NonNullList y) = type_eq x y
layer_eq _ _ = false

abbrev bare_layer : Type-F TypeReference → Type-F TypeReference
bare_layer (Type-F.Named n) = Type-F.Named (bare_name n)
bare_layer (Type-F.NonNullNamed n) = Type-F.NonNullNamed (bare_name n)
bare_layer (Type-F.List x) = Type-F.List (bare_type x)
bare_layer (Type-F.NonNullList x) = Type-F.NonNullList (bare_type x)

eq-roll : (y z : Type-F TypeReference) → type_eq (roll-Type y) (roll-Type z) ≡ layer_eq y z
unfolding type_eq
eq-roll (Type-F.Named x) z = rw (compared_is _ _ _ _ _ _ laws.local block.member-Type)
    (search (rules, the_lemmas))
eq-roll y z = rw (compared_is _ _ _ _ _ _ laws.local block.member-Type) (search (rules, the_lemmas))

bare-roll : (z : Type-F TypeReference) → bare_type (roll-Type z) ≡ roll-Type (bare_layer z)
bare-roll (Type-F.Named x) = fold-roll-Type TypeReference type_step (Type-F.Named x)
bare-roll z = fold-roll-Type TypeReference type_step z

eq-is : (a b : TypeReference) → type_eq a b ≡ layer_eq (out-Type a) (out-Type b)
eq-is a b = rw (roll-out-Type a, roll-out-Type b) at (eq-roll (out-Type a) (out-Type b))

layers : (y : Type-F (Compared type_eq bare_type)) (z : Type-F TypeReference)
    → At layer_eq bare_layer (map-Type _ _ (λ e. e.0) y) z
layers (Type-F.Named m) (Type-F.Named n) = inside Type-F.Named (λ h. cc) (name_at m n)
layers (Type-F.NonNullNamed m) (Type-F.NonNullNamed n) = inside Type-F.NonNullNamed (λ h. cc) (name_at m n)
layers (Type-F.List x) (Type-F.List z) = inside Type-F.List (λ h. cc) (x.1 z)
layers (Type-F.NonNullList x) (Type-F.NonNullList z) = inside Type-F.NonNullList (λ h. cc) (x.1 z)
layers _ _ = (λ h. cc, λ h. cc)

pub types : Compares impl.ghosts.eq bare_type
unfolding type_eq
types = record {
  at = ind-Type _ (λ x y is. met bare_type roll-Type out-Type layer_eq bare_layer eq-is bare-roll
      out-roll-Type roll-out-Type is (layers y));
}
