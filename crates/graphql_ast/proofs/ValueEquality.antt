-- Equality of values.
use Rattle.std.proofs.Common.{rules, ◌≡◌, Bool, true, false, ◌&&◌, List, [], ◌∷◌, refl, map, ap, ◌∙◌}
use Rattle.std.proofs.Common.{nat_eq}
use Rattle.std.proofs.Math.Bool.{beq}
use lib.Pointwise.{pointwise, bytes_decides}
use denote.Hole.Compared.{compared_is}
use Rattle.graphql_nodes.specs.NameView.{NameView}
use Rattle.graphql_nodes.specs.NodeView.{NodeView}
use Rattle.graphql_nodes.specs.Comparing.{bare_name, bare_node}
use Rattle.graphql_ast.specs.Bare.{bare_value, value_step}
use Rattle.graphql_ast.specs.declared.value.Value.TheBlock as block
use Rattle.graphql_ast.specs.declared.value.Value.{Value, roll-Value, out-Value, fold-roll-Value, ind-Value}
use Rattle.graphql_ast.specs.declared.value.Value.{the_lemmas}
use Rattle.graphql_ast.specs.declared.value.Value.TheViews.{out-roll-Value, roll-out-Value}
use Rattle.graphql_ast.specs.declared.value.Value.TheFolds.{map-Value}
use Rattle.graphql_ast.specs.declared.value.Value.TheOpen.{Value-F}
use Rattle.graphql_ast.specs.contracts.value.ValuePartialEq.TheImpl as impl
use Rattle.graphql_ast.specs.contracts.value.ValuePartialEq.TheImpl.Laws as laws
use Rattle.graphql_nodes.proofs.Comparisons.{At, Compared, Compares, both, inside, met, flag_at, name_at}
use Rattle.graphql_nodes.proofs.Comparisons.{node_at, list_at}

-- what `==` answers
unfoldable pub value_eq : Value → Value → Bool
value_eq = impl.ghosts.eq

abbrev Member : Type 0 → Type 0
Member A = NameView × NodeView A

abbrev name_eq : NameView → NameView → Bool
name_eq a b = pointwise nat_eq a.text b.text

abbrev node_eq : NodeView Value → NodeView Value → Bool
node_eq m n = value_eq m.value n.value

abbrev member_eq : Member Value → Member Value → Bool
member_eq m n = name_eq m.0 n.0 && node_eq m.1 n.1

abbrev bare_member : Member Value → Member Value
bare_member m = (bare_name m.0, bare_node bare_value m.1)

-- one level of `==`
abbrev layer_eq : Value-F Value → Value-F Value → Bool
layer_eq Value-F.Null Value-F.Null = true
layer_eq (Value-F.Enum m) (Value-F.Enum n) = name_eq m n
layer_eq (Value-F.Variable m) (Value-F.Variable n) = name_eq m n
layer_eq (Value-F.String s) (Value-F.String t) = pointwise nat_eq s t
layer_eq (Value-F.Float s) (Value-F.Float t) = pointwise nat_eq s t
layer_eq (Value-F.Int s) (Value-F.Int t) = pointwise nat_eq s t
layer_eq (Value-F.Boolean a) (Value-F.Boolean b) = beq a b
layer_eq (Value-F.List x) (Value-F.List y) = pointwise node_eq x y
layer_eq (Value-F.Object x) (Value-F.Object y) = pointwise member_eq x y
layer_eq _ _ = false

abbrev bare_layer : Value-F Value → Value-F Value
bare_layer Value-F.Null = Value-F.Null
bare_layer (Value-F.Enum n) = Value-F.Enum (bare_name n)
bare_layer (Value-F.Variable n) = Value-F.Variable (bare_name n)
bare_layer (Value-F.String t) = Value-F.String t
bare_layer (Value-F.Float t) = Value-F.Float t
bare_layer (Value-F.Int t) = Value-F.Int t
bare_layer (Value-F.Boolean b) = Value-F.Boolean b
bare_layer (Value-F.List x) = Value-F.List (map (bare_node bare_value) x)
bare_layer (Value-F.Object x) = Value-F.Object (map bare_member x)

eq-roll : (y z : Value-F Value) → value_eq (roll-Value y) (roll-Value z) ≡ layer_eq y z
unfolding value_eq
eq-roll Value-F.Null z = rw (compared_is _ _ _ _ _ _ laws.local block.member-Value)
    (search (rules, the_lemmas))
eq-roll y z = rw (compared_is _ _ _ _ _ _ laws.local block.member-Value) (search (rules, the_lemmas))

eq-is : (a b : Value) → value_eq a b ≡ layer_eq (out-Value a) (out-Value b)
eq-is a b = rw (roll-out-Value a, roll-out-Value b) at (eq-roll (out-Value a) (out-Value b))

abbrev along : {A B : Type 0} → (A → B) → NodeView A → NodeView B
along f n = record { value = f n.value; location = n.location }

abbrev along_member : {A B : Type 0} → (A → B) → Member A → Member B
along_member f m = (m.0, along f m.1)

fuse : (x : List (NodeView Value))
    → map (bare_node (λ v. v)) (map (along bare_value) x) ≡ map (bare_node bare_value) x
fuse [] = refl
fuse (n ∷ ns) = ap (λ l. bare_node bare_value n ∷ l) (fuse ns)

fuse_members : (x : List (Member Value))
    → map (λ (m : Member Value). (bare_name m.0, bare_node (λ (v : Value). v) m.1))
    (map (along_member bare_value) x) ≡ map bare_member x
fuse_members [] = refl
fuse_members (n ∷ ns) = ap (λ l. bare_member n ∷ l) (fuse_members ns)

bare-roll : (z : Value-F Value) → bare_value (roll-Value z) ≡ roll-Value (bare_layer z)
bare-roll (Value-F.List x) = fold-roll-Value Value value_step (Value-F.List x)
    ∙ ap (λ l. roll-Value (Value-F.List l)) (fuse x)
bare-roll (Value-F.Object x) = fold-roll-Value Value value_step (Value-F.Object x)
    ∙ ap (λ l. roll-Value (Value-F.Object l)) (fuse_members x)
bare-roll z = fold-roll-Value Value value_step z

abbrev value_of : Compared value_eq bare_value → Value
value_of e = e.0

shown_at : (y : NodeView (Compared value_eq bare_value)) (z : NodeView Value)
    → At node_eq (bare_node bare_value) (along value_of y) z
shown_at y z = node_at value_eq bare_value (along value_of y) z (y.value.1 z.value)

member_at : (y : Member (Compared value_eq bare_value)) (z : Member Value)
    → At member_eq bare_member (along_member value_of y) z
member_at y z = both (name_at y.0 z.0) (shown_at y.1 z.1)

layers : (y : Value-F (Compared value_eq bare_value)) (z : Value-F Value)
    → At layer_eq bare_layer (map-Value _ _ value_of y) z
layers Value-F.Null Value-F.Null = (λ _. refl, λ _. refl)
layers (Value-F.Enum m) (Value-F.Enum n) = inside Value-F.Enum (λ h. cc) (name_at m n)
layers (Value-F.Variable m) (Value-F.Variable n) = inside Value-F.Variable (λ h. cc) (name_at m n)
layers (Value-F.String m) (Value-F.String n) = inside Value-F.String (λ h. cc) (bytes_decides m n)
layers (Value-F.Float m) (Value-F.Float n) = inside Value-F.Float (λ h. cc) (bytes_decides m n)
layers (Value-F.Int m) (Value-F.Int n) = inside Value-F.Int (λ h. cc) (bytes_decides m n)
layers (Value-F.Boolean m) (Value-F.Boolean n) = inside Value-F.Boolean (λ h. cc) (flag_at m n)
layers (Value-F.List ys) (Value-F.List zs) =
    inside Value-F.List (λ h. cc) (list_at node_eq (bare_node bare_value) (along value_of) shown_at ys zs)
layers (Value-F.Object ys) (Value-F.Object zs) =
    inside Value-F.Object (λ h. cc) (list_at member_eq bare_member (along_member value_of) member_at ys zs)
layers _ _ = (λ h. cc, λ h. cc)

pub values : Compares impl.ghosts.eq bare_value
unfolding value_eq
values = record {
  at = ind-Value _ (λ x y is. met bare_value roll-Value out-Value layer_eq bare_layer eq-is bare-roll
      out-roll-Value roll-out-Value is (layers y));
}
