-- The text of a list and of an object, by the texts of the values in them; and of what stands in braces.
use Rattle.std.proofs.Common.{◌≡◌, ℕ, List, [], ◌∷◌, ◌++◌, map, refl, ap, rules, codes}
use Rattle.std.proofs.lemmas.List.Folds.{flat_map-map}
use Rattle.graphql_nodes.specs.NameView.{NameView}
use Rattle.graphql_nodes.specs.NodeView.{NodeView}
use Rattle.graphql_ast.specs.declared.value.Value.{Value, roll-Value, fold-roll-Value, the_lemmas}
use Rattle.graphql_ast.specs.declared.value.Value.TheVariants as v
use Rattle.graphql_ast.specs.declared.value.Value.TheOpen.{Value-F}
use Rattle.graphql_printing.specs.Layout.{enclosed, separated}
use Rattle.graphql_printing.specs.Texts.{item_text, member_text, value_text}

-- texts that are made of others come to the same where these are made first
folded : {A B : Type 0} (separator : List ℕ) (text : B → List ℕ) (f : A → B) (xs : List A)
    → separated separator text (map f xs) ≡ separated separator (λ x. text (f x)) xs
folded separator text f [] = refl
folded separator text f (x ∷ xs) = ap (λ (l : List ℕ). text (f x) ++ l) (flat_map-map _ f xs)

-- and between a beginning and an end
pub folded_inside : {A B : Type 0} (beginning separator end : List ℕ) (text : B → List ℕ) (f : A
    → B) (xs : List A)
    → enclosed beginning separator end text (map f xs) ≡ enclosed beginning separator end (λ x. text (f x)) xs
folded_inside beginning separator end text f [] = refl
folded_inside beginning separator end text f (x ∷ xs) =
    ap (λ (l : List ℕ). beginning ++ l ++ end) (folded separator text f (x ∷ xs))

abbrev along : NodeView Value → NodeView (List ℕ)
along node = record { value = value_text node.value; location = node.location }

list_rolled : (items : List (NodeView Value)) → v.List items ≡ roll-Value (Value-F.List items)
list_rolled items = search (rules, the_lemmas)

pub list_says : (items : List (NodeView Value))
    → value_text (v.List items) ≡ codes "[" ++ separated (codes ", ") item_text items ++ codes "]"
list_says items = simp (list_rolled, fold-roll-Value, folded)

abbrev along_member : NameView × NodeView Value → NameView × NodeView (List ℕ)
along_member member = (member.0, along member.1)

object_rolled : (members : List (NameView × NodeView Value))
    → v.Object members ≡ roll-Value (Value-F.Object members)
object_rolled members = search (rules, the_lemmas)

pub object_says : (members : List (NameView × NodeView Value))
    → value_text (v.Object members) ≡ codes "{" ++ separated (codes ", ") member_text members ++ codes "}"
object_says members = simp (object_rolled, fold-roll-Value, folded)
