-- Equality of selections, fields and inline fragments.
use Rattle.std.proofs.Common.{rules, ◌≡◌, Bool, false, ◌&&◌, List, refl, map, nat_eq}
use Rattle.std.specs.Option.{option_map, option_eq}
use lib.Pointwise.{pointwise}
use denote.Hole.Compared.{compared_is}
use Rattle.graphql_nodes.specs.NameView.{NameView}
use Rattle.graphql_nodes.specs.NodeView.{NodeView}
use Rattle.graphql_nodes.specs.Comparing.{bare_name, bare_node}
use Rattle.graphql_ast.specs.Bare.{bare_argument, bare_directive_list}
use Rattle.graphql_ast.specs.BareSelections.{bare_selection, bare_field, bare_inline_fragment}
use Rattle.graphql_ast.specs.BareSelections.{bare_fragment_spread}
use Rattle.graphql_ast.specs.declared.directive.Argument.{Argument}
use Rattle.graphql_ast.specs.declared.selection.Selection.{Selection, roll-Selection, out-Selection}
use Rattle.graphql_ast.specs.declared.selection.Selection.{fold-roll-Selection, ind-Selection, the_lemmas}
use Rattle.graphql_ast.specs.declared.selection.Selection.TheViews.{out-roll-Selection, roll-out-Selection}
use Rattle.graphql_ast.specs.declared.selection.Selection.TheViews.{out-roll-Field, roll-out-Field}
use Rattle.graphql_ast.specs.declared.selection.Selection.TheViews.{out-roll-InlineFragment}
use Rattle.graphql_ast.specs.declared.selection.Selection.TheViews.{roll-out-InlineFragment}
use Rattle.graphql_ast.specs.declared.selection.Selection.TheFolds.{map-Selection, map-Field}
use Rattle.graphql_ast.specs.declared.selection.Selection.TheFolds.{map-InlineFragment, fold-roll-Field}
use Rattle.graphql_ast.specs.declared.selection.Selection.TheFolds.{fold-roll-InlineFragment, ind-Field}
use Rattle.graphql_ast.specs.declared.selection.Selection.TheFolds.{ind-InlineFragment}
use Rattle.graphql_ast.specs.declared.selection.Selection.TheOpen.{Selection-F, Field-F, InlineFragment-F}
use Rattle.graphql_ast.specs.declared.selection.Field.{Field, roll-Field, out-Field}
use Rattle.graphql_ast.specs.declared.selection.InlineFragment.{InlineFragment, roll-InlineFragment}
use Rattle.graphql_ast.specs.declared.selection.InlineFragment.{out-InlineFragment}
use Rattle.graphql_ast.specs.declared.selection.Selection.TheBlock as block
use Rattle.graphql_ast.specs.contracts.directive.ArgumentPartialEq.TheImpl as argument
use Rattle.graphql_ast.specs.contracts.directive.DirectiveListPartialEq.TheImpl as list
use Rattle.graphql_ast.specs.contracts.selection.FragmentSpreadPartialEq.TheImpl as spread
use Rattle.graphql_ast.specs.contracts.selection.SelectionPartialEq.TheImpl as impl
use Rattle.graphql_ast.specs.contracts.selection.SelectionPartialEq.TheImpl.Laws as laws
use Rattle.graphql_ast.specs.contracts.selection.FieldPartialEq.TheImpl as field
use Rattle.graphql_ast.specs.contracts.selection.InlineFragmentPartialEq.TheImpl as inline
use Rattle.graphql_nodes.proofs.Comparisons.{At, Compared, Compares, OfAny, both, inside, remade, met}
use Rattle.graphql_nodes.proofs.Comparisons.{of_fields, of_two, of_three, of_five, pairs, names, nodes, lists}
use Rattle.graphql_nodes.proofs.Comparisons.{options, name_at, node_at, list_at}
use Rattle.graphql_ast.proofs.DirectiveEquality.{arguments, directive_lists}

pub fragment_spreads : Compares spread.ghosts.eq bare_fragment_spread
fragment_spreads = of_fields (λ s. (s.fragment_name, s.directives))
    (of_two (λ n d. record { fragment_name = n; directives = d })) (λ _. refl) (pairs names directive_lists)

-- what `==` answers
unfoldable pub selection_eq : Selection → Selection → Bool
selection_eq = impl.ghosts.eq

unfoldable pub field_eq : Field → Field → Bool
field_eq = field.ghosts.eq

unfoldable pub inline_eq : InlineFragment → InlineFragment → Bool
inline_eq = inline.ghosts.eq

abbrev name_eq : NameView → NameView → Bool
name_eq a b = pointwise nat_eq a.text b.text

abbrev arguments_eq : List (NodeView Argument) → List (NodeView Argument) → Bool
arguments_eq = pointwise (λ (m n : NodeView Argument). argument.ghosts.eq m.value n.value)

-- one level of a tree
abbrev SL : Type 0
SL = Selection-F Selection Field InlineFragment

abbrev FL : Type 0
FL = Field-F Selection Field InlineFragment

abbrev IL : Type 0
IL = InlineFragment-F Selection Field InlineFragment

-- one level of `==`
abbrev selection_layer_eq : SL → SL → Bool
selection_layer_eq (Selection-F.Field x) (Selection-F.Field y) = field_eq x.value y.value
selection_layer_eq (Selection-F.FragmentSpread x) (Selection-F.FragmentSpread y) =
    spread.ghosts.eq x.value y.value
selection_layer_eq (Selection-F.InlineFragment x) (Selection-F.InlineFragment y) = inline_eq x.value y.value
selection_layer_eq _ _ = false

abbrev field_layer_eq : FL → FL → Bool
field_layer_eq x y = option_eq name_eq x.alias y.alias
    && (name_eq x.name y.name && (arguments_eq x.arguments y.arguments && (list.ghosts.eq x.directives
    y.directives && pointwise selection_eq x.selection_set y.selection_set)))

abbrev inline_layer_eq : IL → IL → Bool
inline_layer_eq x y = option_eq name_eq x.type_condition y.type_condition
    && (list.ghosts.eq x.directives y.directives && pointwise selection_eq x.selection_set y.selection_set)

selection-roll : (y z : SL) → selection_eq (roll-Selection y) (roll-Selection z) ≡ selection_layer_eq y z
unfolding selection_eq field_eq inline_eq
selection-roll (Selection-F.Field x) z = rw (compared_is _ _ _ _ _ _ laws.local block.member-Selection)
    (search (rules, the_lemmas))
selection-roll y z = rw (compared_is _ _ _ _ _ _ laws.local block.member-Selection)
    (search (rules, the_lemmas))

selection-is : (a b : Selection) → selection_eq a b ≡ selection_layer_eq (out-Selection a) (out-Selection b)
selection-is a b = rw (roll-out-Selection a, roll-out-Selection b) at (selection-roll (out-Selection a)
    (out-Selection b))

field-is : (a b : Field) → field_eq a b ≡ field_layer_eq (out-Field a) (out-Field b)
unfolding selection_eq field_eq
field-is = compared_is _ _ _ _ _ _ laws.local block.member-Field

inline-is : (a b : InlineFragment)
    → inline_eq a b ≡ inline_layer_eq (out-InlineFragment a) (out-InlineFragment b)
unfolding selection_eq inline_eq
inline-is = compared_is _ _ _ _ _ _ laws.local block.member-InlineFragment

abbrev bare_selection_layer : SL → SL
bare_selection_layer (Selection-F.Field x) = Selection-F.Field (bare_node bare_field x)
bare_selection_layer (Selection-F.FragmentSpread x) =
    Selection-F.FragmentSpread (bare_node bare_fragment_spread x)
bare_selection_layer (Selection-F.InlineFragment x) =
    Selection-F.InlineFragment (bare_node bare_inline_fragment x)

abbrev bare_field_layer : FL → FL
bare_field_layer x = record {
  alias = option_map bare_name x.alias;
  name = bare_name x.name;
  arguments = map (bare_node bare_argument) x.arguments;
  directives = bare_directive_list x.directives;
  selection_set = map bare_selection x.selection_set;
}

abbrev bare_inline_layer : IL → IL
bare_inline_layer x = record {
  type_condition = option_map bare_name x.type_condition;
  directives = bare_directive_list x.directives;
  selection_set = map bare_selection x.selection_set;
}

bare-selection : (z : SL) → bare_selection (roll-Selection z) ≡ roll-Selection (bare_selection_layer z)
bare-selection (Selection-F.Field x) = fold-roll-Selection _ _ _ _ _ _ (Selection-F.Field x)
bare-selection z = fold-roll-Selection _ _ _ _ _ _ z

-- each part of a level, and the comparison of it
abbrev SC : Type 0
SC = Compared selection_eq bare_selection

abbrev FC : Type 0
FC = Compared field_eq bare_field

abbrev IC : Type 0
IC = Compared inline_eq bare_inline_fragment

abbrev along : {A B : Type 0} → (A → B) → NodeView A → NodeView B
along f n = record { value = f n.value; location = n.location }

selection_level : (y : Selection-F SC FC IC) (z : SL) → At selection_layer_eq bare_selection_layer
    (map-Selection _ _ _ _ _ _ (λ e. e.0) (λ e. e.0) (λ e. e.0) y) z
selection_level (Selection-F.Field x) (Selection-F.Field z) = inside Selection-F.Field (λ h. cc)
    (node_at field_eq bare_field (along (λ e. e.0) x) z (x.value.1 z.value))
selection_level (Selection-F.FragmentSpread x) (Selection-F.FragmentSpread z) =
    inside Selection-F.FragmentSpread (λ h. cc) ((nodes fragment_spreads).at x z)
selection_level (Selection-F.InlineFragment x) (Selection-F.InlineFragment z) =
    inside Selection-F.InlineFragment (λ h. cc)
    (node_at inline_eq bare_inline_fragment (along (λ e. e.0) x) z (x.value.1 z.value))
selection_level _ _ = (λ h. cc, λ h. cc)

-- selections, in order, each with the comparison of it
sets_at : (ys : List SC) (zs : List Selection)
    → At (pointwise selection_eq) (map bare_selection) (map (λ e. e.0) ys) zs
sets_at = list_at selection_eq bare_selection (λ e. e.0) (λ e z. e.1 z)

field_level : (y : Field-F SC FC IC) (z : FL) → At field_layer_eq bare_field_layer
    (map-Field _ _ _ _ _ _ (λ e. e.0) (λ e. e.0) (λ e. e.0) y) z
field_level y z = remade {B = FL} (of_five (λ a n g d s.
    record { alias = a; name = n; arguments = g; directives = d; selection_set = s }))
    (λ l. (l.alias, (l.name, (l.arguments, (l.directives, l.selection_set))))) (λ _. refl)
    (both ((options names).at y.alias z.alias) (both (name_at y.name z.name)
    (both ((lists (nodes arguments)).at y.arguments z.arguments)
    (both (directive_lists.at y.directives z.directives) (sets_at y.selection_set z.selection_set)))))

inline_level : (y : InlineFragment-F SC FC IC) (z : IL) → At inline_layer_eq bare_inline_layer
    (map-InlineFragment _ _ _ _ _ _ (λ e. e.0) (λ e. e.0) (λ e. e.0) y) z
inline_level y z =
    remade {B = IL} (of_three (λ c d s. record { type_condition = c; directives = d; selection_set = s }))
    (λ l. (l.type_condition, (l.directives, l.selection_set))) (λ _. refl)
    (both ((options names).at y.type_condition z.type_condition)
    (both (directive_lists.at y.directives z.directives) (sets_at y.selection_set z.selection_set)))

selection_met : (x : SL) (y : Selection-F SC FC IC)
    → map-Selection _ _ _ _ _ _ (λ e. e.0) (λ e. e.0) (λ e. e.0) y ≡ x
    → OfAny selection_eq bare_selection (roll-Selection x)
selection_met x y is = met bare_selection roll-Selection out-Selection selection_layer_eq bare_selection_layer
    selection-is bare-selection out-roll-Selection roll-out-Selection is (selection_level y)

field_met : (x : FL) (y : Field-F SC FC IC) → map-Field _ _ _ _ _ _ (λ e. e.0) (λ e. e.0) (λ e. e.0) y ≡ x
    → OfAny field_eq bare_field (roll-Field x)
field_met x y is = met bare_field roll-Field out-Field field_layer_eq bare_field_layer field-is
    (fold-roll-Field _ _ _ _ _ _) out-roll-Field roll-out-Field is (field_level y)

inline_met : (x : IL) (y : InlineFragment-F SC FC IC)
    → map-InlineFragment _ _ _ _ _ _ (λ e. e.0) (λ e. e.0) (λ e. e.0) y ≡ x
    → OfAny inline_eq bare_inline_fragment (roll-InlineFragment x)
inline_met x y is = met bare_inline_fragment roll-InlineFragment out-InlineFragment inline_layer_eq
    bare_inline_layer inline-is (fold-roll-InlineFragment _ _ _ _ _ _) out-roll-InlineFragment
    roll-out-InlineFragment is (inline_level y)

pub selections : Compares impl.ghosts.eq bare_selection
unfolding selection_eq
selections = record { at = ind-Selection _ _ _ selection_met field_met inline_met }

pub fields : Compares field.ghosts.eq bare_field
unfolding field_eq
fields = record { at = ind-Field _ _ _ selection_met field_met inline_met }

pub inline_fragments : Compares inline.ghosts.eq bare_inline_fragment
unfolding inline_eq
inline_fragments = record { at = ind-InlineFragment _ _ _ selection_met field_met inline_met }
