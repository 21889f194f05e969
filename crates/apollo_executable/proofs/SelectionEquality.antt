-- Equality of typed selections, fields, inline fragments and sets.
use Rattle.std.proofs.Common.{rules, ◌≡◌, Bool, false, ◌&&◌, List, refl, map, nat_eq}
use Rattle.std.specs.Option.{option_eq}
use lib.Pointwise.{pointwise}
use denote.Hole.Compared.{compared_is}
use Rattle.graphql_nodes.specs.NameView.{NameView}
use Rattle.graphql_nodes.specs.NodeView.{NodeView}
use Rattle.graphql_ast.specs.declared.directive.Argument.{Argument}
use Rattle.graphql_ast.specs.declared.type_system.FieldDefinition.{FieldDefinition}
use Rattle.graphql_ast.specs.contracts.directive.ArgumentPartialEq.TheImpl as argument
use Rattle.graphql_ast.specs.contracts.directive.DirectiveListPartialEq.TheImpl as list
use Rattle.graphql_ast.specs.contracts.type_system.FieldDefinitionPartialEq.TheImpl as definition
use Rattle.apollo_executable.specs.BareSelections as bare
use Rattle.apollo_executable.specs.declared.selection.FragmentSpread.{FragmentSpread}
use Rattle.apollo_executable.specs.declared.selection.Selection.{Selection, roll-Selection, out-Selection}
use Rattle.apollo_executable.specs.declared.selection.Selection.{the_lemmas}
use Rattle.apollo_executable.specs.declared.selection.Selection.TheViews as views
use Rattle.apollo_executable.specs.declared.selection.Selection.TheFolds as folds
use Rattle.apollo_executable.specs.declared.selection.Selection.TheOpen.{Selection-F, Field-F}
use Rattle.apollo_executable.specs.declared.selection.Selection.TheOpen.{InlineFragment-F, SelectionSet-F}
use Rattle.apollo_executable.specs.declared.selection.Field.{Field, roll-Field, out-Field}
use Rattle.apollo_executable.specs.declared.selection.InlineFragment.{InlineFragment, roll-InlineFragment}
use Rattle.apollo_executable.specs.declared.selection.InlineFragment.{out-InlineFragment}
use Rattle.apollo_executable.specs.declared.selection.SelectionSet.{SelectionSet, roll-SelectionSet}
use Rattle.apollo_executable.specs.declared.selection.SelectionSet.{out-SelectionSet}
use Rattle.apollo_executable.specs.declared.selection.Selection.TheBlock as block
use Rattle.apollo_executable.specs.contracts.selection.FragmentSpreadPartialEq.TheImpl as spread
use Rattle.apollo_executable.specs.contracts.selection.SelectionPartialEq.TheImpl as impl
use Rattle.apollo_executable.specs.contracts.selection.SelectionPartialEq.TheImpl.Laws as laws
use Rattle.apollo_executable.specs.contracts.selection.FieldPartialEq.TheImpl as field
use Rattle.apollo_executable.specs.contracts.selection.InlineFragmentPartialEq.TheImpl as inline
use Rattle.apollo_executable.specs.contracts.selection.SelectionSetPartialEq.TheImpl as set
use Rattle.graphql_nodes.proofs.Comparisons.{At, Compared, Compares, OfAny, both, inside, remade, met}
use Rattle.graphql_nodes.proofs.Comparisons.{of_fields, of_two, pairs, names, nodes, lists, options, name_at}
use Rattle.graphql_nodes.proofs.Comparisons.{node_at, list_at}
use Rattle.graphql_ast.proofs.DirectiveEquality.{arguments, directive_lists}
use Rattle.graphql_ast.proofs.TypeSystemEquality.{field_definitions}

pub fragment_spreads : Compares spread.ghosts.eq bare.bare_fragment_spread
fragment_spreads = of_fields (λ s. (s.fragment_name, s.directives))
    (of_two (λ n d. record { fragment_name = n; directives = d })) (λ _. refl) (pairs names directive_lists)

-- what `==` answers
unfoldable selection_eq : Selection → Selection → Bool
selection_eq = impl.ghosts.eq

unfoldable field_eq : Field → Field → Bool
field_eq = field.ghosts.eq

unfoldable inline_eq : InlineFragment → InlineFragment → Bool
inline_eq = inline.ghosts.eq

abbrev set_eq : SelectionSet → SelectionSet → Bool
set_eq = set.ghosts.eq

abbrev spread_eq : FragmentSpread → FragmentSpread → Bool
spread_eq = spread.ghosts.eq

abbrev name_eq : NameView → NameView → Bool
name_eq a b = pointwise nat_eq a.text b.text

abbrev definition_eq : NodeView FieldDefinition → NodeView FieldDefinition → Bool
definition_eq m n = definition.ghosts.eq m.value n.value

abbrev arguments_eq : List (NodeView Argument) → List (NodeView Argument) → Bool
arguments_eq = pointwise (λ (m n : NodeView Argument). argument.ghosts.eq m.value n.value)

-- one level of a typed tree
abbrev SL : Type 0
SL = Selection-F Selection Field InlineFragment SelectionSet

abbrev FL : Type 0
FL = Field-F Selection Field InlineFragment SelectionSet

abbrev IL : Type 0
IL = InlineFragment-F Selection Field InlineFragment SelectionSet

abbrev TL : Type 0
TL = SelectionSet-F Selection Field InlineFragment SelectionSet

-- one level of `==`
abbrev selection_layer_eq : SL → SL → Bool
selection_layer_eq (Selection-F.Field x) (Selection-F.Field y) = field_eq x.value y.value
selection_layer_eq (Selection-F.FragmentSpread x) (Selection-F.FragmentSpread y) = spread_eq x.value y.value
selection_layer_eq (Selection-F.InlineFragment x) (Selection-F.InlineFragment y) = inline_eq x.value y.value
selection_layer_eq _ _ = false

abbrev field_layer_eq : FL → FL → Bool
field_layer_eq x y = definition_eq x.definition y.definition && (option_eq name_eq x.alias y.alias
    && (name_eq x.name y.name && (arguments_eq x.arguments y.arguments
    && (list.ghosts.eq x.directives y.directives && set_eq x.selection_set y.selection_set))))

abbrev inline_layer_eq : IL → IL → Bool
inline_layer_eq x y = option_eq name_eq x.type_condition y.type_condition
    && (list.ghosts.eq x.directives y.directives && set_eq x.selection_set y.selection_set)

abbrev set_layer_eq : TL → TL → Bool
set_layer_eq x y = name_eq x.ty y.ty && pointwise selection_eq x.selections y.selections

selection-roll : (y z : SL) → selection_eq (roll-Selection y) (roll-Selection z) ≡ selection_layer_eq y z
unfolding selection_eq field_eq inline_eq
selection-roll (Selection-F.Field x) z = rw (compared_is _ _ _ _ _ _ laws.local block.member-Selection)
    (search (rules, the_lemmas))
selection-roll (Selection-F.FragmentSpread x) z =
    rw (compared_is _ _ _ _ _ _ laws.local block.member-Selection) (search (rules, the_lemmas))
selection-roll (Selection-F.InlineFragment x) z =
    rw (compared_is _ _ _ _ _ _ laws.local block.member-Selection) (search (rules, the_lemmas))

selection-is : (a b : Selection) → selection_eq a b ≡ selection_layer_eq (out-Selection a) (out-Selection b)
selection-is a b = rw (views.roll-out-Selection a, views.roll-out-Selection b) at (selection-roll
    (out-Selection a) (out-Selection b))

field-is : (a b : Field) → field_eq a b ≡ field_layer_eq (out-Field a) (out-Field b)
unfolding selection_eq field_eq inline_eq
field-is = compared_is _ _ _ _ _ _ laws.local block.member-Field

inline-is : (a b : InlineFragment)
    → inline_eq a b ≡ inline_layer_eq (out-InlineFragment a) (out-InlineFragment b)
unfolding selection_eq field_eq inline_eq
inline-is = compared_is _ _ _ _ _ _ laws.local block.member-InlineFragment

set-is : (a b : SelectionSet) → set_eq a b ≡ set_layer_eq (out-SelectionSet a) (out-SelectionSet b)
unfolding selection_eq field_eq inline_eq
set-is = compared_is _ _ _ _ _ _ laws.local block.member-SelectionSet

-- one level without locations, what is inside included
abbrev bare_selection_layer : SL → SL
bare_selection_layer x = bare.selection_level (folds.map-Selection _ _ _ _ _ _ _ _ bare.bare_selection
    bare.bare_field bare.bare_inline_fragment bare.bare_selection_set x)

abbrev bare_field_layer : FL → FL
bare_field_layer x = bare.field_level (record x { selection_set = bare.bare_selection_set x.selection_set })

abbrev bare_inline_layer : IL → IL
bare_inline_layer x = bare.inline_level (record x { selection_set = bare.bare_selection_set x.selection_set })

abbrev bare_set_layer : TL → TL
bare_set_layer x = bare.set_level (record x { selections = map bare.bare_selection x.selections })

bare-selection : (z : SL) → bare.bare_selection (roll-Selection z) ≡ roll-Selection (bare_selection_layer z)
bare-selection z = folds.fold-roll-Selection _ _ _ _ _ _ _ _ z

-- each part of a level, and the comparison of it
abbrev SC : Type 0
SC = Compared selection_eq bare.bare_selection

abbrev FC : Type 0
FC = Compared field_eq bare.bare_field

abbrev IC : Type 0
IC = Compared inline_eq bare.bare_inline_fragment

abbrev TC : Type 0
TC = Compared set_eq bare.bare_selection_set

abbrev along : {A B : Type 0} → (A → B) → NodeView A → NodeView B
along f n = record { value = f n.value; location = n.location }

-- one level of a field and of an inline fragment, whose parts are compared
abbrev FP : Type 0
FP = Field-F SC FC IC TC

abbrev IP : Type 0
IP = InlineFragment-F SC FC IC TC

-- one level without the comparisons
abbrev selection_alone : Selection-F SC FC IC TC → SL
selection_alone = folds.map-Selection _ _ _ _ _ _ _ _ (λ e. e.0) (λ e. e.0) (λ e. e.0) (λ e. e.0)

abbrev field_alone : FP → FL
field_alone = folds.map-Field _ _ _ _ _ _ _ _ (λ e. e.0) (λ e. e.0) (λ e. e.0) (λ e. e.0)

abbrev inline_alone : IP → IL
inline_alone = folds.map-InlineFragment _ _ _ _ _ _ _ _ (λ e. e.0) (λ e. e.0) (λ e. e.0) (λ e. e.0)

abbrev set_alone : SelectionSet-F SC FC IC TC → TL
set_alone = folds.map-SelectionSet _ _ _ _ _ _ _ _ (λ e. e.0) (λ e. e.0) (λ e. e.0) (λ e. e.0)

selection_level : (y : Selection-F SC FC IC TC) (z : SL)
    → At selection_layer_eq bare_selection_layer (selection_alone y) z
selection_level (Selection-F.Field x) (Selection-F.Field z) = inside Selection-F.Field (λ h. cc)
    (node_at field_eq bare.bare_field (along (λ e. e.0) x) z (x.value.1 z.value))
selection_level (Selection-F.FragmentSpread x) (Selection-F.FragmentSpread z) =
    inside Selection-F.FragmentSpread (λ h. cc) ((nodes fragment_spreads).at x z)
selection_level (Selection-F.InlineFragment x) (Selection-F.InlineFragment z) =
    inside Selection-F.InlineFragment (λ h. cc)
    (node_at inline_eq bare.bare_inline_fragment (along (λ e. e.0) x) z (x.value.1 z.value))
selection_level _ _ = (λ h. cc, λ h. cc)

field_level : (y : FP) (z : FL) → At field_layer_eq bare_field_layer (field_alone y) z
field_level y z = remade {B = FL} _
    (λ l. (l.definition, (l.alias, (l.name, (l.arguments, (l.directives, l.selection_set)))))) (λ _. refl)
    (both ((nodes field_definitions).at y.definition z.definition) (both ((options names).at y.alias z.alias)
    (both (name_at y.name z.name) (both ((lists (nodes arguments)).at y.arguments z.arguments)
    (both (directive_lists.at y.directives z.directives) (y.selection_set.1 z.selection_set))))))

inline_level : (y : IP) (z : IL) → At inline_layer_eq bare_inline_layer (inline_alone y) z
inline_level y z = remade {B = IL} _ (λ l. (l.type_condition, (l.directives, l.selection_set))) (λ _. refl)
    (both ((options names).at y.type_condition z.type_condition)
    (both (directive_lists.at y.directives z.directives) (y.selection_set.1 z.selection_set)))

set_level : (y : SelectionSet-F SC FC IC TC) (z : TL) → At set_layer_eq bare_set_layer (set_alone y) z
set_level y z = remade {B = TL} _ (λ l. (l.ty, l.selections)) (λ _. refl) (both (name_at y.ty z.ty)
    (list_at selection_eq bare.bare_selection (λ e. e.0) (λ e z. e.1 z) y.selections z.selections))

selection_met : (x : SL) (y : Selection-F SC FC IC TC) → selection_alone y ≡ x
    → OfAny selection_eq bare.bare_selection (roll-Selection x)
selection_met x y is = met bare.bare_selection roll-Selection out-Selection selection_layer_eq
    bare_selection_layer selection-is bare-selection views.out-roll-Selection views.roll-out-Selection is
    (selection_level y)

field_met : (x : FL) (y : FP) → field_alone y ≡ x → OfAny field_eq bare.bare_field (roll-Field x)
field_met x y is = met bare.bare_field roll-Field out-Field field_layer_eq bare_field_layer field-is
    (folds.fold-roll-Field _ _ _ _ _ _ _ _) views.out-roll-Field views.roll-out-Field is (field_level y)

inline_met : (x : IL) (y : IP) → inline_alone y ≡ x
    → OfAny inline_eq bare.bare_inline_fragment (roll-InlineFragment x)
inline_met x y is = met bare.bare_inline_fragment roll-InlineFragment out-InlineFragment inline_layer_eq
    bare_inline_layer inline-is (folds.fold-roll-InlineFragment _ _ _ _ _ _ _ _)
    views.out-roll-InlineFragment views.roll-out-InlineFragment is (inline_level y)

set_met : (x : TL) (y : SelectionSet-F SC FC IC TC) → set_alone y ≡ x
    → OfAny set_eq bare.bare_selection_set (roll-SelectionSet x)
set_met x y is = met bare.bare_selection_set roll-SelectionSet out-SelectionSet set_layer_eq bare_set_layer
    set-is (folds.fold-roll-SelectionSet _ _ _ _ _ _ _ _) views.out-roll-SelectionSet
    views.roll-out-SelectionSet is (set_level y)

pub selections : Compares impl.ghosts.eq bare.bare_selection
unfolding selection_eq
selections = record { at = folds.ind-Selection _ _ _ _ selection_met field_met inline_met set_met }

pub fields : Compares field.ghosts.eq bare.bare_field
unfolding field_eq
fields = record { at = folds.ind-Field _ _ _ _ selection_met field_met inline_met set_met }

pub inline_fragments : Compares inline.ghosts.eq bare.bare_inline_fragment
unfolding inline_eq
inline_fragments = record { at = folds.ind-InlineFragment _ _ _ _ selection_met field_met inline_met set_met }

pub selection_sets : Compares set.ghosts.eq bare.bare_selection_set
selection_sets = record { at = folds.ind-SelectionSet _ _ _ _ selection_met field_met inline_met set_met }
