-- The typed selections that stand for the typable ones of an untyped list. The code is proved against these;
-- that they erase to the stripped list, and are typed, follows. GraphQL specification of October 2021,
-- sections 2.4 to 2.8.
use Rattle.std.specs.Prelude.{List, Option, Some, option_map}
use Rattle.std.specs.List.{filter_map}
use Rattle.graphql_nodes.specs.NameView.{NameView}
use Rattle.graphql_nodes.specs.NodeView.{NodeView}
use Rattle.graphql_ast.specs.declared.directive.Argument.{Argument}
use Rattle.graphql_ast.specs.declared.directive.DirectiveList.{DirectiveList}
use Rattle.graphql_ast.specs.declared.selection.Selection as ast
use Rattle.graphql_ast.specs.declared.selection.Selection.TheOpen as layer
use Rattle.graphql_ast.specs.declared.selection.Selection.TheFolds as folds
use Rattle.graphql_ast.specs.declared.selection.Field as ast_field
use Rattle.graphql_ast.specs.declared.selection.InlineFragment as ast_inline
use Rattle.graphql_ast.specs.declared.selection.FragmentSpread as ast_spread
use Rattle.graphql_ast.specs.declared.type_system.FieldDefinition.{FieldDefinition}
use Rattle.apollo_schema.specs.declared.schema.Schema.{Schema}
use Rattle.apollo_executable.specs.declared.selection.Selection.{Selection, roll-Selection}
use Rattle.apollo_executable.specs.declared.selection.Selection.TheOpen.{Selection-F}
use Rattle.apollo_executable.specs.declared.selection.Field.{Field, roll-Field}
use Rattle.apollo_executable.specs.declared.selection.InlineFragment.{InlineFragment, roll-InlineFragment}
use Rattle.apollo_executable.specs.declared.selection.FragmentSpread.{FragmentSpread}
use Rattle.apollo_executable.specs.declared.selection.SelectionSet.{SelectionSet, roll-SelectionSet}
use Rattle.apollo_document.specs.Typable.{child_of, is_bare, typable_field, typable_fragment, if_typable}
use Rattle.apollo_document.specs.Stripped.{in_place_of}

-- what stands for a selection in a type: a typed one, if it is typable there
abbrev pub TS : Type 0
TS = NameView → Option Selection

-- what stands for a field in a type: a typed one, if it is typable there
abbrev pub TF : Type 0
TF = NameView → Option Field

-- what stands for an inline fragment in a type: a typed one, if it is typable there
abbrev pub TI : Type 0
TI = NameView → Option InlineFragment

-- a fragment spread, as a typed one: it has no type of its own
abbrev pub typed_spread : ast_spread.FragmentSpread → FragmentSpread
typed_spread x = record { fragment_name = x.fragment_name; directives = x.directives }

-- the set of these selections from a type
abbrev pub set_of : NameView → List Selection → SelectionSet
set_of ty xs = roll-SelectionSet (record { ty = ty; selections = xs })

-- a field with this definition and set
abbrev pub field_over : ast_field.Field → NodeView FieldDefinition → SelectionSet → Field
field_over f d set =
    roll-Field (record {
      definition = d;
      alias = f.alias;
      name = f.name;
      arguments = f.arguments;
      directives = f.directives;
      selection_set = set;
    })

-- a field with this definition, and with what stands for its subselections in its child type
abbrev pub typed_field : Option NameView → NameView → List (NodeView Argument) → DirectiveList
    → (NameView → List Selection) → NodeView FieldDefinition → Field
typed_field alias name arguments directives below d = roll-Field (record {
  definition = d;
  alias = alias;
  name = name;
  arguments = arguments;
  directives = directives;
  selection_set = set_of (child_of d) (below (child_of d));
})

-- an inline fragment with this condition, these directives and this set
abbrev pub inline_over : Option NameView → DirectiveList → SelectionSet → InlineFragment
inline_over condition directives set =
    roll-InlineFragment (record { type_condition = condition; directives = directives; selection_set = set })

-- an inline fragment with this child type, and with what stands for its selections in that
abbrev pub typed_inline_fragment : Option NameView → DirectiveList → (NameView → List Selection) → NameView
    → InlineFragment
typed_inline_fragment condition directives below child =
    inline_over condition directives (set_of child (below child))

-- one level of a selection
abbrev pub selection_step : layer.Selection-F TS TF TI → TS
selection_step (layer.Selection-F.Field n) ty =
    option_map (λ (f : Field). roll-Selection (Selection-F.Field (in_place_of n f))) (n.value ty)
selection_step (layer.Selection-F.FragmentSpread n) ty =
    Some (roll-Selection (Selection-F.FragmentSpread (in_place_of n (typed_spread n.value))))
selection_step (layer.Selection-F.InlineFragment n) ty =
    option_map (λ (f : InlineFragment). roll-Selection (Selection-F.InlineFragment (in_place_of n f)))
    (n.value ty)

-- what stands for selections in a type, in order
abbrev pub typed_below : List TS → NameView → List Selection
typed_below ss ty = filter_map (λ (s : TS). s ty) ss

-- one level of a field
abbrev pub field_step : Option Schema → layer.Field-F TS TF TI → TF
field_step s f ty =
    if_typable (typed_field f.alias f.name f.arguments f.directives (typed_below f.selection_set))
    (typable_field s ty f.name (is_bare f.selection_set))

-- one level of an inline fragment
abbrev pub fragment_step : Option Schema → layer.InlineFragment-F TS TF TI → TI
fragment_step s f ty =
    if_typable (typed_inline_fragment f.type_condition f.directives (typed_below f.selection_set))
    (typable_fragment s ty f.type_condition)

-- the typed selection that stands for one in a type, if it is typable there
abbrev pub elaborated_selection : Option Schema → NameView → ast.Selection → Option Selection
elaborated_selection s ty x =
    folds.fold-Selection TS TF TI selection_step (field_step s) (fragment_step s) x ty

-- the typed field that stands for one in a type, if it is typable there
abbrev pub elaborated_field : Option Schema → NameView → ast_field.Field → Option Field
elaborated_field s ty f = folds.fold-Field TS TF TI selection_step (field_step s) (fragment_step s) f ty

-- the typed inline fragment that stands for one in a type, if it is typable there
abbrev pub elaborated_fragment : Option Schema → NameView → ast_inline.InlineFragment → Option InlineFragment
elaborated_fragment s ty f =
    folds.fold-InlineFragment TS TF TI selection_step (field_step s) (fragment_step s) f ty

-- the typed set that stands for a list of selections in a type
abbrev pub elaborated : Option Schema → NameView → List ast.Selection → SelectionSet
elaborated s ty xs = set_of ty (filter_map (elaborated_selection s ty) xs)
