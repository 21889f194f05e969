-- Typed selections without their locations. Those that differ in locations alone have one bare tree. GraphQL
-- specification of October 2021, sections 2.4 to 2.8.
use Rattle.std.specs.Prelude.{map, option_map}
use Rattle.graphql_nodes.specs.Comparing.{bare_name, bare_node}
use Rattle.graphql_ast.specs.Bare.{bare_argument, bare_directive_list}
use Rattle.graphql_ast.specs.BareTypeSystem.{bare_field_definition}
use Rattle.apollo_executable.specs.declared.selection.Selection.{Selection, fold-Selection, roll-Selection}
use Rattle.apollo_executable.specs.declared.selection.Selection.TheFolds.{fold-Field, fold-InlineFragment}
use Rattle.apollo_executable.specs.declared.selection.Selection.TheFolds.{fold-SelectionSet}
use Rattle.apollo_executable.specs.declared.selection.Selection.TheOpen.{Selection-F, Field-F}
use Rattle.apollo_executable.specs.declared.selection.Selection.TheOpen.{InlineFragment-F, SelectionSet-F}
use Rattle.apollo_executable.specs.declared.selection.Field.{Field, roll-Field}
use Rattle.apollo_executable.specs.declared.selection.InlineFragment.{InlineFragment, roll-InlineFragment}
use Rattle.apollo_executable.specs.declared.selection.SelectionSet.{SelectionSet, roll-SelectionSet}
use Rattle.apollo_executable.specs.declared.selection.FragmentSpread.{FragmentSpread}

-- a spread without locations
abbrev pub bare_fragment_spread : FragmentSpread → FragmentSpread
bare_fragment_spread s =
    record { fragment_name = bare_name s.fragment_name; directives = bare_directive_list s.directives }

-- one level of a selection, where what is inside its node is bare
abbrev pub selection_level : Selection-F Selection Field InlineFragment SelectionSet
    → Selection-F Selection Field InlineFragment SelectionSet
selection_level (Selection-F.Field n) = Selection-F.Field (bare_node (λ f. f) n)
selection_level (Selection-F.FragmentSpread n) = Selection-F.FragmentSpread (bare_node bare_fragment_spread n)
selection_level (Selection-F.InlineFragment n) = Selection-F.InlineFragment (bare_node (λ f. f) n)

-- one level of a field, where its set is bare
abbrev pub field_level : Field-F Selection Field InlineFragment SelectionSet
    → Field-F Selection Field InlineFragment SelectionSet
field_level f =
    record f {
      definition = bare_node bare_field_definition f.definition;
      alias = option_map bare_name f.alias;
      name = bare_name f.name;
      arguments = map (bare_node bare_argument) f.arguments;
      directives = bare_directive_list f.directives;
    }

-- one level of an inline fragment, where its set is bare
abbrev pub inline_level : InlineFragment-F Selection Field InlineFragment SelectionSet
    → InlineFragment-F Selection Field InlineFragment SelectionSet
inline_level f =
    record f {
      type_condition = option_map bare_name f.type_condition;
      directives = bare_directive_list f.directives;
    }

-- one level of a set, where its selections are bare
abbrev pub set_level : SelectionSet-F Selection Field InlineFragment SelectionSet
    → SelectionSet-F Selection Field InlineFragment SelectionSet
set_level s = record s { ty = bare_name s.ty }

-- a bare level, closed
abbrev pub selection_step : Selection-F Selection Field InlineFragment SelectionSet → Selection
selection_step s = roll-Selection (selection_level s)

-- a bare field
abbrev pub field_step : Field-F Selection Field InlineFragment SelectionSet → Field
field_step f = roll-Field (field_level f)

-- a bare inline fragment
abbrev pub inline_step : InlineFragment-F Selection Field InlineFragment SelectionSet → InlineFragment
inline_step f = roll-InlineFragment (inline_level f)

-- a bare set
abbrev pub set_step : SelectionSet-F Selection Field InlineFragment SelectionSet → SelectionSet
set_step s = roll-SelectionSet (set_level s)

-- a typed selection without the locations in it
abbrev pub bare_selection : Selection → Selection
bare_selection =
    fold-Selection Selection Field InlineFragment SelectionSet selection_step field_step inline_step set_step

-- a typed field without the locations in it
abbrev pub bare_field : Field → Field
bare_field =
    fold-Field Selection Field InlineFragment SelectionSet selection_step field_step inline_step set_step

-- a typed inline fragment without the locations in it
abbrev pub bare_inline_fragment : InlineFragment → InlineFragment
bare_inline_fragment =
    fold-InlineFragment Selection Field InlineFragment SelectionSet selection_step field_step
    inline_step set_step

-- a typed set without the locations in it
abbrev pub bare_selection_set : SelectionSet → SelectionSet
bare_selection_set =
    fold-SelectionSet Selection Field InlineFragment SelectionSet selection_step field_step
    inline_step set_step
