-- An untyped list without the selections that aren't typable: the sublist of the typable ones, each with its
-- own subselections stripped in its child type. GraphQL specification of October 2021, sections 2.4 to 2.8.
use Rattle.std.specs.Prelude.{List, Option, Some, option_map}
use Rattle.std.specs.List.{filter_map}
use Rattle.graphql_nodes.specs.NameView.{NameView}
use Rattle.graphql_nodes.specs.NodeView.{NodeView}
use Rattle.graphql_ast.specs.declared.directive.Argument.{Argument}
use Rattle.graphql_ast.specs.declared.directive.DirectiveList.{DirectiveList}
use Rattle.graphql_ast.specs.declared.selection.Selection.{Selection, roll-Selection}
use Rattle.graphql_ast.specs.declared.selection.Selection.TheOpen.{Selection-F, Field-F, InlineFragment-F}
use Rattle.graphql_ast.specs.declared.selection.Selection.TheFolds as folds
use Rattle.graphql_ast.specs.declared.selection.Field.{Field, roll-Field}
use Rattle.graphql_ast.specs.declared.selection.InlineFragment.{InlineFragment, roll-InlineFragment}
use Rattle.graphql_ast.specs.declared.type_system.FieldDefinition.{FieldDefinition}
use Rattle.apollo_schema.specs.declared.schema.Schema.{Schema}
use Rattle.apollo_document.specs.Typable.{child_of, is_bare, typable_field, typable_fragment, if_typable}

-- this value where the node stands
abbrev pub in_place_of : {A B : Type 0} → NodeView A → B → NodeView B
in_place_of n b = record { value = b; location = n.location }

-- what a selection leaves in a type: itself stripped, if it is typable there
abbrev pub SS : Type 0
SS = NameView → Option Selection

-- what a field leaves in a type: itself stripped, if it is typable there
abbrev pub SF : Type 0
SF = NameView → Option Field

-- what an inline fragment leaves in a type: itself stripped, if it is typable there
abbrev pub SI : Type 0
SI = NameView → Option InlineFragment

-- one level of a selection
abbrev pub strip_step : Selection-F SS SF SI → SS
strip_step (Selection-F.Field n) ty =
    option_map (λ (f : Field). roll-Selection (Selection-F.Field (in_place_of n f))) (n.value ty)
strip_step (Selection-F.FragmentSpread n) ty = Some (roll-Selection (Selection-F.FragmentSpread n))
strip_step (Selection-F.InlineFragment n) ty =
    option_map (λ (f : InlineFragment). roll-Selection (Selection-F.InlineFragment (in_place_of n f)))
    (n.value ty)

-- what selections leave in a type
abbrev pub stripped_below : List SS → NameView → List Selection
stripped_below ss ty = filter_map (λ (s : SS). s ty) ss

-- a field of this definition, with what its subselections leave in its child type
abbrev pub kept_field : Option NameView → NameView → List (NodeView Argument) → DirectiveList
    → (NameView → List Selection) → NodeView FieldDefinition → Field
kept_field alias name arguments directives below d =
    roll-Field (record {
      alias = alias;
      name = name;
      arguments = arguments;
      directives = directives;
      selection_set = below (child_of d);
    })

-- an inline fragment with this child type, with what its selections leave in that
abbrev pub kept_fragment : Option NameView → DirectiveList → (NameView → List Selection) → NameView
    → InlineFragment
kept_fragment condition directives below child =
    roll-InlineFragment (record {
      type_condition = condition;
      directives = directives;
      selection_set = below child;
    })

-- one level of a field
abbrev pub strip_field_step : Option Schema → Field-F SS SF SI → SF
strip_field_step s f ty =
    if_typable (kept_field f.alias f.name f.arguments f.directives (stripped_below f.selection_set))
    (typable_field s ty f.name (is_bare f.selection_set))

-- one level of an inline fragment
abbrev pub strip_fragment_step : Option Schema → InlineFragment-F SS SF SI → SI
strip_fragment_step s f ty =
    if_typable (kept_fragment f.type_condition f.directives (stripped_below f.selection_set))
    (typable_fragment s ty f.type_condition)

-- a selection stripped in a type, if it is typable there
abbrev pub stripped_selection : Option Schema → NameView → Selection → Option Selection
stripped_selection s ty x =
    folds.fold-Selection SS SF SI strip_step (strip_field_step s) (strip_fragment_step s) x ty

-- a field stripped in a type, if it is typable there
abbrev pub stripped_field : Option Schema → NameView → Field → Option Field
stripped_field s ty f = folds.fold-Field SS SF SI strip_step (strip_field_step s) (strip_fragment_step s) f ty

-- an inline fragment stripped in a type, if it is typable there
abbrev pub stripped_inline_fragment : Option Schema → NameView → InlineFragment → Option InlineFragment
stripped_inline_fragment s ty f =
    folds.fold-InlineFragment SS SF SI strip_step (strip_field_step s) (strip_fragment_step s) f ty

-- a list of selections stripped in a type
abbrev pub stripped : Option Schema → NameView → List Selection → List Selection
stripped s ty xs = filter_map (stripped_selection s ty) xs
