-- The parts of selections: GraphQL specification of October 2021, sections 2.4 to 2.8.
use Rattle.std.specs.Prelude.{List, false, ◌∷◌, ◌++◌}
use Rattle.std.specs.List.{flat_map}
use Rattle.graphql_ast.specs.declared.selection.FragmentSpread.{FragmentSpread}
use Rattle.graphql_ast.specs.declared.selection.Selection.{Selection, fold-Selection}
use Rattle.graphql_ast.specs.declared.selection.Selection.TheOpen.{Field-F, InlineFragment-F, Selection-F}
use Rattle.graphql_productions.specs.TreeParts.{FragmentName, Name, TreePart, arguments_parts}
use Rattle.graphql_productions.specs.TreeParts.{directives_parts, name_parts, node_parts, option_parts}
use Rattle.graphql_productions.specs.TreeParts.{wanted_parts}

-- the parts of what is inside
abbrev pub Listed : Type 0
Listed = List TreePart

-- a fragment spread: section 2.8
abbrev pub spread_parts : FragmentSpread → List TreePart
spread_parts s = FragmentName s.fragment_name ∷ directives_parts false s.directives

-- one level of a selection, of which the parts inside are given
abbrev pub selection_step : Selection-F Listed Listed Listed → List TreePart
selection_step (Selection-F.Field n) = node_parts (λ parts. parts) n
selection_step (Selection-F.FragmentSpread n) = node_parts spread_parts n
selection_step (Selection-F.InlineFragment n) = node_parts (λ parts. parts) n

-- one level of a field: section 2.5
abbrev pub field_step : Field-F Listed Listed Listed → List TreePart
field_step f =
    option_parts name_parts f.alias
    ++ (Name f.name
    ∷ (arguments_parts false f.arguments
    ++ (directives_parts false f.directives ++ flat_map (λ parts. parts) f.selection_set)))

-- one level of an inline fragment: section 2.8.2
abbrev pub inline_step : InlineFragment-F Listed Listed Listed → List TreePart
inline_step f =
    option_parts name_parts f.type_condition
    ++ (directives_parts false f.directives ++ wanted_parts (λ parts. parts) f.selection_set)

-- a selection, and what is below it
unfoldable pub selection_parts : Selection → List TreePart
selection_parts = fold-Selection Listed Listed Listed selection_step field_step inline_step
