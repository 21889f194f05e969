-- The text of selections in the notation: docs/NOTATION.md, and GraphQL specification of October 2021,
-- sections 2.4 to 2.8.
use Rattle.std.specs.Prelude.{ℕ, ◌+◌, List, ◌++◌, Option, None, Some, codes, decimal}
use Rattle.std.specs.List.{flat_map}
use Rattle.graphql_nodes.specs.NameView.{NameView}
use Rattle.graphql_ast.specs.declared.selection.Selection.{Selection, fold-Selection}
use Rattle.graphql_ast.specs.declared.selection.Selection.TheFolds.{fold-Field, fold-InlineFragment}
use Rattle.graphql_ast.specs.declared.selection.Selection.TheOpen.{Selection-F, Field-F, InlineFragment-F}
use Rattle.graphql_ast.specs.declared.selection.Field.{Field}
use Rattle.graphql_ast.specs.declared.selection.InlineFragment.{InlineFragment}
use Rattle.graphql_ast.specs.declared.selection.FragmentSpread.{FragmentSpread}

-- the text of what stands at a depth
abbrev pub Text : Type 0
Text = ℕ → List ℕ

-- how a line of selections begins: its depth, and what is selected
abbrev pub head_text : ℕ → List ℕ → List ℕ
head_text depth kind = codes "sel " ++ decimal depth ++ codes " " ++ kind

-- the last word of a line, if there is one, and the end of the line
abbrev pub last_text : Option NameView → List ℕ
last_text None = codes "\n"
last_text (Some name) = codes " " ++ name.text ++ codes "\n"

-- the fragment of a name
abbrev pub spread_text : FragmentSpread → Text
spread_text spread depth = head_text depth (codes "spread ") ++ spread.fragment_name.text ++ codes "\n"

-- a field with its alias, if it has one; then its selections, one deeper
abbrev pub field_step : Field-F Text Text Text → Text
field_step field depth = head_text depth (codes "field ") ++ field.name.text ++ last_text field.alias
    ++ flat_map (λ (text : Text). text (depth + 1)) field.selection_set

-- an inline fragment with its type condition, if it has one; then its selections, one deeper
abbrev pub inline_step : InlineFragment-F Text Text Text → Text
inline_step fragment depth = head_text depth (codes "inline") ++ last_text fragment.type_condition
    ++ flat_map (λ (text : Text). text (depth + 1)) fragment.selection_set

-- one level of a selection, where its field or inline fragment has given its own text
abbrev pub selection_step : Selection-F Text Text Text → Text
selection_step (Selection-F.Field field) = field.value
selection_step (Selection-F.FragmentSpread spread) = spread_text spread.value
selection_step (Selection-F.InlineFragment fragment) = fragment.value

-- a selection at a depth, with all that stands in it
abbrev pub selection_text : Selection → Text
selection_text = fold-Selection Text Text Text selection_step field_step inline_step

-- a field at a depth, with all that stands in it
abbrev pub field_text : Field → Text
field_text = fold-Field Text Text Text selection_step field_step inline_step

-- an inline fragment at a depth, with all that stands in it
abbrev pub inline_text : InlineFragment → Text
inline_text = fold-InlineFragment Text Text Text selection_step field_step inline_step

-- selections at a depth, in order
abbrev pub selections_text : ℕ → List Selection → List ℕ
selections_text depth selections =
    flat_map (λ (selection : Selection). selection_text selection depth) selections
