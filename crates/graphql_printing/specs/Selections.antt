-- The text of selections: GraphQL specification of October 2021, sections 2.4 to 2.8.
use Rattle.std.specs.Prelude.{ℕ, List, [], ◌++◌, Option, None, Some, codes}
use Rattle.graphql_nodes.specs.NameView.{NameView}
use Rattle.graphql_ast.specs.declared.selection.Selection.{Selection, fold-Selection}
use Rattle.graphql_ast.specs.declared.selection.Selection.TheFolds.{fold-Field, fold-InlineFragment}
use Rattle.graphql_ast.specs.declared.selection.Selection.TheOpen.{Selection-F, Field-F, InlineFragment-F}
use Rattle.graphql_ast.specs.declared.selection.Field.{Field}
use Rattle.graphql_ast.specs.declared.selection.InlineFragment.{InlineFragment}
use Rattle.graphql_ast.specs.declared.selection.FragmentSpread.{FragmentSpread}
use Rattle.graphql_printing.specs.Fields.{field_head}
use Rattle.graphql_printing.specs.Layout.{braces}
use Rattle.graphql_printing.specs.Texts.{directives_text}

-- the text of what stands further in by so many blanks
abbrev pub Text : Type 0
Text = ℕ → List ℕ

-- the fragment of a name, as `...F @a`: section 2.8
abbrev pub spread_text : FragmentSpread → List ℕ
spread_text spread = codes "..." ++ spread.fragment_name.text ++ directives_text spread.directives.0

-- the type that an inline fragment is on, behind a blank, or nothing where it has none
abbrev pub condition_text : Option NameView → List ℕ
condition_text None = []
condition_text (Some name) = codes " on " ++ name.text

-- a field: its head and directives, and its selections, further in by two
abbrev pub field_step : Field-F Text Text Text → Text
field_step field indent =
    field_head indent field.alias field.name field.arguments ++ directives_text field.directives.0
    ++ braces (codes " {") indent (λ (inner : ℕ) (text : Text). text inner) field.selection_set

-- an inline fragment: its type condition and directives, and its selections, further in by two
abbrev pub inline_step : InlineFragment-F Text Text Text → Text
inline_step fragment indent =
    codes "..." ++ condition_text fragment.type_condition ++ directives_text fragment.directives.0
    ++ braces (codes " {") indent (λ (inner : ℕ) (text : Text). text inner) fragment.selection_set

-- one level of a selection, where its field or inline fragment has given its own text
abbrev pub selection_step : Selection-F Text Text Text → Text
selection_step (Selection-F.Field field) indent = field.value indent
selection_step (Selection-F.FragmentSpread spread) indent = spread_text spread.value
selection_step (Selection-F.InlineFragment fragment) indent = fragment.value indent

-- a selection, with all that stands in it: section 2.4
abbrev pub selection_text : Selection → Text
selection_text = fold-Selection Text Text Text selection_step field_step inline_step

-- a field, with all that stands in it: section 2.5
abbrev pub field_text : Field → Text
field_text = fold-Field Text Text Text selection_step field_step inline_step

-- an inline fragment, with all that stands in it: section 2.8.2
abbrev pub inline_text : InlineFragment → Text
inline_text = fold-InlineFragment Text Text Text selection_step field_step inline_step

-- selections, each on a line of its own, between an opening and its `}`, or nothing where there is none:
-- section 2.4
abbrev pub selections_behind : List ℕ → ℕ → List Selection → List ℕ
selections_behind opening indent selections =
    braces opening indent (λ (inner : ℕ) (selection : Selection). selection_text selection inner) selections

-- selections in braces, or nothing where there is none: section 2.4
abbrev pub selections_text : ℕ → List Selection → List ℕ
selections_text indent selections = selections_behind (codes "{") indent selections
