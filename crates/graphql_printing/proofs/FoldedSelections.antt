-- The text of a field and of an inline fragment, by the texts of their selections.
use Rattle.std.proofs.Common.{◌≡◌, ℕ, ◌+◌, List, ◌++◌, map, codes}
use Rattle.graphql_ast.specs.declared.selection.Selection.{Selection}
use Rattle.graphql_ast.specs.declared.selection.Selection.TheFolds.{fold_out-Field, fold_out-InlineFragment}
use Rattle.graphql_ast.specs.declared.selection.Field.{Field}
use Rattle.graphql_ast.specs.declared.selection.InlineFragment.{InlineFragment}
use Rattle.graphql_printing.specs.Fields.{field_head}
use Rattle.graphql_printing.specs.Layout.{braces, line_end}
use Rattle.graphql_printing.specs.Selections.{Text, condition_text, field_step, field_text, inline_step}
use Rattle.graphql_printing.specs.Selections.{inline_text, selection_step, selection_text, selections_behind}
use Rattle.graphql_printing.specs.Texts.{directives_text}
use Rattle.graphql_printing.proofs.FoldedText.{folded_inside}

-- selections come to the same where their texts are made first
behind : (indent : ℕ) (selections : List Selection)
    → braces (codes " {") indent (λ (inner : ℕ) (text : Text). text inner) (map selection_text selections)
    ≡ selections_behind (codes " {") indent selections
behind indent selections = folded_inside (codes " {" ++ line_end (indent + 2)) (line_end (indent + 2))
    (line_end indent ++ codes "}") _ selection_text selections

pub field_says : (field : Field) (indent : ℕ)
    → field_text field indent ≡ field_head indent field.alias field.name field.arguments
    ++ directives_text field.directives.0 ++ selections_behind (codes " {") indent field.selection_set
field_says field indent = rw (
  fold_out-Field Text Text Text selection_step field_step inline_step field,
  behind indent field.selection_set,
)

pub inline_says : (fragment : InlineFragment) (indent : ℕ)
    → inline_text fragment indent ≡ codes "..." ++ condition_text fragment.type_condition
    ++ directives_text fragment.directives.0 ++ selections_behind (codes " {") indent fragment.selection_set
inline_says fragment indent = rw (
  fold_out-InlineFragment Text Text Text selection_step field_step inline_step fragment,
  behind indent fragment.selection_set,
)
