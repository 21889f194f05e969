-- The text of a field and of an inline fragment, by the texts of their selections.
use Rattle.std.proofs.Common.{◌≡◌, ◌∙◌, ℕ, ◌+◌, List, ◌++◌, ap, codes}
use Rattle.std.proofs.lemmas.List.Folds.{flat_map-map}
use Rattle.graphql_ast.specs.declared.selection.Selection.TheFolds.{fold_out-Field, fold_out-InlineFragment}
use Rattle.graphql_ast.specs.declared.selection.Field.{Field}
use Rattle.graphql_ast.specs.declared.selection.InlineFragment.{InlineFragment}
use Rattle.bench_notation.specs.SelectionText.{Text, field_step, field_text, head_text, inline_step}
use Rattle.bench_notation.specs.SelectionText.{inline_text, last_text, selection_step, selection_text}
use Rattle.bench_notation.specs.SelectionText.{selections_text}

pub field_says : (field : Field) (depth : ℕ)
    → field_text field depth ≡ head_text depth (codes "field ") ++ field.name.text ++ last_text field.alias
    ++ selections_text (depth + 1) field.selection_set
field_says field depth = ap (λ (text : Text). text depth) (fold_out-Field Text Text Text selection_step
    field_step inline_step field) ∙ ap (λ (l : List ℕ). head_text depth (codes "field ") ++ field.name.text
    ++ last_text field.alias ++ l) (flat_map-map _ selection_text
    field.selection_set)

pub inline_says : (fragment : InlineFragment) (depth : ℕ)
    → inline_text fragment depth ≡ head_text depth (codes "inline") ++ last_text fragment.type_condition
    ++ selections_text (depth + 1) fragment.selection_set
inline_says fragment depth = ap (λ (text : Text). text depth) (fold_out-InlineFragment Text Text Text
    selection_step field_step inline_step fragment) ∙ ap (λ (l : List ℕ). head_text depth (codes "inline")
    ++ last_text fragment.type_condition
    ++ l) (flat_map-map _ selection_text fragment.selection_set)
