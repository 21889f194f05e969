-- Untyped selections without their locations, one level at a time.
use Rattle.apollo_canonical.proofs.Prelude.{Field, InlineFragment, NodeView, None, Selection, field_step}
use Rattle.apollo_canonical.proofs.Prelude.{fold_out-Field, fold_out-InlineFragment, inline_step, map}
use Rattle.apollo_canonical.proofs.Prelude.{map-Selection, out-Field, out-InlineFragment, roll-Selection}
use Rattle.apollo_canonical.proofs.Prelude.{selection_step, ◌≡◌}
use Rattle.graphql_ast.specs.BareSelections.{bare_field, bare_inline_fragment, bare_selection}
use Rattle.graphql_ast.specs.declared.selection.Selection.{fold-roll-Selection}
use Rattle.apollo_canonical.proofs.Documents.Induction.{Layer, field, inline}

pub selection-bare : (l : Layer)
    → bare_selection (roll-Selection l) ≡ selection_step (map-Selection Selection Field InlineFragment
    Selection Field InlineFragment bare_selection bare_field bare_inline_fragment l)
selection-bare l = fold-roll-Selection Selection Field InlineFragment selection_step field_step inline_step l

abbrev pub plain_field : Field → Field
plain_field f = field_step (record (out-Field f) { selection_set = map bare_selection f.selection_set })

pub field-bare : (f : Field) → bare_field f ≡ plain_field f
field-bare f = fold_out-Field Selection Field InlineFragment selection_step field_step inline_step f

abbrev pub plain_inline : InlineFragment → InlineFragment
plain_inline f = inline_step (record (out-InlineFragment f)
    { selection_set = map bare_selection f.selection_set })

pub inline-bare : (f : InlineFragment) → bare_inline_fragment f ≡ plain_inline f
inline-bare f = fold_out-InlineFragment Selection Field InlineFragment selection_step field_step inline_step f

-- a field and an inline fragment without locations, as selections
pub field_selection-bare : (n : NodeView Field)
    → bare_selection (field n) ≡ field (record { value = plain_field n.value; location = None })
field_selection-bare n = simp (selection-bare, field-bare)

pub inline_selection-bare : (n : NodeView InlineFragment)
    → bare_selection (inline n) ≡ inline (record { value = plain_inline n.value; location = None })
inline_selection-bare n = simp (selection-bare, inline-bare)
