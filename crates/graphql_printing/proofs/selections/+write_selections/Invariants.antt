-- What was written is the selections so far.
use Rattle.std.proofs.Common.{take}
use Rattle.std.specs.Fmt.{HasWritten, IsPlainFormatter}
use Rattle.graphql_ast.specs.declared.selection.Selection.{Selection}
use Rattle.graphql_printing.specs.Layout.{each_behind, line_end}
use Rattle.graphql_printing.specs.Selections.{selection_text}
use Rattle.graphql_printing.proofs.selections.+write_selections.Given as goal

abbrev pub invariant-write_selections-loop-selection : goal.invariant-write_selections-loop-selection
invariant-write_selections-loop-selection g l = IsPlainFormatter l.initial.f
    → HasWritten g.W.Write.write_str_gives l.initial.f (each_behind (line_end l.inner)
    (λ (selection : Selection). selection_text selection l.inner) (take l.selection-index l.others)) l.f
