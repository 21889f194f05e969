-- What was added is the text of the selections so far.
use Rattle.std.proofs.Common.{◌≡◌, ◌++◌, string_bytes, take}
use Rattle.bench_notation.specs.SelectionText.{selections_text}
use Rattle.bench_notation.proofs.selection_printing.+push_selections.Given as goal

abbrev pub invariant-push_selections-loop-selection : goal.invariant-push_selections-loop-selection
invariant-push_selections-loop-selection l = string_bytes l.text ≡ string_bytes l.initial.text
    ++ selections_text l.depth (take l.selection-index l.selections)
