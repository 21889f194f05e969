use Rattle.std.proofs.Common.{◌≡◌, ℕ, List, ◌++◌}
use Rattle.std.specs.Fmt.{HasWritten, IsPlainFormatter}
use Rattle.std.specs.Slice.Iter.{iter_rest}
use Rattle.apollo_document.specs.PathTexts.{keys_text, path_text}
use Rattle.apollo_document.proofs.selection_path.SelectionPathDisplay.fmt.Given as goal

abbrev pub invariant-loop-key : goal.invariant-loop-key
invariant-loop-key g l = IsPlainFormatter l.fn.f → (done : List ℕ) × HasWritten g.W.Write.write_str_gives
    l.fn.f done l.f × (done ++ keys_text (iter_rest l.key-iterator) ≡ path_text l.fn.self)
