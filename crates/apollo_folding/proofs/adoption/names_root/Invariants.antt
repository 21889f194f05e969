use Rattle.apollo_meaning.proofs.Prelude.{◌≡◌, ◌==◌, length, not, false, take, list_any}
use Rattle.apollo_folding.proofs.adoption.names_root.Given as goal

abbrev pub invariant-loop-extension : goal.invariant-loop-extension
invariant-loop-extension l = list_any (λ e. not (length e.value.root_operations == 0))
    (take l.extension-index l.extensions) ≡ false
