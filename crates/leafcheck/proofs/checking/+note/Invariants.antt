use Rattle.std.proofs.Common.{◌≡◌, ◌++◌, map}
use Rattle.leafcheck.specs.Around.{path_of}
use Rattle.leafcheck.specs.LeafFaults.{leaf_faults_in}
use Rattle.leafcheck.proofs.checking.+note.Given as goal

abbrev pub invariant-note_set-loop-selection : goal.invariant-note_set-loop-selection
invariant-note_set-loop-selection l = l.faults ≡ l.fn.faults ++ leaf_faults_in l.schema l.set.ty
    (path_of l.around) (map (λ s. s.now) l.yielded)
