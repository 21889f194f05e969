-- What a build folds with, and more faults behind those found so far.
use Rattle.apollo_meaning.proofs.Prelude.{◌≡◌, List, [], ◌++◌, append_assoc, append-nil, Fault}
use Rattle.apollo_folding.specs.Noting.{noting}
use Rattle.apollo_folding.specs.declared.fold.Fold.{Fold}

pub noting-none : (fold : Fold) → noting [] fold ≡ fold
noting-none fold = λ i. record fold { faults = append-nil fold.faults i }

pub noting-more : (fold : Fold) (these more : List Fault)
    → noting more (noting these fold) ≡ noting (these ++ more) fold
noting-more fold these more = λ i. record fold { faults = append_assoc fold.faults these more i }
