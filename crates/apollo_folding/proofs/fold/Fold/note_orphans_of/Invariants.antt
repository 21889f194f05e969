use Rattle.apollo_meaning.proofs.Prelude.{◌≡◌, map, take, extended_parts, orphan}
use Rattle.apollo_folding.specs.Noting.{noting}
use Rattle.apollo_folding.proofs.fold.Fold.note_orphans_of.Given as goal

abbrev pub invariant-loop-extension : goal.invariant-loop-extension
invariant-loop-extension l =
    l.self ≡ noting (map orphan (extended_parts (take l.extension-index l.extensions))) l.fn.self
